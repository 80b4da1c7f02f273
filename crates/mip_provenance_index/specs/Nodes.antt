-- What is known of nodes.
use Rattle.std.specs.Prelude.{ℕ, unwrap_or}
use Rattle.std.specs.Ordering.{nat_cmp}
use Rattle.std.specs.BTreeMap.{get}
pub use Rattle.mip_provenance.specs.KnownNodes.{stranger, known_step}
use Rattle.mip_provenance_index.specs.declared.nodes.Nodes.{Nodes}
use Rattle.mip_provenance.specs.declared.known.Known.{Known}

abbrev pub known_at : Nodes → ℕ → Known
known_at a n = unwrap_or (get nat_cmp a.map n) stranger
