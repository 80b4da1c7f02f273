-- The first packet of each update.
use Rattle.std.specs.Prelude.{ℕ, List, Option}
use Rattle.std.specs.Ordering.{nat_cmp, ordering_then}
use Rattle.std.specs.Cmp.Lexicographic.{slice_cmp}
use Rattle.std.specs.BTreeMap.{get}
use Rattle.std.specs.declared.alloc.Global.{Global}
use Rattle.std.specs.declared.vec.Vec.{Vec}
use Rattle.std.specs.declared.cmp.Ordering.{Ordering}
use Rattle.mip_packets.specs.Says.{UpdateIdentity}
use Rattle.mip_provenance_index.specs.declared.firsts.Firsts.{Firsts}
use Rattle.mip_provenance_index.specs.declared.first.First.{First}

-- an update as a key
abbrev pub UpdateKey : Type 0
UpdateKey = ℕ × ℕ × List ℕ × Vec ℕ Global

abbrev pub key_named : UpdateKey → UpdateIdentity
key_named k = record { home = record { 0 = k.0 }; careof = record { 0 = k.1 }; authenticator = k.2; message = k.3.items }

abbrev pub key_cmp : UpdateKey → UpdateKey → Ordering
key_cmp a b = ordering_then (ordering_then (ordering_then (nat_cmp a.0 b.0) (nat_cmp a.1 b.1)) (slice_cmp nat_cmp a.2 b.2)) (slice_cmp nat_cmp a.3.items b.3.items)

abbrev pub first_at : Firsts → UpdateKey → Option First
first_at a k = get key_cmp a.map k
