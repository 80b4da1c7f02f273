-- The address that each claimed first.
use Rattle.std.specs.Prelude.{ℕ, Option}
use Rattle.std.specs.Ordering.{nat_cmp}
use Rattle.std.specs.BTreeMap.{get}
use Rattle.mip_words.specs.declared.address.Address.{Address}
use Rattle.mip_provenance_index.specs.declared.addresses.Addresses.{Addresses}

abbrev pub address_at : Addresses → ℕ → Option Address
address_at a n = get nat_cmp a.map n
