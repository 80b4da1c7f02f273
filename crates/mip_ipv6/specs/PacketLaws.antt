-- Laws and invariants of Packet: only proofs stand on them.
use Rattle.std.specs.Prelude.{◌^◌, ◌<◌, Option, IfSome}
use Rattle.mip_words.specs.declared.address.Address.{Address}
use Rattle.mip_ipv6.specs.declared.head.Head.{Head}

abbrev pub IsAddressIfAny : Option Address → Type 0
IsAddressIfAny address = IfSome address (λ a. a.0 < 2 ^ 128)

-- the numbers of a head that are not plain already are in range
pub record IsInRange (head : Head) : Type 0 where
  pub source : head.source.0 < 2 ^ 128
  pub destination : head.destination.0 < 2 ^ 128
  pub class : head.class < 256
  pub route : IsAddressIfAny head.route
  pub home : IsAddressIfAny head.home
