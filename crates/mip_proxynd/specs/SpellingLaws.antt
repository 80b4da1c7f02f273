-- Laws and invariants of Spelling: only proofs stand on them.
use Rattle.std.specs.Prelude.{◌≡◌, ℕ, ◌^◌, ◌<◌, List, length, Option, IfSome}
use Rattle.mip_words.specs.declared.address.Address.{Address}
use Rattle.mip_proxynd.specs.declared.neighbour.Neighbour.{Neighbour}
use Rattle.mip_proxynd.specs.declared.neighbour.Neighbour.TheVariants.{Solicit, Advert}

-- a target and a link-layer address that have a place in a message
abbrev pub HasPlace : Address → Option (List ℕ) → Type 0
HasPlace target layer = (target.0 < 2 ^ 128) × IfSome layer (λ bytes. length bytes ≡ 6)

abbrev pub Fits : Neighbour → Type 0
Fits (Solicit target layer) = HasPlace target layer
Fits (Advert router solicited over target layer) = HasPlace target layer
