-- The advertisements that the claims of a history stand for.
use Rattle.std.specs.Prelude.{ℕ, List, [], ◌∷◌, false, true, Some, if◌then◌else◌}
use Rattle.std.specs.List.{flat_map}
use Rattle.mip_words.specs.declared.address.Address.{Address}
use Rattle.mip_entries.specs.declared.entry.Entry.{Entry}
use Rattle.mip_entries.specs.declared.entry.Entry.TheVariants.{Claimed}
use Rattle.mip_proxynd.specs.declared.neighbour.Neighbour.{Neighbour}
use Rattle.mip_proxynd.specs.declared.neighbour.Neighbour.TheVariants.{Advert}
use Rattle.mip_proxynd.specs.Fields.{is_group}
use Rattle.mip_proxynd.specs.Tables.{Heard}

-- the link-layer address of a holder: 02, four zero bytes, and its number
abbrev pub layer_of : ℕ → List ℕ
layer_of who = 2 ∷ 0 ∷ 0 ∷ 0 ∷ 0 ∷ who ∷ []

-- what a holder advertises when it claims an address: no router, not solicited, and it overrides
abbrev pub advert : ℕ → Address → Neighbour
advert who address = Advert false false true address (Some (layer_of who))

-- what is heard of a claim on its link; nobody advertises a multicast address
abbrev pub heard_of : Entry → List Heard
heard_of (Claimed who link address) = if is_group address then [] else record { link = link.0; message = advert who address } ∷ []
heard_of _ = []

abbrev pub adverts_heard : List Entry → List Heard
adverts_heard history = flat_map heard_of history
