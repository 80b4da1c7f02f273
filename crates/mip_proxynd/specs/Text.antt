-- The text of the claims of a history.
use Rattle.std.specs.Prelude.{ℕ, zero, suc, ◌-◌, List, [], ◌∷◌, ◌++◌, length, ◌==◌, nat_lt, if◌then◌else◌, Option, Some, None, codes}
use Rattle.std.specs.List.{flat_map}
use Rattle.std.specs.Map.{values_of}
use Rattle.mip_words.specs.Holders.{first_outsider}
use Rattle.mip_words.specs.declared.address.Address.{Address}
use Rattle.mip_lines.specs.HexFields.{address_hex, hex_text}
use Rattle.mip_lines.specs.Lines.{line_text}
use Rattle.mip_symbols.specs.Places.{members}
use Rattle.mip_symbols.specs.Spelled.{link_text, node_text, outsider_text}
use Rattle.mip_symbols.specs.declared.declaration.Declaration.{Declaration}
use Rattle.mip_symbols.specs.declared.places.Sort.TheVariants as sorts
use Rattle.mip_entries.specs.declared.entry.Entry.{Entry}
use Rattle.mip_entries.specs.declared.entry.Entry.TheVariants.{Claimed}
use Rattle.mip_proxynd.specs.declared.claim.Claim.{Claim}
use Rattle.mip_proxynd.specs.Adverts.{layer_of}
use Rattle.mip_proxynd.specs.Claims.{Rows, row_of, rows_in}
use Rattle.mip_proxynd.specs.Fields.{is_group}
use Rattle.mip_proxynd.specs.Packets.{advert_packet, solicit_packet, answer_packet}

-- the name of the holder with this number
unfoldable pub who_text : List Declaration → ℕ → List ℕ
who_text ds who = if nat_lt who first_outsider then node_text ds (record { 0 = who }) else outsider_text ds (who - first_outsider)

-- `advert LINK WHO PACKET`
abbrev pub advert_line : List Declaration → Claim → List ℕ
advert_line ds c = line_text (codes "advert" ∷ link_text ds c.link ∷ who_text ds c.who ∷ hex_text (advert_packet ds c.who c.address) ∷ [])

-- the line of a `claimed` entry; nobody advertises a multicast address
abbrev pub advert_of : List Declaration → Entry → List ℕ
advert_of ds (Claimed who link address) = if is_group address then [] else advert_line ds (record { link = link; address = address; who = who })
advert_of ds _ = []

abbrev pub adverts : List Declaration → List Entry → List ℕ
adverts ds entries = flat_map (advert_of ds) entries

-- `holds LINK ADDRESS LAYER`
abbrev pub holds_line : List Declaration → Claim → List ℕ
holds_line ds c = line_text (codes "holds" ∷ link_text ds c.link ∷ address_hex c.address ∷ hex_text (layer_of c.who) ∷ [])

-- the line of a claim that stands on a link
abbrev pub holds_of : List Declaration → ℕ → Option Claim → List ℕ
holds_of ds link (Some c) = if c.link.0 == link then holds_line ds c else []
holds_of ds link None = []

-- those of all claims that stand on a link, by address
abbrev pub holds_on : List Declaration → Rows → ℕ → List ℕ
holds_on ds rows link = flat_map (holds_of ds link) (values_of rows)

-- those of the first n links
abbrev pub holds_upto : List Declaration → Rows → ℕ → List ℕ
holds_upto ds rows zero = []
holds_upto ds rows (suc n) = holds_upto ds rows n ++ holds_on ds rows n

-- those of all declared links, in the order of declaration
unfoldable pub holds : List Declaration → Rows → List ℕ
holds ds rows = holds_upto ds rows (length (members sorts.Link ds))

-- `solicit LINK PACKET` and `answer WHO PACKET`
abbrev pub answered : List Declaration → Address → Claim → List ℕ
answered ds address c =
    line_text (codes "solicit" ∷ link_text ds c.link ∷ hex_text (solicit_packet address) ∷ [])
    ++ line_text (codes "answer" ∷ who_text ds c.who ∷ hex_text (answer_packet ds c.who address) ∷ [])

abbrev pub silent : List ℕ
silent = line_text (codes "silent" ∷ [])

-- what is answered where an address is asked for
abbrev pub answer_of : List Declaration → Address → Option Claim → List ℕ
answer_of ds address None = silent
answer_of ds address (Some c) = if is_group address then silent else answered ds address c

abbrev pub asked_text : List Declaration → Rows → Option Address → List ℕ
asked_text ds rows None = []
asked_text ds rows (Some address) = answer_of ds address (row_of rows address.0)

-- what stands behind the advertisements
abbrev pub end_text : List Declaration → Rows → Option Address → List ℕ
end_text ds rows ask = holds ds rows ++ asked_text ds rows ask

-- the text: the advertisements in order, then the claims that stand, then what is answered
abbrev pub claims_text : List Declaration → List Entry → Option Address → List ℕ
claims_text ds history ask = adverts ds history ++ end_text ds (rows_in [] history) ask
