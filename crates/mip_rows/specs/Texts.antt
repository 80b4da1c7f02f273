-- Fields as they are written, and the row of values.
use Rattle.std.specs.Prelude.{ℕ, List, [], ◌∷◌, ◌++◌, Bool, if◌then◌else◌, Option, Some, None, codes, decimal, map}
use Rattle.mip_words.specs.Hex.{hex_of}
use Rattle.mip_words.specs.declared.token.Token.{Token}
use Rattle.mip_lines.specs.HexFields.{address_hex, hex_text}
use Rattle.mip_rows.specs.Names.{Names, node_name, link_name, outsider_name, who_name}
use Rattle.mip_rows.specs.PacketKinds.{kind_of}
use Rattle.mip_rows.specs.Whys.{why_word}
use Rattle.mip_rows.specs.declared.tail.Tail.{Tail}
use Rattle.mip_rows.specs.declared.tail.Tail.TheVariants as tails
use Rattle.mip_rows.specs.declared.value.Value.{Value}
use Rattle.mip_rows.specs.declared.value.Value.TheVariants as values

-- `-` for none
abbrev pub or_dash : {A : Type 0} → (A → List ℕ) → Option A → List ℕ
or_dash text (Some x) = text x
or_dash text None = codes "-"

abbrev pub token_hex : Token → List ℕ
token_hex token = hex_of token.0

-- a shielded packet is marked
abbrev pub shield_mark : Bool → List ℕ
shield_mark shielded = if shielded then codes "+" else codes "-"

abbrev pub yes_or_no : Bool → List ℕ
yes_or_no answer = if answer then codes "yes" else codes "no"

-- the field of a value
abbrev pub value_text : Names → Value → List ℕ
value_text names (values.U8 x) = decimal x
value_text names (values.U16 x) = decimal x
value_text names (values.U32 x) = decimal x
value_text names (values.U64 x) = decimal x
value_text names (values.Moment m) = decimal m.0
value_text names (values.Address a) = address_hex a
value_text names (values.Token t) = token_hex t
value_text names (values.Node n) = node_name names n
value_text names (values.Link l) = link_name names l
value_text names (values.Outsider o) = outsider_name names o
value_text names (values.Who w) = who_name names w
value_text names (values.SomeU16 o) = or_dash decimal o
value_text names (values.SomeU64 o) = or_dash decimal o
value_text names values.NoAddress = codes "-"
value_text names (values.SomeToken o) = or_dash token_hex o
value_text names (values.SomeLink o) = or_dash (link_name names) o
value_text names (values.Shield b) = shield_mark b
value_text names (values.Answer b) = yes_or_no b
value_text names (values.Why w) = why_word w

-- the fields of a row's tail: its bytes, before which stands the word of their kind where they are a packet
abbrev pub tail_texts : Tail → List ℕ → List (List ℕ)
tail_texts tails.Nothing bytes = []
tail_texts tails.Bytes bytes = hex_text bytes ∷ []
tail_texts tails.Packet bytes = kind_of bytes ∷ hex_text bytes ∷ []

-- the fields of a row: those of its values, and those of its tail
abbrev pub row_texts : Names → List Value → Tail → List ℕ → List (List ℕ)
row_texts names vs tail bytes = map (value_text names) vs ++ tail_texts tail bytes
