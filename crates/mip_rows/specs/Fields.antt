-- Fields of each kind, as they are read.
use Rattle.std.specs.Prelude.{ℕ, ◌+◌, List, Bool, true, false, if◌then◌else◌, Option, Result, Ok, Err, codes}
use Rattle.std.specs.Str.{bytes_eq}
use Rattle.mip_words.specs.Hex.{unhex_exact}
use Rattle.mip_words.specs.Steps.{◌>>=◌}
use Rattle.mip_words.specs.declared.address.Address.{Address}
use Rattle.mip_words.specs.declared.moment.Moment.{Moment}
use Rattle.mip_words.specs.declared.token.Token.{Token}
use Rattle.mip_words.specs.declared.why.Why.{Why}
use Rattle.mip_lines.specs.HexFields.{address_in, hex_field}
use Rattle.mip_symbols.specs.Kinds as kinds
pub use Rattle.mip_symbols.specs.Kinds.{or_reason}
unfoldable pub use Rattle.mip_symbols.specs.Kinds.{number, place, link, node, outsider, some_link}
use Rattle.mip_symbols.specs.declared.declaration.Declaration.{Declaration}
use Rattle.mip_symbols.specs.declared.places.Sort.TheVariants as sorts
use Rattle.mip_symbols.specs.declared.reason.Reason.{Reason}
use Rattle.mip_symbols.specs.declared.reason.Reason.TheVariants as reasons
use Rattle.mip_rows.specs.Whys.{why_among}

abbrev pub u8 : List ℕ → Result ℕ Reason
u8 field = number 0 255 field

abbrev pub u16 : List ℕ → Result ℕ Reason
u16 field = number 0 65535 field

abbrev pub u32 : List ℕ → Result ℕ Reason
u32 field = number 0 4294967295 field

abbrev pub u64 : List ℕ → Result ℕ Reason
u64 field = number 0 18446744073709551615 field

unfoldable pub moment : List ℕ → Result Moment Reason
moment field = do
  x ← u64 field
  Ok (record { 0 = x })

unfoldable pub address : List ℕ → Result Address Reason
address field = or_reason reasons.Address (address_in field)

unfoldable pub token : List ℕ → Result Token Reason
token field = do
  bytes ← or_reason reasons.Hex (unhex_exact 8 field)
  Ok (record { 0 = bytes })

-- the bytes of a packet or of data, of which a text has fewer than 2 to the 32
unfoldable pub bytes : List ℕ → Result (List ℕ) Reason
bytes field = or_reason reasons.Hex (hex_field 4294967295 field)

abbrev pub node_or_outsider : Result ℕ Reason → Result ℕ Reason → Result ℕ Reason
node_or_outsider (Ok n) o = Ok n
node_or_outsider (Err bad) (Ok o) = Ok (32 + o)
node_or_outsider (Err bad) (Err e) = Err e

-- a node by its number, or an outsider by 32 more than its number
unfoldable pub who : List Declaration → List ℕ → Result ℕ Reason
who ds field = node_or_outsider (place sorts.Node ds field) (outsider ds field)

-- `-` for none
abbrev pub or_none : {A : Type 0} → (List ℕ → Result A Reason) → List ℕ → Result (Option A) Reason
or_none read field = kinds.or_none (codes "-") read field

unfoldable pub some_address : List ℕ → Result (Option Address) Reason
some_address field = or_none address field

unfoldable pub some_token : List ℕ → Result (Option Token) Reason
some_token field = or_none token field

unfoldable pub some_u64 : List ℕ → Result (Option ℕ) Reason
some_u64 field = or_none u64 field

unfoldable pub some_u16 : List ℕ → Result (Option ℕ) Reason
some_u16 field = or_none u16 field

-- the first of two words, or the second
abbrev pub either_word : List ℕ → List ℕ → List ℕ → Result Bool Reason
either_word first second field =
    if bytes_eq field first then Ok true
    else if bytes_eq field second then Ok false
    else Err reasons.Name

unfoldable pub shield : List ℕ → Result Bool Reason
shield field = either_word (codes "+") (codes "-") field

unfoldable pub answer : List ℕ → Result Bool Reason
answer field = either_word (codes "yes") (codes "no") field

-- the one of these that has this word
unfoldable pub why : List Why → List ℕ → Result Why Reason
why some field = or_reason reasons.Name (why_among some field)
