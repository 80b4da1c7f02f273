-- The value at a place of a row, as what its kind says that it is; where another value stands there, a first one.
use Rattle.std.specs.Prelude.{ℕ, List, Bool, false, Option, Some, None, slice_get, replicate}
use Rattle.mip_words.specs.declared.address.Address.{Address}
use Rattle.mip_words.specs.declared.ids.LinkId.{LinkId}
use Rattle.mip_words.specs.declared.ids.NodeId.{NodeId}
use Rattle.mip_words.specs.declared.moment.Moment.{Moment}
use Rattle.mip_words.specs.declared.token.Token.{Token}
use Rattle.mip_words.specs.declared.why.Why.{Why}
use Rattle.mip_words.specs.declared.why.Why.TheVariants as whys
use Rattle.mip_rows.specs.declared.value.Value.{Value}
use Rattle.mip_rows.specs.declared.value.Value.TheVariants as values

abbrev u8_in : Option Value → ℕ
u8_in (Some (values.U8 x)) = x
u8_in _ = 0

abbrev pub u8_at : List Value → ℕ → ℕ
u8_at vs place = u8_in (slice_get vs place)

abbrev u16_in : Option Value → ℕ
u16_in (Some (values.U16 x)) = x
u16_in _ = 0

abbrev pub u16_at : List Value → ℕ → ℕ
u16_at vs place = u16_in (slice_get vs place)

abbrev u32_in : Option Value → ℕ
u32_in (Some (values.U32 x)) = x
u32_in _ = 0

abbrev pub u32_at : List Value → ℕ → ℕ
u32_at vs place = u32_in (slice_get vs place)

abbrev u64_in : Option Value → ℕ
u64_in (Some (values.U64 x)) = x
u64_in _ = 0

abbrev pub u64_at : List Value → ℕ → ℕ
u64_at vs place = u64_in (slice_get vs place)

abbrev moment_in : Option Value → Moment
moment_in (Some (values.Moment x)) = x
moment_in _ = record { 0 = 0 }

abbrev pub moment_at : List Value → ℕ → Moment
moment_at vs place = moment_in (slice_get vs place)

abbrev address_in : Option Value → Address
address_in (Some (values.Address x)) = x
address_in _ = record { 0 = 0 }

abbrev pub address_at : List Value → ℕ → Address
address_at vs place = address_in (slice_get vs place)

abbrev token_in : Option Value → Token
token_in (Some (values.Token x)) = x
token_in _ = record { 0 = replicate 8 0 }

abbrev pub token_at : List Value → ℕ → Token
token_at vs place = token_in (slice_get vs place)

abbrev node_in : Option Value → NodeId
node_in (Some (values.Node x)) = x
node_in _ = record { 0 = 0 }

abbrev pub node_at : List Value → ℕ → NodeId
node_at vs place = node_in (slice_get vs place)

abbrev link_in : Option Value → LinkId
link_in (Some (values.Link x)) = x
link_in _ = record { 0 = 0 }

abbrev pub link_at : List Value → ℕ → LinkId
link_at vs place = link_in (slice_get vs place)

abbrev outsider_in : Option Value → ℕ
outsider_in (Some (values.Outsider x)) = x
outsider_in _ = 0

abbrev pub outsider_at : List Value → ℕ → ℕ
outsider_at vs place = outsider_in (slice_get vs place)

abbrev who_in : Option Value → ℕ
who_in (Some (values.Who x)) = x
who_in _ = 0

abbrev pub who_at : List Value → ℕ → ℕ
who_at vs place = who_in (slice_get vs place)

abbrev some_u16_in : Option Value → Option ℕ
some_u16_in (Some (values.SomeU16 x)) = x
some_u16_in _ = None

abbrev pub some_u16_at : List Value → ℕ → Option ℕ
some_u16_at vs place = some_u16_in (slice_get vs place)

abbrev some_u64_in : Option Value → Option ℕ
some_u64_in (Some (values.SomeU64 x)) = x
some_u64_in _ = None

abbrev pub some_u64_at : List Value → ℕ → Option ℕ
some_u64_at vs place = some_u64_in (slice_get vs place)

-- an address, or none, as a value
abbrev pub address_value : Option Address → Value
address_value (Some a) = values.Address a
address_value None = values.NoAddress

abbrev some_address_in : Option Value → Option Address
some_address_in (Some (values.Address a)) = Some a
some_address_in _ = None

abbrev pub some_address_at : List Value → ℕ → Option Address
some_address_at vs place = some_address_in (slice_get vs place)

abbrev some_token_in : Option Value → Option Token
some_token_in (Some (values.SomeToken x)) = x
some_token_in _ = None

abbrev pub some_token_at : List Value → ℕ → Option Token
some_token_at vs place = some_token_in (slice_get vs place)

abbrev some_link_in : Option Value → Option LinkId
some_link_in (Some (values.SomeLink x)) = x
some_link_in _ = None

abbrev pub some_link_at : List Value → ℕ → Option LinkId
some_link_at vs place = some_link_in (slice_get vs place)

abbrev shield_in : Option Value → Bool
shield_in (Some (values.Shield x)) = x
shield_in _ = false

abbrev pub shield_at : List Value → ℕ → Bool
shield_at vs place = shield_in (slice_get vs place)

abbrev answer_in : Option Value → Bool
answer_in (Some (values.Answer x)) = x
answer_in _ = false

abbrev pub answer_at : List Value → ℕ → Bool
answer_at vs place = answer_in (slice_get vs place)

abbrev why_in : Option Value → Why
why_in (Some (values.Why x)) = x
why_in _ = whys.NoLink

abbrev pub why_at : List Value → ℕ → Why
why_at vs place = why_in (slice_get vs place)
