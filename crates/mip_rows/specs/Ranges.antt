-- The values that a field of each kind can have: each name is declared, each number within its range, and each reason
-- one of those that may stand there.
use Rattle.std.specs.Prelude.{◌≡◌, ◌⊎◌, ℕ, ◌+◌, ◌<◌, ◌^◌, List, [], ◌∷◌, length, Some}
use Rattle.mip_words.specs.Numbers.{IsBytes}
use Rattle.mip_symbols.specs.Places.{members}
use Rattle.mip_symbols.specs.declared.declaration.Declaration.{Declaration}
use Rattle.mip_symbols.specs.declared.places.Sort.TheVariants as sorts
pub use Rattle.mip_schedule.specs.Lawful.{IsNode, IsLink, IsOutsider}
pub use Rattle.mip_entries.specs.Widths.{IsNumber, IsMoment, IsAddress, IsToken, IfPresent}
pub use Rattle.mip_entries.specs.Reasons.{IsCause}
use Rattle.mip_rows.specs.Texts.{row_texts}
use Rattle.mip_rows.specs.Whys.{gone_whys, unsent_whys, dropped_whys, IsAmong}
use Rattle.mip_rows.specs.declared.field_kind.Kind.{Kind}
use Rattle.mip_rows.specs.declared.field_kind.Kind.TheVariants as kinds
use Rattle.mip_rows.specs.declared.row.Row.{Row}
use Rattle.mip_rows.specs.declared.tail.Tail.{Tail}
use Rattle.mip_rows.specs.declared.tail.Tail.TheVariants as tails
use Rattle.mip_rows.specs.declared.value.Value.{Value}
use Rattle.mip_rows.specs.declared.value.Value.TheVariants as values

-- bytes, fewer than a text may have
abbrev pub AreBytes : List ℕ → Type 0
AreBytes bytes = (length bytes < 2 ^ 32) × IsBytes bytes

-- a node by its number, or an outsider by 32 more than its number
abbrev pub IsWho : List Declaration → ℕ → Type 0
IsWho ds who = (who < length (members sorts.Node ds)) ⊎ ((outsider : ℕ) × IsOutsider ds outsider × (who ≡ 32 + outsider))

-- a value of this kind
abbrev pub IsOfKind : List Declaration → Kind → Value → Type 0
IsOfKind ds kinds.U8 (values.U8 x) = IsNumber 8 x
IsOfKind ds kinds.U16 (values.U16 x) = IsNumber 16 x
IsOfKind ds kinds.U32 (values.U32 x) = IsNumber 32 x
IsOfKind ds kinds.U64 (values.U64 x) = IsNumber 64 x
IsOfKind ds kinds.Cause (values.U8 x) = IsCause x
IsOfKind ds kinds.Moment (values.Moment m) = IsMoment m
IsOfKind ds kinds.Address (values.Address a) = IsAddress a
IsOfKind ds kinds.Token (values.Token t) = IsToken t
IsOfKind ds kinds.Node (values.Node n) = IsNode ds n
IsOfKind ds kinds.Link (values.Link l) = IsLink ds l
IsOfKind ds kinds.Outsider (values.Outsider o) = IsOutsider ds o
IsOfKind ds kinds.Who (values.Who w) = IsWho ds w
IsOfKind ds kinds.SomeU16 (values.SomeU16 o) = IfPresent (IsNumber 16) o
IsOfKind ds kinds.SomeU64 (values.SomeU64 o) = IfPresent (IsNumber 64) o
IsOfKind ds kinds.SomeAddress (values.Address a) = IsAddress a
IsOfKind ds kinds.SomeAddress values.NoAddress = Unit {0}
IsOfKind ds kinds.SomeToken (values.SomeToken o) = IfPresent IsToken o
IsOfKind ds kinds.SomeLink (values.SomeLink o) = IfPresent (IsLink ds) o
IsOfKind ds kinds.Shield (values.Shield b) = Unit {0}
IsOfKind ds kinds.Answer (values.Answer b) = Unit {0}
IsOfKind ds kinds.Gone (values.Why w) = IsAmong gone_whys w
IsOfKind ds kinds.Unsent (values.Why w) = IsAmong unsent_whys w
IsOfKind ds kinds.Dropped (values.Why w) = IsAmong dropped_whys w
IsOfKind ds _ _ = ⊥

-- values of these kinds, one by one
abbrev pub AreOfKinds : List Declaration → List Kind → List Value → Type 0
AreOfKinds ds [] [] = Unit {0}
AreOfKinds ds (k ∷ ks) (v ∷ vs) = IsOfKind ds k v × AreOfKinds ds ks vs
AreOfKinds ds _ _ = ⊥

-- the bytes of a row with this tail: none, where it has no tail
abbrev pub IsTail : Tail → List ℕ → Type 0
IsTail tails.Nothing bytes = bytes ≡ []
IsTail tails.Bytes bytes = AreBytes bytes
IsTail tails.Packet bytes = AreBytes bytes

-- a row of these kinds and this tail
abbrev pub IsRow : List Declaration → List Kind → Tail → Row → Type 0
IsRow ds ks t r = AreOfKinds ds ks r.values × IsTail t r.bytes

-- and these are its fields
abbrev pub IsRowOf : List Declaration → List Kind → Tail → Row → List (List ℕ) → Type 0
IsRowOf ds ks t r fs = (fs ≡ row_texts (Some ds) r.values t r.bytes) × IsRow ds ks t r
