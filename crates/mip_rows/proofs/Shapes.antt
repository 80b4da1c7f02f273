-- Rows by their types: what a row of these kinds is made of. A table of lines is inverted at such rows, where it computes.
use Rattle.std.proofs.Common.{◌≡◌, ℕ, List, [], ◌∷◌, Bool, refl, ap, ◌∙◌}
use Rattle.std.specs.Prelude.{Option, Some, None}
use Rattle.mip_words.specs.declared.address.Address.{Address}
use Rattle.mip_words.specs.declared.ids.LinkId.{LinkId}
use Rattle.mip_words.specs.declared.ids.NodeId.{NodeId}
use Rattle.mip_words.specs.declared.moment.Moment.{Moment}
use Rattle.mip_words.specs.declared.token.Token.{Token}
use Rattle.mip_words.specs.declared.why.Why.{Why}
use Rattle.mip_symbols.specs.declared.declaration.Declaration.{Declaration}
use Rattle.mip_rows.specs.Values.{address_value}
use Rattle.mip_rows.specs.Ranges.{IsOfKind, AreOfKinds}
use Rattle.mip_rows.specs.declared.field_kind.Kind.{Kind}
use Rattle.mip_rows.specs.declared.field_kind.Kind.TheVariants as kinds
use Rattle.mip_rows.specs.declared.value.Value.{Value}
use Rattle.mip_rows.specs.declared.value.Value.TheVariants as values

-- what a value of this kind holds
abbrev pub Shape : Kind → Type 0
Shape kinds.U8 = ℕ
Shape kinds.U16 = ℕ
Shape kinds.U32 = ℕ
Shape kinds.U64 = ℕ
Shape kinds.Cause = ℕ
Shape kinds.Moment = Moment
Shape kinds.Address = Address
Shape kinds.Token = Token
Shape kinds.Node = NodeId
Shape kinds.Link = LinkId
Shape kinds.Outsider = ℕ
Shape kinds.Who = ℕ
Shape kinds.SomeU16 = Option ℕ
Shape kinds.SomeU64 = Option ℕ
Shape kinds.SomeAddress = Option Address
Shape kinds.SomeToken = Option Token
Shape kinds.SomeLink = Option LinkId
Shape kinds.Shield = Bool
Shape kinds.Answer = Bool
Shape kinds.Gone = Why
Shape kinds.Unsent = Why
Shape kinds.Dropped = Why

abbrev pub pack : (k : Kind) → Shape k → Value
pack kinds.U8 x = values.U8 x
pack kinds.U16 x = values.U16 x
pack kinds.U32 x = values.U32 x
pack kinds.U64 x = values.U64 x
pack kinds.Cause x = values.U8 x
pack kinds.Moment x = values.Moment x
pack kinds.Address x = values.Address x
pack kinds.Token x = values.Token x
pack kinds.Node x = values.Node x
pack kinds.Link x = values.Link x
pack kinds.Outsider x = values.Outsider x
pack kinds.Who x = values.Who x
pack kinds.SomeU16 x = values.SomeU16 x
pack kinds.SomeU64 x = values.SomeU64 x
pack kinds.SomeAddress x = address_value x
pack kinds.SomeToken x = values.SomeToken x
pack kinds.SomeLink x = values.SomeLink x
pack kinds.Shield x = values.Shield x
pack kinds.Answer x = values.Answer x
pack kinds.Gone x = values.Why x
pack kinds.Unsent x = values.Why x
pack kinds.Dropped x = values.Why x

abbrev pub Shapes : List Kind → Type 0
Shapes [] = Unit {0}
Shapes (k ∷ ks) = Shape k × Shapes ks

abbrev pub packs : (ks : List Kind) → Shapes ks → List Value
packs [] xs = []
packs (k ∷ ks) xs = pack k xs.0 ∷ packs ks xs.1

shaped_one : (ds : List Declaration) (k : Kind) (v : Value) → IsOfKind ds k v → (x : Shape k) × (v ≡ pack k x)
shaped_one ds kinds.U8 (values.U8 x) is = (x, refl)
shaped_one ds kinds.U16 (values.U16 x) is = (x, refl)
shaped_one ds kinds.U32 (values.U32 x) is = (x, refl)
shaped_one ds kinds.U64 (values.U64 x) is = (x, refl)
shaped_one ds kinds.Cause (values.U8 x) is = (x, refl)
shaped_one ds kinds.Moment (values.Moment x) is = (x, refl)
shaped_one ds kinds.Address (values.Address x) is = (x, refl)
shaped_one ds kinds.Token (values.Token x) is = (x, refl)
shaped_one ds kinds.Node (values.Node x) is = (x, refl)
shaped_one ds kinds.Link (values.Link x) is = (x, refl)
shaped_one ds kinds.Outsider (values.Outsider x) is = (x, refl)
shaped_one ds kinds.Who (values.Who x) is = (x, refl)
shaped_one ds kinds.SomeU16 (values.SomeU16 x) is = (x, refl)
shaped_one ds kinds.SomeU64 (values.SomeU64 x) is = (x, refl)
shaped_one ds kinds.SomeAddress (values.Address a) is = (Some a, refl)
shaped_one ds kinds.SomeAddress values.NoAddress is = (None, refl)
shaped_one ds kinds.SomeToken (values.SomeToken x) is = (x, refl)
shaped_one ds kinds.SomeLink (values.SomeLink x) is = (x, refl)
shaped_one ds kinds.Shield (values.Shield x) is = (x, refl)
shaped_one ds kinds.Answer (values.Answer x) is = (x, refl)
shaped_one ds kinds.Gone (values.Why x) is = (x, refl)
shaped_one ds kinds.Unsent (values.Why x) is = (x, refl)
shaped_one ds kinds.Dropped (values.Why x) is = (x, refl)
shaped_one ds _ _ is = absurd is

-- values of these kinds are packed
pub shaped : (ds : List Declaration) (ks : List Kind) (vs : List Value) → AreOfKinds ds ks vs → (xs : Shapes ks) × (vs ≡ packs ks xs)
shaped ds [] [] are = (tt, refl)
shaped ds (k ∷ ks) (v ∷ vs) are =
    let first = shaped_one ds k v are.0 in
    let more = shaped ds ks vs are.1 in
    ((first.0, more.0), ap (λ (w : Value). w ∷ vs) first.1 ∙ ap (λ (ws : List Value). pack k first.0 ∷ ws) more.1)
shaped ds _ _ are = absurd are
