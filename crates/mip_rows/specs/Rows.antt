-- Rows of fields, as they are read: the number of fields first, then the fields from the left, and the tail last.
use Rattle.std.specs.Prelude.{◌≡◌, ℕ, ◌+◌, ◌==◌, List, [], ◌∷◌, length, if◌then◌else◌, Result, Ok, Err, take, drop}
use Rattle.std.specs.Str.{bytes_eq}
use Rattle.mip_words.specs.Steps.{◌>>=◌}
use Rattle.mip_symbols.specs.declared.declaration.Declaration.{Declaration}
use Rattle.mip_symbols.specs.declared.places.Sort.TheVariants as sorts
use Rattle.mip_symbols.specs.declared.reason.Reason.{Reason}
use Rattle.mip_symbols.specs.declared.reason.Reason.TheVariants as reasons
use Rattle.mip_rows.specs.Fields as fields
use Rattle.mip_rows.specs.PacketKinds.{kind_of}
use Rattle.mip_rows.specs.Values.{address_value}
use Rattle.mip_rows.specs.Whys.{gone_whys, unsent_whys, dropped_whys}
use Rattle.mip_rows.specs.declared.fault.RowFault.{RowFault}
use Rattle.mip_rows.specs.declared.fault.RowFault.TheVariants as faults
use Rattle.mip_rows.specs.declared.field_kind.Kind.{Kind}
use Rattle.mip_rows.specs.declared.field_kind.Kind.TheVariants as kinds
use Rattle.mip_rows.specs.declared.row.Row.{Row}
use Rattle.mip_rows.specs.declared.tail.Tail.{Tail}
use Rattle.mip_rows.specs.declared.tail.Tail.TheVariants as tails
use Rattle.mip_rows.specs.declared.value.Value.{Value}
use Rattle.mip_rows.specs.declared.value.Value.TheVariants as values

-- the value that holds what was read
abbrev pub as_value : {A : Type 0} → (A → Value) → Result A Reason → Result Value Reason
as_value to (Ok x) = Ok (to x)
as_value to (Err why) = Err why

-- the value of this kind that a field stands for
abbrev pub value_of : List Declaration → Kind → List ℕ → Result Value Reason
value_of ds kinds.U8 f = as_value (λ x. values.U8 x) (fields.u8 f)
value_of ds kinds.U16 f = as_value (λ x. values.U16 x) (fields.u16 f)
value_of ds kinds.U32 f = as_value (λ x. values.U32 x) (fields.u32 f)
value_of ds kinds.U64 f = as_value (λ x. values.U64 x) (fields.u64 f)
value_of ds kinds.Cause f = as_value (λ x. values.U8 x) (fields.number 1 3 f)
value_of ds kinds.Moment f = as_value (λ x. values.Moment x) (fields.moment f)
value_of ds kinds.Address f = as_value (λ x. values.Address x) (fields.address f)
value_of ds kinds.Token f = as_value (λ x. values.Token x) (fields.token f)
value_of ds kinds.Node f = as_value (λ x. values.Node x) (fields.node sorts.Node ds f)
value_of ds kinds.Link f = as_value (λ x. values.Link x) (fields.link ds f)
value_of ds kinds.Outsider f = as_value (λ x. values.Outsider x) (fields.outsider ds f)
value_of ds kinds.Who f = as_value (λ x. values.Who x) (fields.who ds f)
value_of ds kinds.SomeU16 f = as_value (λ x. values.SomeU16 x) (fields.some_u16 f)
value_of ds kinds.SomeU64 f = as_value (λ x. values.SomeU64 x) (fields.some_u64 f)
value_of ds kinds.SomeAddress f = as_value address_value (fields.some_address f)
value_of ds kinds.SomeToken f = as_value (λ x. values.SomeToken x) (fields.some_token f)
value_of ds kinds.SomeLink f = as_value (λ x. values.SomeLink x) (fields.some_link ds f)
value_of ds kinds.Shield f = as_value (λ x. values.Shield x) (fields.shield f)
value_of ds kinds.Answer f = as_value (λ x. values.Answer x) (fields.answer f)
value_of ds kinds.Gone f = as_value (λ x. values.Why x) (fields.why gone_whys f)
value_of ds kinds.Unsent f = as_value (λ x. values.Why x) (fields.why unsent_whys f)
value_of ds kinds.Dropped f = as_value (λ x. values.Why x) (fields.why dropped_whys f)

-- the values that fields stand for, of as many kinds as there are fields
unfoldable pub values_of : List Declaration → List Kind → List (List ℕ) → Result (List Value) Reason
values_of ds [] [] = Ok []
values_of ds (k ∷ ks) (f ∷ fs) = value_of ds k f >>= (λ v. values_of ds ks fs >>= (λ vs. Ok (v ∷ vs)))
values_of ds _ _ = Err reasons.Form

-- how many fields a tail has
abbrev pub tail_count : Tail → ℕ
tail_count tails.Nothing = 0
tail_count tails.Bytes = 1
tail_count tails.Packet = 2

abbrev pub of_kind : List ℕ → List ℕ → Result (List ℕ) Reason
of_kind word packet = if bytes_eq (kind_of packet) word then Ok packet else Err reasons.Name

-- the packet of these digits, before which stands the word of its kind
abbrev pub packet_in : List ℕ → List ℕ → Result (List ℕ) Reason
packet_in word f = fields.bytes f >>= of_kind word

-- the bytes of a tail of these fields
unfoldable pub tail_of : Tail → List (List ℕ) → Result (List ℕ) Reason
tail_of tails.Nothing [] = Ok []
tail_of tails.Bytes (f ∷ []) = fields.bytes f
tail_of tails.Packet (word ∷ f ∷ []) = packet_in word f
tail_of _ _ = Err reasons.Form

-- the row that fields stand for
unfoldable pub row_of : List Declaration → List Kind → Tail → List (List ℕ) → Result Row Reason
row_of ds ks tail fs =
    if length fs == length ks + tail_count tail
    then (values_of ds ks (take (length ks) fs) >>= (λ vs. tail_of tail (drop (length ks) fs) >>= (λ b. Ok (record { values = vs; bytes = b }))))
    else Err reasons.Form

-- what a reader returned is what a reading gives, unless memory ran out
abbrev pub GivesRow : {X : Type 0} → Result X RowFault → Result X Reason → Type 0
GivesRow (Ok x) read = read ≡ Ok x
GivesRow (Err (faults.Bad why)) read = read ≡ Err why
GivesRow (Err faults.Memory) read = Unit {0}
