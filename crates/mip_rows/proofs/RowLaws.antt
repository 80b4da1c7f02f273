-- A row that is read has these fields and is within its kinds; and a row within its kinds is read from its fields.
use Rattle.std.proofs.Common.{◌≡◌, ℕ, suc, ◌+◌, List, [], ◌∷◌, ◌++◌, length, refl, sym, ap, ◌∙◌, subst, arith}
use Rattle.std.specs.Prelude.{Option, Some, None, Result, Ok, Err, decimal, map, take, drop, ◌==◌}
use Rattle.std.specs.Str.{bytes_eq}
use Rattle.std.proofs.lemmas.Bool.{cond_both, cond-true, eq-eqb}
use Rattle.std.proofs.Math.Seq.{take-append_seam, drop-append_seam}
use Rattle.std.proofs.lemmas.List.{length-append, take-append-drop}
use Rattle.std.proofs.lemmas.Slice.Eq.{bytes_eq-Decides}
use Rattle.mip_words.specs.Steps.{◌>>=◌}
use Rattle.mip_words.proofs.StepLaws.{bind_ok, ok_is}
use Rattle.mip_lines.specs.HexFields.{address_hex}
use Rattle.mip_symbols.specs.Places.{AreFew, NamesFound}
use Rattle.mip_symbols.specs.declared.places.Sort.TheVariants as sorts
use Rattle.mip_symbols.specs.declared.declaration.Declaration.{Declaration}
use Rattle.mip_symbols.specs.declared.reason.Reason.{Reason}
use Rattle.mip_rows.specs.Fields as fields
use Rattle.mip_rows.specs.Names.{node_name, link_name, outsider_name, who_name}
use Rattle.mip_rows.specs.PacketKinds.{kind_of}
use Rattle.mip_rows.specs.Ranges.{IsNumber, IsMoment, IsAddress, IsToken, IsNode, IsLink, IsOutsider, IsWho, IsCause, IfPresent, IsOfKind, AreOfKinds, IsTail, IsRowOf}
use Rattle.mip_rows.specs.Rows.{as_value, value_of, values_of, tail_count, of_kind, tail_of, row_of}
use Rattle.mip_rows.specs.Texts.{or_dash, token_hex, shield_mark, yes_or_no, value_text, tail_texts, row_texts}
use Rattle.mip_words.specs.declared.address.Address.{Address}
use Rattle.mip_rows.specs.Values.{address_value}
use Rattle.mip_rows.specs.Whys.{why_word, gone_whys, unsent_whys, dropped_whys, IsAmong}
use Rattle.mip_rows.specs.declared.field_kind.Kind.{Kind}
use Rattle.mip_rows.specs.declared.field_kind.Kind.TheVariants as kinds
use Rattle.mip_rows.specs.declared.row.Row.{Row}
use Rattle.mip_rows.specs.declared.tail.Tail.{Tail}
use Rattle.mip_rows.specs.declared.tail.Tail.TheVariants as tails
use Rattle.mip_rows.specs.declared.value.Value.{Value}
use Rattle.mip_rows.specs.declared.value.Value.TheVariants as values
use Rattle.mip_rows.proofs.FieldReads.{Reads, Any, same, u8-reads, u16-reads, u32-reads, u64-reads, cause-reads, moment-reads, address-reads, token-reads, bytes-reads, link-reads, node-reads, outsider-reads, who-reads, some_link-reads, some_address-reads, some_token-reads, some_u64-reads, some_u16-reads, shield-reads, answer-reads, why-reads}
use Rattle.mip_rows.proofs.FieldAgain.{u8-again, u16-again, u32-again, u64-again, cause-again, moment-again, address-again, token-again, bytes-again, link-again, node-again, outsider-again, who-again, some_link-again, some_address-again, some_token-again, some_u64-again, some_u16-again, shield-again, answer-again, gone_again, unsent_again, dropped_again, why-again}

-- the field of this value, which is one of this kind
abbrev IsField : List Declaration → Kind → List ℕ → Value → Type 0
IsField ds k f v = (f ≡ value_text (Some ds) v) × IsOfKind ds k v

held : {A : Type 0} (to : A → Value) (r : Result A Reason) (v : Value) → as_value to r ≡ Ok v → (x : A) × (r ≡ Ok x) × (to x ≡ v)
held to (Ok x) v e = (x, refl, ok_is (to x) v e)
held to (Err why) v e = absurd cc

read_as : {A : Type 0} (to : A → Value) (r : List ℕ → Result A Reason) (t : A → List ℕ) (P : A → Type 0) → Reads r t P → (Q : List ℕ → Value → Type 0) → ((f : List ℕ) (x : A) → f ≡ t x → P x → Q f (to x))
    → (f : List ℕ) (v : Value) → as_value to (r f) ≡ Ok v → Q f v
read_as to r t P reads Q give f v e =
    let p = held to (r f) v e in
    let q = reads f p.0 p.1 in
    subst (Q f) p.2 (give f p.0 q.0 q.1)

value-read : (ds : List Declaration) → AreFew ds → (k : Kind) (f : List ℕ) (v : Value) → value_of ds k f ≡ Ok v → IsField ds k f v
value-read ds few kinds.U8 = read_as (λ x. values.U8 x) (fields.u8) (decimal) (IsNumber 8) (u8-reads) (IsField ds kinds.U8) (λ f x e p. (e, p))
value-read ds few kinds.U16 = read_as (λ x. values.U16 x) (fields.u16) (decimal) (IsNumber 16) (u16-reads) (IsField ds kinds.U16) (λ f x e p. (e, p))
value-read ds few kinds.U32 = read_as (λ x. values.U32 x) (fields.u32) (decimal) (IsNumber 32) (u32-reads) (IsField ds kinds.U32) (λ f x e p. (e, p))
value-read ds few kinds.U64 = read_as (λ x. values.U64 x) (fields.u64) (decimal) (IsNumber 64) (u64-reads) (IsField ds kinds.U64) (λ f x e p. (e, p))
value-read ds few kinds.Cause = read_as (λ x. values.U8 x) (fields.number 1 3) (decimal) (IsCause) (cause-reads) (IsField ds kinds.Cause) (λ f x e p. (e, p))
value-read ds few kinds.Moment = read_as (λ x. values.Moment x) (fields.moment) (λ m. decimal m.0) (IsMoment) (moment-reads) (IsField ds kinds.Moment) (λ f x e p. (e, p))
value-read ds few kinds.Address = read_as (λ x. values.Address x) (fields.address) (address_hex) (IsAddress) (address-reads) (IsField ds kinds.Address) (λ f x e p. (e, p))
value-read ds few kinds.Token = read_as (λ x. values.Token x) (fields.token) (token_hex) (IsToken) (token-reads) (IsField ds kinds.Token) (λ f x e p. (e, p))
value-read ds few kinds.Node = read_as (λ x. values.Node x) (fields.node sorts.Node ds) (node_name (Some ds)) (IsNode ds) (node-reads ds) (IsField ds kinds.Node) (λ f x e p. (e, p))
value-read ds few kinds.Link = read_as (λ x. values.Link x) (fields.link ds) (link_name (Some ds)) (IsLink ds) (link-reads ds) (IsField ds kinds.Link) (λ f x e p. (e, p))
value-read ds few kinds.Outsider = read_as (λ x. values.Outsider x) (fields.outsider ds) (outsider_name (Some ds)) (IsOutsider ds) (outsider-reads ds) (IsField ds kinds.Outsider) (λ f x e p. (e, p))
value-read ds few kinds.Who = read_as (λ x. values.Who x) (fields.who ds) (who_name (Some ds)) (IsWho ds) (who-reads ds few) (IsField ds kinds.Who) (λ f x e p. (e, p))
value-read ds few kinds.SomeU16 = read_as (λ x. values.SomeU16 x) (fields.some_u16) (or_dash decimal) (IfPresent (IsNumber 16)) (some_u16-reads) (IsField ds kinds.SomeU16) (λ f x e p. (e, p))
value-read ds few kinds.SomeU64 = read_as (λ x. values.SomeU64 x) (fields.some_u64) (or_dash decimal) (IfPresent (IsNumber 64)) (some_u64-reads) (IsField ds kinds.SomeU64) (λ f x e p. (e, p))
value-read ds few kinds.SomeAddress = read_as address_value (fields.some_address) (or_dash address_hex) (IfPresent IsAddress) (some_address-reads) (IsField ds kinds.SomeAddress) give
  where
    give : (f : List ℕ) (x : Option Address) → f ≡ or_dash address_hex x → IfPresent IsAddress x → IsField ds kinds.SomeAddress f (address_value x)
    give f (Some a) e p = (e, p)
    give f None e p = (e, tt)
value-read ds few kinds.SomeToken = read_as (λ x. values.SomeToken x) (fields.some_token) (or_dash token_hex) (IfPresent IsToken) (some_token-reads) (IsField ds kinds.SomeToken) (λ f x e p. (e, p))
value-read ds few kinds.SomeLink = read_as (λ x. values.SomeLink x) (fields.some_link ds) (or_dash (link_name (Some ds))) (IfPresent (IsLink ds)) (some_link-reads ds) (IsField ds kinds.SomeLink) (λ f x e p. (e, p))
value-read ds few kinds.Shield = read_as (λ x. values.Shield x) (fields.shield) (shield_mark) (Any) (shield-reads) (IsField ds kinds.Shield) (λ f x e p. (e, p))
value-read ds few kinds.Answer = read_as (λ x. values.Answer x) (fields.answer) (yes_or_no) (Any) (answer-reads) (IsField ds kinds.Answer) (λ f x e p. (e, p))
value-read ds few kinds.Gone = read_as (λ x. values.Why x) (fields.why gone_whys) (why_word) (IsAmong gone_whys) (why-reads gone_whys) (IsField ds kinds.Gone) (λ f x e p. (e, p))
value-read ds few kinds.Unsent = read_as (λ x. values.Why x) (fields.why unsent_whys) (why_word) (IsAmong unsent_whys) (why-reads unsent_whys) (IsField ds kinds.Unsent) (λ f x e p. (e, p))
value-read ds few kinds.Dropped = read_as (λ x. values.Why x) (fields.why dropped_whys) (why_word) (IsAmong dropped_whys) (why-reads dropped_whys) (IsField ds kinds.Dropped) (λ f x e p. (e, p))

value-again : (ds : List Declaration) → AreFew ds → NamesFound ds → (k : Kind) (v : Value) → IsOfKind ds k v → value_of ds k (value_text (Some ds) v) ≡ Ok v
value-again ds few found kinds.U8 (values.U8 x) is = ap (as_value (λ y. values.U8 y)) (u8-again x is)
value-again ds few found kinds.U16 (values.U16 x) is = ap (as_value (λ y. values.U16 y)) (u16-again x is)
value-again ds few found kinds.U32 (values.U32 x) is = ap (as_value (λ y. values.U32 y)) (u32-again x is)
value-again ds few found kinds.U64 (values.U64 x) is = ap (as_value (λ y. values.U64 y)) (u64-again x is)
value-again ds few found kinds.Cause (values.U8 x) is = ap (as_value (λ y. values.U8 y)) (cause-again x is)
value-again ds few found kinds.Moment (values.Moment x) is = ap (as_value (λ y. values.Moment y)) (moment-again x is)
value-again ds few found kinds.Address (values.Address x) is = ap (as_value (λ y. values.Address y)) (address-again x is)
value-again ds few found kinds.Token (values.Token x) is = ap (as_value (λ y. values.Token y)) (token-again x is)
value-again ds few found kinds.Node (values.Node x) is = ap (as_value (λ y. values.Node y)) (node-again ds found x is)
value-again ds few found kinds.Link (values.Link x) is = ap (as_value (λ y. values.Link y)) (link-again ds found x is)
value-again ds few found kinds.Outsider (values.Outsider x) is = ap (as_value (λ y. values.Outsider y)) (outsider-again ds found x is)
value-again ds few found kinds.Who (values.Who x) is = ap (as_value (λ y. values.Who y)) (who-again ds few found x is)
value-again ds few found kinds.SomeU16 (values.SomeU16 x) is = ap (as_value (λ y. values.SomeU16 y)) (some_u16-again x is)
value-again ds few found kinds.SomeU64 (values.SomeU64 x) is = ap (as_value (λ y. values.SomeU64 y)) (some_u64-again x is)
value-again ds few found kinds.SomeAddress (values.Address a) is = ap (as_value address_value) (some_address-again (Some a) is)
value-again ds few found kinds.SomeAddress values.NoAddress is = ap (as_value address_value) (some_address-again None is)
value-again ds few found kinds.SomeToken (values.SomeToken x) is = ap (as_value (λ y. values.SomeToken y)) (some_token-again x is)
value-again ds few found kinds.SomeLink (values.SomeLink x) is = ap (as_value (λ y. values.SomeLink y)) (some_link-again ds found x is)
value-again ds few found kinds.Shield (values.Shield x) is = ap (as_value (λ y. values.Shield y)) (shield-again x)
value-again ds few found kinds.Answer (values.Answer x) is = ap (as_value (λ y. values.Answer y)) (answer-again x)
value-again ds few found kinds.Gone (values.Why x) is = ap (as_value (λ y. values.Why y)) (why-again gone_whys gone_again x is)
value-again ds few found kinds.Unsent (values.Why x) is = ap (as_value (λ y. values.Why y)) (why-again unsent_whys unsent_again x is)
value-again ds few found kinds.Dropped (values.Why x) is = ap (as_value (λ y. values.Why y)) (why-again dropped_whys dropped_again x is)
value-again ds few found _ _ is = absurd is

values-read : (ds : List Declaration) → AreFew ds → (ks : List Kind) (fs : List (List ℕ)) (vs : List Value) → values_of ds ks fs ≡ Ok vs → (fs ≡ map (value_text (Some ds)) vs) × AreOfKinds ds ks vs
unfolding values_of
values-read ds few [] [] vs e = subst (λ (ws : List Value). ([] ≡ map (value_text (Some ds)) ws) × AreOfKinds ds [] ws) (ok_is [] vs e) (refl, tt)
values-read ds few [] (f ∷ fs) vs e = absurd cc
values-read ds few (k ∷ ks) [] vs e = absurd cc
values-read ds few (k ∷ ks) (f ∷ fs) vs e =
    let p = bind_ok (value_of ds k f) (λ v. values_of ds ks fs >>= (λ ws. Ok (v ∷ ws))) vs e in
    let q = bind_ok (values_of ds ks fs) (λ ws. Ok (p.0 ∷ ws)) vs p.2 in
    let first = value-read ds few k f p.0 p.1 in
    let more = values-read ds few ks fs q.0 q.1 in
    subst (λ (ws : List Value). (f ∷ fs ≡ map (value_text (Some ds)) ws) × AreOfKinds ds (k ∷ ks) ws) (ok_is (p.0 ∷ q.0) vs q.2)
    (ap (λ (g : List ℕ). g ∷ fs) first.0 ∙ ap (λ (gs : List (List ℕ)). value_text (Some ds) p.0 ∷ gs) more.0, (first.1, more.1))

values-again : (ds : List Declaration) → AreFew ds → NamesFound ds → (ks : List Kind) (vs : List Value) → AreOfKinds ds ks vs → values_of ds ks (map (value_text (Some ds)) vs) ≡ Ok vs
unfolding values_of
values-again ds few found [] [] are = refl
values-again ds few found (k ∷ ks) (v ∷ vs) are =
    ap (λ (r : Result Value Reason). r >>= (λ w. values_of ds ks (map (value_text (Some ds)) vs) >>= (λ ws. Ok (w ∷ ws)))) (value-again ds few found k v are.0)
    ∙ ap (λ (r : Result (List Value) Reason). r >>= (λ ws. Ok (v ∷ ws))) (values-again ds few found ks vs are.1)
values-again ds few found _ _ are = absurd are

of_kind-read : (word packet b : List ℕ) → of_kind word packet ≡ Ok b → (word ≡ kind_of b) × (packet ≡ b)
of_kind-read word packet b =
    cond_both (bytes_eq (kind_of packet) word) _ _ (λ (r : Result (List ℕ) Reason). r ≡ Ok b → (word ≡ kind_of b) × (packet ≡ b))
    (λ test e. let is = ok_is packet b e in (sym (same (kind_of packet) word test) ∙ ap kind_of is, is))
    (λ _ e. absurd cc)

tail-read : (t : Tail) (fs : List (List ℕ)) (b : List ℕ) → tail_of t fs ≡ Ok b → (fs ≡ tail_texts t b) × IsTail t b
unfolding tail_of
tail-read tails.Nothing [] b e = (refl, sym (ok_is [] b e))
tail-read tails.Nothing (f ∷ fs) b e = absurd cc
tail-read tails.Bytes [] b e = absurd cc
tail-read tails.Bytes (f ∷ []) b e = let p = bytes-reads f b e in (ap (λ (g : List ℕ). g ∷ []) p.0, p.1)
tail-read tails.Bytes (f ∷ g ∷ fs) b e = absurd cc
tail-read tails.Packet [] b e = absurd cc
tail-read tails.Packet (w ∷ []) b e = absurd cc
tail-read tails.Packet (w ∷ f ∷ []) b e =
    let p = bind_ok (fields.bytes f) (of_kind w) b e in
    let q = of_kind-read w p.0 b p.2 in
    let r = bytes-reads f b (p.1 ∙ ap (λ (c : List ℕ). Ok c) q.1) in
    (ap (λ (g : List ℕ). g ∷ f ∷ []) q.0 ∙ ap (λ (g : List ℕ). kind_of b ∷ g ∷ []) r.0, r.1)
tail-read tails.Packet (w ∷ f ∷ g ∷ fs) b e = absurd cc

kind_kept : (packet : List ℕ) → of_kind (kind_of packet) packet ≡ Ok packet
kind_kept packet = cond-true _ _ _ ((bytes_eq-Decides (kind_of packet) (kind_of packet)).1 refl)

tail-again : (t : Tail) (b : List ℕ) → IsTail t b → tail_of t (tail_texts t b) ≡ Ok b
unfolding tail_of
tail-again tails.Nothing b is = ap (λ (c : List ℕ). Ok c) (sym is)
tail-again tails.Bytes b is = bytes-again b is
tail-again tails.Packet b is = ap (λ (r : Result (List ℕ) Reason). r >>= of_kind (kind_of b)) (bytes-again b is) ∙ kind_kept b

take_append : (xs ys : List (List ℕ)) (n : ℕ) → length xs ≡ n → (take n (xs ++ ys) ≡ xs) × (drop n (xs ++ ys) ≡ ys)
take_append xs ys n is = subst (λ (m : ℕ). (take m (xs ++ ys) ≡ xs) × (drop m (xs ++ ys) ≡ ys)) is (take-append_seam xs ys, drop-append_seam xs ys)

-- as many fields as kinds
values_count : (ds : List Declaration) (ks : List Kind) (vs : List Value) → AreOfKinds ds ks vs → length (map (value_text (Some ds)) vs) ≡ length ks
values_count ds [] [] are = refl
values_count ds (k ∷ ks) (v ∷ vs) are = ap (λ (n : ℕ). suc n) (values_count ds ks vs are.1)
values_count ds _ _ are = absurd are

tail_counted : (t : Tail) (b : List ℕ) → length (tail_texts t b) ≡ tail_count t
tail_counted tails.Nothing b = refl
tail_counted tails.Bytes b = refl
tail_counted tails.Packet b = refl

-- what is read has this row
pub row-read : (ds : List Declaration) → AreFew ds → (ks : List Kind) (t : Tail) (fs : List (List ℕ)) (r : Row) → row_of ds ks t fs ≡ Ok r → IsRowOf ds ks t r fs
unfolding row_of
row-read ds few ks t fs r =
    cond_both (length fs == length ks + tail_count t) _ _ (λ (x : Result Row Reason). x ≡ Ok r → IsRowOf ds ks t r fs)
    (λ _ e.
    let p = bind_ok (values_of ds ks (take (length ks) fs)) (λ vs. tail_of t (drop (length ks) fs) >>= (λ b. Ok (record { values = vs; bytes = b }))) r e in
    let q = bind_ok (tail_of t (drop (length ks) fs)) (λ b. Ok (record { values = p.0; bytes = b })) r p.2 in
    let heads = values-read ds few ks (take (length ks) fs) p.0 p.1 in
    let ends = tail-read t (drop (length ks) fs) q.0 q.1 in
    subst (λ (x : Row). IsRowOf ds ks t x fs) (ok_is _ r q.2)
    (sym (take-append-drop (length ks) fs) ∙ ap (λ (gs : List (List ℕ)). gs ++ drop (length ks) fs) heads.0 ∙ ap (λ (gs : List (List ℕ)). map (value_text (Some ds)) p.0 ++ gs) ends.0, (heads.1, ends.1)))
    (λ _ e. absurd cc)

-- what is within its kinds is read again
pub row-again : (ds : List Declaration) → AreFew ds → NamesFound ds → (ks : List Kind) (t : Tail) (vs : List Value) (b : List ℕ) → AreOfKinds ds ks vs → IsTail t b → row_of ds ks t (row_texts (Some ds) vs t b) ≡ Ok (record { values = vs; bytes = b })
unfolding row_of
row-again ds few found ks t vs b are is =
    let fs : List (List ℕ) = row_texts (Some ds) vs t b in
    let count : length fs ≡ length ks + tail_count t = omega (arith, length-append (map (value_text (Some ds)) vs) (tail_texts t b), values_count ds ks vs are, tail_counted t b) in
    let cut = take_append (map (value_text (Some ds)) vs) (tail_texts t b) (length ks) (values_count ds ks vs are) in
    cond-true _ _ _ (eq-eqb (length fs) (length ks + tail_count t) count)
    ∙ ap (λ (gs : List (List ℕ)). values_of ds ks gs >>= (λ ws. tail_of t (drop (length ks) fs) >>= (λ c. Ok (record { values = ws; bytes = c })))) cut.0
    ∙ ap (λ (r : Result (List Value) Reason). r >>= (λ ws. tail_of t (drop (length ks) fs) >>= (λ c. Ok (record { values = ws; bytes = c })))) (values-again ds few found ks vs are)
    ∙ ap (λ (gs : List (List ℕ)). tail_of t gs >>= (λ c. Ok (record { values = vs; bytes = c }))) cut.1
    ∙ ap (λ (r : Result (List ℕ) Reason). r >>= (λ c. Ok (record { values = vs; bytes = c }))) (tail-again t b is)
