-- Two packets that carry the same update ask the same.
use Rattle.std.proofs.Common.{◌≡◌, ℕ, ◌-◌, ◌≤◌, List, [], ◌∷◌, ◌++◌, length, take, drop, Bool, true, false, refl, sym, ap, ◌∙◌, subst, zero, suc, ◌+◌, not, ◌&&◌, ◌||◌, eqb, ltb, arith, length-append, length-drop, length-take, take-append-drop, cond}
use Rattle.std.specs.Prelude.{Option, Some, None, Result, Ok, Err, ◌==◌, slice_index}
use Rattle.std.specs.Option.{option_map_or}
use Rattle.std.specs.Result.{result_ok}
use Rattle.std.specs.List.{slice_range}
use Rattle.std.proofs.lemmas.Bool.{cond_both, eqb-true, ltb-false, not-false, or_parts}
use Rattle.std.proofs.lemmas.List.{append_assoc, drop_at, drop-drop, take_all}
use Rattle.std.proofs.lemmas.List.Folds.{drop_split}
use Rattle.mip_words.specs.Numbers.{number_at}
use Rattle.mip_words.specs.Steps.{◌>>=◌}
use Rattle.mip_words.proofs.Fields.{number_at-drop}
use Rattle.mip_words.proofs.StepLaws.{bind_ok, ok_is}
use Rattle.mip_ipv6.specs.Packet.{Packet, source_of, destination_of}
use Rattle.mip_mobhdr.specs.declared.indices.Indices.{Indices}
use Rattle.mip_mobhdr.specs.OptionValues.{Values, nothing}
use Rattle.mip_mobhdr.specs.OptionReading.{is_length_of, is_seen, is_first_number, with_value, option_at, options_after, options_of}
use Rattle.mip_mobhdr.specs.declared.fault.Fault.{Fault}
use Rattle.mip_mobhdr.specs.Said.{Said}
use Rattle.mip_mobhdr.specs.Said.Said.{Update as BindingUpdate}
use Rattle.mip_mobhdr.specs.Reading.{has_bit, or_fault, update_of, message_of}
use Rattle.mip_tokens.specs.Token.{authenticated}
use Rattle.mip_reception.specs.Says.{UpdateIdentity, update_said, said_by, says}
use Rattle.mip_reception.specs.Says.Carried.{Update, Other}
use Rattle.mip_reception.specs.declared.registration.Registration.{Registration}
use Rattle.mip_reception.specs.Registrations.{registration, registration_said, registration_in}
use Rattle.mip_reception.proofs.CheckedMessages.{update_read}

-- bytes end with the 12 of an authenticator
record EndsWith (bytes a : List ℕ) : Type 0 where
  front : List ℕ
  whole : bytes ≡ front ++ a
  size : length a ≡ 12

behind : (xs ys a : List ℕ) → EndsWith ys a → EndsWith (xs ++ ys) a
behind xs ys a e = record { front = xs ++ e.front; whole = ap (λ (l : List ℕ). xs ++ l) e.whole ∙ sym (append_assoc xs e.front a); size = e.size }

abbrev authorization_of : Values → Option (List ℕ)
authorization_of v = v.authorization

abbrev nonces_of : Values → Option Indices
nonces_of v = v.nonces

-- what an option makes of an authorization that was not there: none still, or it is the last option
data Goes (type : ℕ) (rest : List ℕ) (x : Values × ℕ) : Type 0 where
  None_yet : x.0.authorization ≡ None → Goes type rest x
  Last : length rest ≡ 13 → x.1 ≡ 13 → x.0.authorization ≡ Some (drop 1 rest) → Goes type rest x

other_value : (type : ℕ) (v : Values) (rest : List ℕ) → eqb type 5 ≡ false → v.authorization ≡ None → (with_value type v rest).authorization ≡ None
unfolding with_value
other_value type v rest other none =
    let P : Values → Type 0 = λ w. w.authorization ≡ None in
    cond_both (eqb type 2) _ _ P (λ _. none) (λ _.
    cond_both (eqb type 3) _ _ P (λ _. none) (λ _.
    cond_both (eqb type 4) _ _ P (λ _. none) (λ _.
    cond_both (eqb type 5) _ _ P (λ five. absurd (let both : true ≡ false = sym five ∙ other in cc)) (λ _.
    cond_both (eqb type 200 && is_first_number v rest) _ _ P (λ _. none) (λ _. none)))))

last_value : (v : Values) (rest : List ℕ) → length rest ≡ 13 → (with_value 5 v rest).authorization ≡ Some (drop 1 rest)
unfolding with_value
last_value v rest long = ap (λ (l : List ℕ). Some l) (take_all 12 (drop 1 rest) (omega (arith, length-drop 1 rest, long)))

option_goes : (place type : ℕ) (v : Values) (rest : List ℕ) (x : Values × ℕ) → option_at place type v rest ≡ Ok x → v.authorization ≡ None → Goes type rest x
unfolding option_at
option_goes place type v rest x e none =
    let size = slice_index rest 0 in
    let P : Result (Values × ℕ) ℕ → Type 0 = λ r. r ≡ Ok x → Goes type rest x in
    cond_both (eqb type 0) _ _ P (λ pad e. None_yet (ap (λ (y : Values × ℕ). y.0.authorization) (sym (ok_is _ x e)) ∙ none)) (λ nonzero.
    cond_both (ltb (length rest) 1 || ltb (length rest) (1 + size)) _ _ P (λ short e. absurd cc) (λ whole.
    cond_both (not (is_length_of type size)) _ _ P (λ wrong e. absurd cc) (λ right.
    cond_both (is_seen type v) _ _ P (λ again e. absurd cc) (λ first.
    cond_both (eqb type 5 && ltb 13 (length rest)) _ _ P (λ behind e. absurd cc) (λ last e.
    by (eqb type 5) refl whole right last (ok_is _ x e)))))) e
  where
    five_goes : length rest ≡ 13 → slice_index rest 0 ≡ 12 → (with_value 5 v rest, 1 + slice_index rest 0) ≡ x → Goes 5 rest x
    five_goes long size is = Last long (ap (λ (y : Values × ℕ). y.1) (sym is) ∙ ap (λ (n : ℕ). 1 + n) size) (ap (λ (y : Values × ℕ). y.0.authorization) (sym is) ∙ last_value v rest long)

    by : (five : Bool) → eqb type 5 ≡ five → (ltb (length rest) 1 || ltb (length rest) (1 + slice_index rest 0)) ≡ false → not (is_length_of type (slice_index rest 0)) ≡ false
        → (five && ltb 13 (length rest)) ≡ false → (with_value type v rest, 1 + slice_index rest 0) ≡ x → Goes type rest x
    by false other whole right last is = None_yet (ap (λ (y : Values × ℕ). y.0.authorization) (sym is) ∙ other_value type v rest other none)
    by true five whole right last is =
        let same : type ≡ 5 = eqb-true type 5 five in
        let sized : is_length_of 5 (slice_index rest 0) ≡ true = ap (λ (t : ℕ). is_length_of t (slice_index rest 0)) (sym same) ∙ not-false _ right in
        let size : slice_index rest 0 ≡ 12 = eqb-true (slice_index rest 0) 12 sized in
        let long : length rest ≡ 13 = omega (arith, ltb-false (length rest) (1 + slice_index rest 0) (or_parts _ _ whole).1, ltb-false 13 (length rest) last, size) in
        subst (λ (t : ℕ). Goes t rest x) (sym same)
        (five_goes long size (ap (λ (t : ℕ). (with_value t v rest, 1 + slice_index rest 0)) (sym same) ∙ is))

-- behind the last option nothing more is read
nothing_after : (taken place : ℕ) (v : Values) (bytes : List ℕ) → length bytes ≤ taken → options_after taken place v bytes ≡ Ok v
unfolding options_after
nothing_after zero place v [] few = refl
nothing_after (suc n) place v [] few = refl
nothing_after zero place v (b ∷ rest) few = absurd (omega arith)
nothing_after (suc n) place v (b ∷ rest) few = nothing_after n (place + 1) v rest (omega arith)

-- an authorization is the last option
after_ends : (taken place : ℕ) (v : Values) (bytes : List ℕ) (w : Values) (a : List ℕ) → options_after taken place v bytes ≡ Ok w → v.authorization ≡ None → w.authorization ≡ Some a → EndsWith (drop taken bytes) a
unfolding options_after
after_ends zero place v [] w a e none some = absurd (let same : v.authorization ≡ w.authorization = ap authorization_of (ok_is v w e) in cc)
after_ends (suc n) place v [] w a e none some = absurd (let same : v.authorization ≡ w.authorization = ap authorization_of (ok_is v w e) in cc)
after_ends (suc n) place v (b ∷ rest) w a e none some = after_ends n (place + 1) v rest w a e none some
after_ends zero place v (type ∷ rest) w a e none some =
    let b = bind_ok (option_at place type v rest) (λ x. options_after x.1 (place + 1) x.0 rest) w e in
    by b.0 b.2 (λ still. after_ends b.0.1 (place + 1) b.0.0 rest w a b.2 still some) (option_goes place type v rest b.0 b.1 none)
  where
    by : (x : Values × ℕ) → options_after x.1 (place + 1) x.0 rest ≡ Ok w → (x.0.authorization ≡ None → EndsWith (drop x.1 rest) a) → Goes type rest x → EndsWith (type ∷ rest) a
    by x more ends (None_yet still) =
        subst (λ (l : List ℕ). EndsWith (type ∷ l) a) (take-append-drop x.1 rest) (behind (type ∷ take x.1 rest) (drop x.1 rest) a (ends still))
    by x more ends (Last long all is) =
        let end : x.0 ≡ w = ok_is x.0 w (sym (nothing_after x.1 (place + 1) x.0 rest (omega (arith, long, all))) ∙ more) in
        let same : Some (drop 1 rest) ≡ Some a = sym is ∙ ap authorization_of end ∙ some in
        let it : drop 1 rest ≡ a = cc in
        record {
          front = type ∷ take 1 rest;
          whole = ap (λ (l : List ℕ). type ∷ l) (sym (take-append-drop 1 rest) ∙ ap (λ (l : List ℕ). take 1 rest ++ l) it);
          size = ap (λ (l : List ℕ). length l) (sym it) ∙ omega (arith, length-drop 1 rest, long);
        }

-- what the key says of a body
record IsOf (key : UpdateIdentity) (body : List ℕ) : Type 0 where
  message : authenticated body ≡ key.message
  ends : EndsWith (drop 12 body) key.authenticator

module _ (key : UpdateIdentity) (body : List ℕ) (is : IsOf key body) where
  long : 24 ≤ length body
  long = omega (arith, ap (λ (l : List ℕ). length l) is.ends.whole, length-append is.ends.front key.authenticator, is.ends.size, length-drop 12 body)

  four : length (take 4 body) ≡ 4
  four = omega (arith, length-take 4 body, long)

  -- its last bytes are the authenticator
  last_12 : drop (length body - 12) body ≡ key.authenticator
  last_12 =
      let size : length is.ends.front ≡ length body - 24 = omega (arith, ap (λ (l : List ℕ). length l) is.ends.whole, length-append is.ends.front key.authenticator, is.ends.size, length-drop 12 body, long) in
      ap (λ (n : ℕ). drop n body) (omega (arith, long))
      ∙ sym (drop-drop (length body - 24) 12 body)
      ∙ ap (λ (l : List ℕ). drop (length body - 24) l) is.ends.whole
      ∙ drop_at is.ends.front key.authenticator (length body - 24) size

  rest_is : drop 6 body ≡ slice_range body 6 (length body - 12) ++ key.authenticator
  rest_is = drop_split body 6 (length body - 12) (omega (arith, long)) ∙ ap (λ (l : List ℕ). slice_range body 6 (length body - 12) ++ l) last_12

-- both bodies agree behind the checksum
same_rest : (key : UpdateIdentity) (b c : List ℕ) → IsOf key b → IsOf key c → drop 6 b ≡ drop 6 c
unfolding authenticated
same_rest key b c x y =
    rest_is key b x ∙ ap (λ (l : List ℕ). l ++ key.authenticator) middle ∙ sym (rest_is key c y)
  where
    covered : take 4 b ++ 0 ∷ 0 ∷ slice_range b 6 (length b - 12) ≡ take 4 c ++ 0 ∷ 0 ∷ slice_range c 6 (length c - 12)
    covered = x.message ∙ sym y.message

    behind_4 : 0 ∷ 0 ∷ slice_range b 6 (length b - 12) ≡ 0 ∷ 0 ∷ slice_range c 6 (length c - 12)
    behind_4 =
        sym (drop_at (take 4 b) (0 ∷ 0 ∷ slice_range b 6 (length b - 12)) 4 (four key b x))
        ∙ ap (λ (l : List ℕ). drop 4 l) covered
        ∙ drop_at (take 4 c) (0 ∷ 0 ∷ slice_range c 6 (length c - 12)) 4 (four key c y)

    middle : slice_range b 6 (length b - 12) ≡ slice_range c 6 (length c - 12)
    middle = let e = behind_4 in cc

-- what a packet says that carries an update
record Told (p : Packet) (key : UpdateIdentity) : Type 0 where
  sequence : ℕ
  a : Bool
  h : Bool
  l : Bool
  k : Bool
  lifetime : ℕ
  options : Values
  is : message_of (source_of p.head) (destination_of p.head) p.body ≡ Ok (BindingUpdate sequence a h l k lifetime options)
  authenticator : options.authorization ≡ Some key.authenticator
  message : authenticated p.body ≡ key.message

told : (p : Packet) (key : UpdateIdentity) → says p ≡ Update key → Told p key
unfolding says
told p key e = by (p.head.proto == 135) (message_of (source_of p.head) (destination_of p.head) p.body) refl e
  where
    with_authenticator : (s : ℕ) (a h l k : Bool) (t : ℕ) (o : Values) → message_of (source_of p.head) (destination_of p.head) p.body ≡ Ok (BindingUpdate s a h l k t o)
        → (x : Option (List ℕ)) → o.authorization ≡ x → update_said p.head.source (source_of p.head) p.body o x ≡ Update key → Told p key
    with_authenticator s a h l k t o is None none e = absurd cc
    with_authenticator s a h l k t o is (Some authenticator) some e =
        let mine : authenticator ≡ key.authenticator = cc in
        record { sequence = s; a = a; h = h; l = l; k = k; lifetime = t; options = o; is = is; authenticator = some ∙ ap Some mine; message = cc }

    by : (b : Bool) (r : Result Said Fault) → message_of (source_of p.head) (destination_of p.head) p.body ≡ r
        → option_map_or (said_by p.head.source (source_of p.head) p.head.destination p.body) (cond b (result_ok r) None) Other ≡ Update key → Told p key
    by true (Ok (BindingUpdate s a h l k t o)) is e = with_authenticator s a h l k t o is o.authorization refl e
    by _ _ is e = absurd cc

-- what it asks
module _ (p : Packet) (key : UpdateIdentity) (t : Told p key) where
  -- its fields and its options are read from these places
  record Fields : Type 0 where
    options : options_of 12 p.body ≡ Ok t.options
    sequence : number_at 2 6 p.body ≡ t.sequence

  update_is : update_of p.body ≡ Ok (BindingUpdate t.sequence t.a t.h t.l t.k t.lifetime t.options)
  update_is = update_read p.body t.sequence t.a t.h t.l t.k t.lifetime t.options (source_of p.head) (destination_of p.head) t.is

  fields : Fields
  unfolding update_of
  fields = by (options_of 12 p.body) refl update_is
    where
      by : (r : Result Values ℕ) → options_of 12 p.body ≡ r
          → (or_fault r >>= (λ o. Ok (BindingUpdate (number_at 2 6 p.body) (has_bit 128 (slice_index p.body 8)) (has_bit 64 (slice_index p.body 8)) (has_bit 32 (slice_index p.body 8)) (has_bit 16 (slice_index p.body 8)) (number_at 2 10 p.body) o)))
          ≡ Ok (BindingUpdate t.sequence t.a t.h t.l t.k t.lifetime t.options) → Fields
      by (Ok o) is e = record { options = is ∙ ap Ok (let same : o ≡ t.options = cc in same); sequence = cc }
      by (Err place) is e = absurd cc

  of_key : IsOf key p.body
  unfolding options_of
  of_key = record { message = t.message; ends = after_ends 0 12 nothing (drop 12 p.body) t.options key.authenticator fields.options refl t.authenticator }

  asked : (r : Registration) → registration_in p.head.source p.head.home p.body ≡ Some r → registration p.head.source p.head.home t.sequence t.a t.h t.lifetime t.options ≡ r
  asked r asks =
      let e : Some (registration p.head.source p.head.home t.sequence t.a t.h t.lifetime t.options) ≡ Some r = ap (λ (x : Result Said Fault). registration_said p.head.source p.head.home x) (sym update_is) ∙ asks in
      cc

-- the same sequence and the same indices
pub record AsksSame (r q : Registration) : Type 0 where
  pub sequence : r.sequence ≡ q.sequence
  pub nonces : r.nonces ≡ q.nonces

pub asks_same : (p q : Packet) (key : UpdateIdentity) → says p ≡ Update key → says q ≡ Update key
    → (r : Registration) → registration_in p.head.source p.head.home p.body ≡ Some r → (s : Registration) → registration_in q.head.source q.head.home q.body ≡ Some s → AsksSame r s
unfolding options_of
asks_same p q key is_first is_second r asks s repeats =
    record {
      sequence = ap (λ (x : Registration). x.sequence) (sym mine) ∙ sequences ∙ ap (λ (x : Registration). x.sequence) other;
      nonces = ap (λ (x : Registration). x.nonces) (sym mine) ∙ ap nonces_of same_options ∙ ap (λ (x : Registration). x.nonces) other;
    }
  where
    t : Told p key
    t = told p key is_first

    u : Told q key
    u = told q key is_second

    mine : registration p.head.source p.head.home t.sequence t.a t.h t.lifetime t.options ≡ r
    mine = asked p key t r asks

    other : registration q.head.source q.head.home u.sequence u.a u.h u.lifetime u.options ≡ s
    other = asked q key u s repeats

    rest : drop 6 p.body ≡ drop 6 q.body
    rest = same_rest key p.body q.body (of_key p key t) (of_key q key u)

    sequences : t.sequence ≡ u.sequence
    sequences =
        sym (fields p key t).sequence
        ∙ number_at-drop 2 6 p.body ∙ ap (λ (l : List ℕ). number_at 2 0 l) rest ∙ sym (number_at-drop 2 6 q.body)
        ∙ (fields q key u).sequence

    option_bytes : drop 12 p.body ≡ drop 12 q.body
    option_bytes = sym (drop-drop 6 6 p.body) ∙ ap (λ (l : List ℕ). drop 6 l) rest ∙ drop-drop 6 6 q.body

    same_options : t.options ≡ u.options
    same_options =
        let a = (fields p key t).options in
        let b = (fields q key u).options in
        let c : options_of 12 p.body ≡ options_of 12 q.body = ap (λ (l : List ℕ). options_after 0 12 nothing l) option_bytes in
        ok_is t.options u.options (sym a ∙ c ∙ b)
