-- Extension headers that are read are spelled so, and what is spelled so is read.
use Rattle.std.proofs.Common.{◌≡◌, ℕ, suc, ◌+◌, ◌*◌, ◌<◌, ◌≤◌, List, [], ◌∷◌, ◌++◌, length, take, drop, refl, sym, ap, ◌∙◌, subst, arith, length-append, take-append-drop}
use Rattle.std.specs.Prelude.{not, ◌||◌, ◌==◌, nat_lt, slice_index, Option, Some, None, Result, Ok}
use Rattle.std.proofs.lemmas.Bool.{cond_both, cond-true, cond-false, eqb-true, ltb-false, not-false, or_parts, or_from, eq-eqb, ne_eqb, le-ltb, not_from_true, not_from_false}
use Rattle.std.proofs.lemmas.List.{drop_at, take_at, length-take-le, get_or-take, get_or_append_left}
use Rattle.mip_words.specs.Addresses.{address_at, is_routable}
use Rattle.mip_words.specs.Steps.{◌>>=◌}
use Rattle.mip_words.specs.declared.address.Address.{Address}
use Rattle.mip_words.proofs.Fields.{number_at-append}
use Rattle.mip_words.proofs.StepLaws.{bind_ok, ok_is, done}
use Rattle.mip_ipv6.specs.declared.not_packet.NotPacket.{NotPacket}
use Rattle.mip_ipv6.specs.Reading.{Walk, routing_header, options_header, options_after}
use Rattle.mip_ipv6.specs.Spelling.{IsRouting, IsOptions, IsArea}
use Rattle.mip_ipv6.proofs.OptionLaws.{number_at-take, area_takes, area_again}

-- an address in the front of a list
address_at-take : (place size : ℕ) (bytes : List ℕ) → place + 16 ≤ size → size ≤ length bytes → address_at place (take size bytes) ≡ address_at place bytes
address_at-take place size bytes inside short =
    ap (λ (n : ℕ). let a : Address = record { 0 = n } in a) (number_at-take 16 place size bytes inside short)

address_at-append : (place : ℕ) (bytes rest : List ℕ) → place + 16 ≤ length bytes → address_at place (bytes ++ rest) ≡ address_at place bytes
address_at-append place bytes rest inside =
    ap (λ (n : ℕ). let a : Address = record { 0 = n } in a) (number_at-append 16 place bytes rest inside)

-- a header that was walked, in front of the rest
pub record Walked (Part : List ℕ → Type 0) (bytes rest : List ℕ) : Type 0 where
  pub part : List ℕ
  pub is : Part part
  pub whole : bytes ≡ part ++ rest

pub routing_takes : (n : ℕ) (bytes : List ℕ) (w : Walk) → routing_header n bytes ≡ Ok w → Walked (IsRouting w.found n w.next) bytes w.rest
unfolding routing_header
routing_takes n bytes w =
    let P : Result Walk NotPacket → Type 0 = λ r. r ≡ Ok w → Walked (IsRouting w.found n w.next) bytes w.rest in
    let Q : Walk → Type 0 = λ x. Walked (IsRouting x.found n x.next) bytes x.rest in
    cond_both (not (n == 43)) _ _ P (λ other e. subst Q (ok_is _ w e) (record { part = []; is = (refl, refl); whole = refl })) (λ routing.
    cond_both (nat_lt (length bytes) 8) _ _ P (λ short e. absurd cc) (λ long8.
    cond_both ((not (slice_index bytes 1 == 2) || not (slice_index bytes 2 == 2)) || not (slice_index bytes 3 == 1)) _ _ P (λ wrong e. absurd cc) (λ right.
    cond_both (nat_lt (length bytes) 24) _ _ P (λ short e. absurd cc) (λ long24.
    cond_both (not (is_routable (address_at 8 bytes).0)) _ _ P (λ wrong e. absurd cc) (λ host e.
    let outer = or_parts (not (slice_index bytes 1 == 2) || not (slice_index bytes 2 == 2)) (not (slice_index bytes 3 == 1)) right in
    let inner = or_parts (not (slice_index bytes 1 == 2)) (not (slice_index bytes 2 == 2)) outer.0 in
    let long : 24 ≤ length bytes = ltb-false (length bytes) 24 long24 in
    subst Q (ok_is _ w e) (record {
      part = take 24 bytes;
      is = (
        eqb-true n 43 (not-false _ routing),
        length-take-le 24 bytes long,
        get_or-take 24 bytes 0 0 (omega arith),
        get_or-take 24 bytes 1 0 (omega arith) ∙ eqb-true _ 2 (not-false _ inner.0),
        get_or-take 24 bytes 2 0 (omega arith) ∙ eqb-true _ 2 (not-false _ inner.1),
        get_or-take 24 bytes 3 0 (omega arith) ∙ eqb-true _ 1 (not-false _ outer.1),
        address_at-take 8 24 bytes (omega arith) long,
        not-false _ host,
      );
      whole = sym (take-append-drop 24 bytes);
    }))))))

pub routing_again : (found : Option Address) (n m : ℕ) (part rest : List ℕ) → IsRouting found n m part → (m ≡ 43 → ⊥) → routing_header n (part ++ rest) ≡ Ok (record { found = found; next = m; rest = rest })
unfolding routing_header
routing_again None n m part rest is other =
    rw is.1 (cond-true _ _ _ (not_from_false _ (ne_eqb n 43 (λ e. other (sym is.0 ∙ e))))
    ∙ ap (λ (k : ℕ). done (let w : Walk = record { found = None; next = k; rest = rest } in w)) is.0)
routing_again (Some home) n m part rest is other =
    let long : 24 ≤ length (part ++ rest) = omega (arith, length-append part rest, is.1) in
    let at : (i : ℕ) → i < 24 → slice_index (part ++ rest) i ≡ slice_index part i = λ i inside. get_or_append_left part rest 0 i (omega (arith, is.1)) in
    let found : address_at 8 (part ++ rest) ≡ home = address_at-append 8 part rest (omega (arith, is.1)) ∙ is.6 in
    cond-false _ _ _ (not_from_true _ (eq-eqb n 43 is.0))
    ∙ cond-false _ _ _ (le-ltb (length (part ++ rest)) 8 (omega (arith, long)))
    ∙ cond-false _ _ _ (or_from _ _ (or_from _ _ (not_from_true _ (eq-eqb _ 2 (at 1 (omega arith) ∙ is.3))) (not_from_true _ (eq-eqb _ 2 (at 2 (omega arith) ∙ is.4)))) (not_from_true _ (eq-eqb _ 1 (at 3 (omega arith) ∙ is.5))))
    ∙ cond-false _ _ _ (le-ltb (length (part ++ rest)) 24 long)
    ∙ cond-false _ _ _ (not_from_true _ (ap (λ (a : Address). is_routable a.0) found ∙ is.7))
    ∙ parts found (at 0 (omega arith) ∙ is.2) (drop_at part rest 24 is.1)
  where
    parts : {a : Address} {k : ℕ} {l : List ℕ} → a ≡ home → k ≡ m → l ≡ rest → done {E = NotPacket} (let w : Walk = record { found = Some a; next = k; rest = l } in w) ≡ Ok (record { found = Some home; next = m; rest = rest })
    parts p q r = cc

-- two bytes in front of a list
take_two : (k m size : ℕ) (more : List ℕ) → take (k + 2) (m ∷ size ∷ more) ≡ m ∷ size ∷ take k more
take_two k m size more =
    let e : k + 2 ≡ suc (suc k) = omega arith in
    ap (λ (n : ℕ). take n (m ∷ size ∷ more)) e

drop_two : (k m size : ℕ) (more : List ℕ) → drop (k + 2) (m ∷ size ∷ more) ≡ drop k more
drop_two k m size more =
    let e : k + 2 ≡ suc (suc k) = omega arith in
    ap (λ (n : ℕ). drop n (m ∷ size ∷ more)) e

whole_size : (size : ℕ) → 8 * size + 8 ≡ 8 * size + 6 + 2
whole_size size = omega arith

pub options_takes : (n : ℕ) (bytes : List ℕ) (w : Walk) → options_header n bytes ≡ Ok w → Walked (IsOptions w.found n w.next) bytes w.rest
unfolding options_header
options_takes n bytes w =
    let P : Result Walk NotPacket → Type 0 = λ r. r ≡ Ok w → Walked (IsOptions w.found n w.next) bytes w.rest in
    let Q : Walk → Type 0 = λ x. Walked (IsOptions x.found n x.next) bytes x.rest in
    cond_both (not (n == 60)) _ _ P (λ other e. subst Q (ok_is _ w e) (record { part = []; is = (refl, refl); whole = refl })) (λ options.
    cond_both (nat_lt (length bytes) 2) _ _ P (λ short e. absurd cc) (λ long2.
    cond_both (nat_lt (length bytes) (8 * slice_index bytes 1 + 8)) _ _ P (λ short e. absurd cc) (λ long e.
    inside_takes n bytes w (eqb-true n 60 (not-false _ options)) (ltb-false (length bytes) 2 long2) (ltb-false (length bytes) (8 * slice_index bytes 1 + 8) long) e)))
  where
    inside_takes : (n : ℕ) (bytes : List ℕ) (w : Walk) → n ≡ 60 → 2 ≤ length bytes → 8 * slice_index bytes 1 + 8 ≤ length bytes
        → (options_after 0 None (drop 2 (take (8 * slice_index bytes 1 + 8) bytes)) >>= (λ home. done {E = NotPacket} (let x : Walk = record { found = home; next = slice_index bytes 0; rest = drop (8 * slice_index bytes 1 + 8) bytes } in x))) ≡ Ok w
        → Walked (IsOptions w.found n w.next) bytes w.rest
    inside_takes n [] w is long2 long e = absurd (omega (arith, long2))
    inside_takes n (m ∷ []) w is long2 long e = absurd (omega (arith, long2))
    inside_takes n (m ∷ size ∷ more) w is long2 long e =
        let b = bind_ok (options_after 0 None (drop 2 (take (8 * size + 8) (m ∷ size ∷ more)))) (λ home. done {E = NotPacket} (let x : Walk = record { found = home; next = m; rest = drop (8 * size + 8) (m ∷ size ∷ more) } in x)) w e in
        let area : List ℕ = take (8 * size + 6) more in
        let cut : drop 2 (take (8 * size + 8) (m ∷ size ∷ more)) ≡ area = ap (λ (k : ℕ). drop 2 (take k (m ∷ size ∷ more))) (whole_size size) ∙ ap (drop 2) (take_two (8 * size + 6) m size more) in
        let behind : drop (8 * size + 8) (m ∷ size ∷ more) ≡ drop (8 * size + 6) more = ap (λ (k : ℕ). drop k (m ∷ size ∷ more)) (whole_size size) ∙ drop_two (8 * size + 6) m size more in
        let found : IsArea b.0 area = area_takes b.0 area (ap (λ (l : List ℕ). options_after 0 None l) (sym cut) ∙ b.1) in
        let Q : Walk → Type 0 = λ x. Walked (IsOptions x.found n x.next) (m ∷ size ∷ more) x.rest in
        subst Q (ok_is _ w b.2) (record {
          part = m ∷ size ∷ area;
          is = (is, refl, length-take-le (8 * size + 6) more (omega (arith, long)), found);
          whole = ap (λ (l : List ℕ). m ∷ size ∷ l) (sym (take-append-drop (8 * size + 6) more) ∙ ap (λ (l : List ℕ). area ++ l) (sym behind));
        })

pub options_again : (found : Option Address) (n m : ℕ) (part rest : List ℕ) → IsOptions found n m part → (m ≡ 60 → ⊥) → options_header n (part ++ rest) ≡ Ok (record { found = found; next = m; rest = rest })
unfolding options_header
options_again found n m [] rest is other =
    cond-true _ _ _ (not_from_false _ (ne_eqb n 60 (λ e. other (sym is.1 ∙ e))))
    ∙ parts (sym is.0) is.1
  where
    parts : {o : Option Address} {k : ℕ} → o ≡ found → k ≡ m → done {E = NotPacket} (let w : Walk = record { found = o; next = k; rest = rest } in w) ≡ Ok (record { found = found; next = m; rest = rest })
    parts p q = cc
options_again found n m (x ∷ []) rest is other = absurd is
options_again found n m (next ∷ size ∷ area) rest is other =
    let bytes : List ℕ = next ∷ size ∷ (area ++ rest) in
    let long : 8 * size + 8 ≤ length bytes = omega (arith, length-append area rest, is.2) in
    let cut : drop 2 (take (8 * size + 8) bytes) ≡ area =
    ap (λ (k : ℕ). drop 2 (take k bytes)) (whole_size size) ∙ ap (drop 2) (take_two (8 * size + 6) next size (area ++ rest)) ∙ take_at area rest (8 * size + 6) is.2 in
    let behind : drop (8 * size + 8) bytes ≡ rest =
    ap (λ (k : ℕ). drop k bytes) (whole_size size) ∙ drop_two (8 * size + 6) next size (area ++ rest) ∙ drop_at area rest (8 * size + 6) is.2 in
    let walked : options_after 0 None (drop 2 (take (8 * size + 8) bytes)) ≡ Ok found = ap (λ (l : List ℕ). options_after 0 None l) cut ∙ area_again found area is.3 in
    cond-false _ _ _ (not_from_true _ (eq-eqb n 60 is.0))
    ∙ cond-false _ _ _ (le-ltb (length bytes) 2 (omega (arith, long)))
    ∙ cond-false _ _ _ (le-ltb (length bytes) (8 * size + 8) long)
    ∙ ap (λ (r : Result (Option Address) NotPacket). r >>= (λ home. done {E = NotPacket} (let x : Walk = record { found = home; next = next; rest = drop (8 * size + 8) bytes } in x))) walked
    ∙ parts is.1 behind
  where
    parts : {k : ℕ} {l : List ℕ} → k ≡ m → l ≡ rest → done {E = NotPacket} (let w : Walk = record { found = found; next = k; rest = l } in w) ≡ Ok (record { found = found; next = m; rest = rest })
    parts p q = cc
