-- Options that are read are spelled so, and what is spelled so is read.
use Rattle.std.proofs.Common.{◌≡◌, ℕ, zero, suc, ◌+◌, ◌<◌, ◌≤◌, List, [], ◌∷◌, ◌++◌, length, take, drop, refl, sym, ap, ◌∙◌, subst, arith, add-one, length-append, length-take, take-append-drop}
use Rattle.std.specs.Prelude.{true, false, not, ◌||◌, ◌==◌, nat_lt, slice_index, Option, Some, None, is_some, option_to_list, Result, Ok}
use Rattle.std.specs.List.{AllByRecursion, flat_map}
use Rattle.std.proofs.lemmas.Bool.{cond_both, cond-true, cond-false, eqb-true, eqb-false, ltb-true, ltb-false, not-false, or_parts, or_from, ne_eqb, lt-ltb, le-ltb, not_from_true}
use Rattle.std.proofs.lemmas.List.{append_assoc, append-nil, drop_at, length-take-le}
use Rattle.mip_words.specs.Numbers.{number_at}
use Rattle.mip_words.specs.Addresses.{address_at, is_routable}
use Rattle.mip_words.specs.declared.address.Address.{Address}
use Rattle.mip_words.proofs.Fields.{number_at-behind, number_at-append}
use Rattle.mip_words.proofs.StepLaws.{bind_ok, ok_is, done}
use Rattle.mip_ipv6.specs.declared.not_packet.NotPacket.{NotPacket}
use Rattle.mip_ipv6.specs.Reading.{option_at, home_option, options_after}
use Rattle.mip_ipv6.specs.Spelling.{Piece, Pad, Skipped, Home, IsPiece, piece_bytes, home_in, IsArea}
use Rattle.mip_ipv6.proofs.Walking.{goes_on}

-- a number in the front of a list
pub number_at-take : (n place size : ℕ) (bytes : List ℕ) → place + n ≤ size → size ≤ length bytes → number_at n place (take size bytes) ≡ number_at n place bytes
number_at-take n place size bytes inside short =
    sym (number_at-append n place (take size bytes) (drop size bytes) (omega (arith, length-take size bytes)))
    ∙ ap (λ (xs : List ℕ). number_at n place xs) (take-append-drop size bytes)

-- an option that was read, as a piece
pub record Taken (type : ℕ) (home : Option Address) (rest : List ℕ) (x : Option Address × ℕ) : Type 0 where
  pub piece : Piece
  pub is : IsPiece piece
  pub inside : x.1 ≤ length rest
  pub bytes : type ∷ take x.1 rest ≡ piece_bytes piece
  pub address : option_to_list home ++ home_in piece ≡ option_to_list x.0

-- the first byte says how long the contents are
contents_of : (size : ℕ) (more : List ℕ) → size + 1 ≤ length (size ∷ more) → take (size + 1) (size ∷ more) ≡ length (take size more) ∷ take size more
contents_of size more inside =
    rw add-one (ap (λ (n : ℕ). n ∷ take size more) (sym (length-take-le size more (omega (arith, inside)))))

skipped_takes : (type : ℕ) (home : Option Address) (rest : List ℕ) → 0 < type → type < 64 → 0 < length rest → slice_index rest 0 + 1 ≤ length rest → Taken type home rest (home, slice_index rest 0 + 1)
skipped_takes type home [] positive low filled inside = absurd (omega (arith, filled))
skipped_takes type home (size ∷ more) positive low filled inside = record {
  piece = Skipped type (take size more);
  is = (positive, low);
  inside = inside;
  bytes = ap (λ (l : List ℕ). type ∷ l) (contents_of size more inside);
  address = append-nil (option_to_list home);
}

first_home : (home : Option Address) (a : Address) → is_some home ≡ false → option_to_list home ++ a ∷ [] ≡ a ∷ []
first_home None a e = refl
first_home (Some b) a e = absurd cc

home_address : (size : ℕ) (more : List ℕ) → 16 ≤ length more → address_at 0 (take 16 more) ≡ address_at 1 (size ∷ more)
home_address size more long =
    let there : number_at 16 1 (size ∷ more) ≡ number_at 16 0 more = number_at-behind 16 1 0 (size ∷ []) more refl in
    let here : number_at 16 0 (take 16 more) ≡ number_at 16 0 more = number_at-take 16 0 16 more (omega arith) long in
    ap (λ (n : ℕ). let a : Address = record { 0 = n } in a) (here ∙ sym there)

home_takes : (home : Option Address) (rest : List ℕ) (x : Option Address × ℕ) → 0 < length rest → slice_index rest 0 + 1 ≤ length rest → home_option home rest ≡ Ok x → Taken 201 home rest x
unfolding home_option
home_takes home [] x filled inside = λ e. absurd (omega (arith, filled))
home_takes home (size ∷ more) x filled inside =
    let P : Result (Option Address × ℕ) NotPacket → Type 0 = λ r. r ≡ Ok x → Taken 201 home (size ∷ more) x in
    cond_both (not (size == 16) || is_some home) _ _ P (λ wrong e. absurd cc) (λ right.
    cond_both (not (is_routable (address_at 1 (size ∷ more)).0)) _ _ P (λ wrong e. absurd cc) (λ host e.
    let tests = or_parts (not (size == 16)) (is_some home) right in
    let sized : size ≡ 16 = eqb-true size 16 (not-false _ tests.0) in
    let long : 16 ≤ length more = omega (arith, inside, sized) in
    subst (λ (y : Option Address × ℕ). Taken 201 home (size ∷ more) y) (ok_is (Some (address_at 1 (size ∷ more)), 17) x e) (record {
      piece = Home (address_at 1 (size ∷ more)) (take 16 more);
      is = (length-take-le 16 more long, home_address size more long, not-false _ host);
      inside = omega (arith, long);
      bytes = ap (λ (n : ℕ). 201 ∷ n ∷ take 16 more) sized;
      address = first_home home (address_at 1 (size ∷ more)) tests.1;
    })))

pub option_takes : (type : ℕ) (home : Option Address) (rest : List ℕ) (x : Option Address × ℕ) → option_at type home rest ≡ Ok x → Taken type home rest x
unfolding option_at
option_takes type home rest x =
    let P : Result (Option Address × ℕ) NotPacket → Type 0 = λ r. r ≡ Ok x → Taken type home rest x in
    cond_both (type == 0) _ _ P
    (λ pad e. subst (λ (y : Option Address × ℕ). Taken type home rest y) (ok_is (home, 0) x e) (record {
      piece = Pad;
      is = tt;
      inside = omega arith;
      bytes = ap (λ (n : ℕ). n ∷ []) (eqb-true type 0 pad);
      address = append-nil (option_to_list home);
    })) (λ other.
    cond_both ((length rest == 0) || nat_lt (length rest) (slice_index rest 0 + 1)) _ _ P (λ past e. absurd cc) (λ inside.
    let tests = or_parts (length rest == 0) (nat_lt (length rest) (slice_index rest 0 + 1)) inside in
    let empty : length rest ≡ 0 → _ = eqb-false (length rest) 0 tests.0 in
    let filled : 0 < length rest = omega arith in
    let whole : slice_index rest 0 + 1 ≤ length rest = ltb-false (length rest) (slice_index rest 0 + 1) tests.1 in
    let nonzero : type ≡ 0 → _ = eqb-false type 0 other in
    let positive : 0 < type = omega arith in
    cond_both (type == 201) _ _ P
    (λ is_home e. subst (λ (t : ℕ). Taken t home rest x) (sym (eqb-true type 201 is_home)) (home_takes home rest x filled whole e)) (λ not_home.
    cond_both (nat_lt type 64) _ _ P
    (λ low e. subst (λ (y : Option Address × ℕ). Taken type home rest y) (ok_is (home, slice_index rest 0 + 1) x e)
    (skipped_takes type home rest positive (ltb-true type 64 low) filled whole))
    (λ high e. absurd cc))))

-- pieces that lead from one home address seen to another
abbrev pub IsAreaFrom : Option Address → Option Address → List ℕ → Type 0
IsAreaFrom home out area =
    (pieces : List Piece) × AllByRecursion IsPiece pieces × (option_to_list home ++ flat_map home_in pieces ≡ option_to_list out) × (area ≡ flat_map piece_bytes pieces)

pub options_take : (skipped : ℕ) (home out : Option Address) (bytes : List ℕ) → skipped ≤ length bytes → options_after skipped home bytes ≡ Ok out → IsAreaFrom home out (drop skipped bytes)
unfolding options_after
options_take zero home out [] inside e = ([], tt, append-nil (option_to_list home) ∙ ap option_to_list (ok_is home out e), refl)
options_take (suc n) home out [] inside e = absurd (omega (arith, inside))
options_take (suc n) home out (b ∷ rest) inside e = options_take n home out rest (omega (arith, inside)) e
options_take zero home out (type ∷ rest) inside e =
    let b = bind_ok (option_at type home rest) (λ x. options_after x.1 x.0 rest) out e in
    let size : ℕ = (b.0).1 in
    let t : Taken type home rest b.0 = option_takes type home rest b.0 b.1 in
    let r : IsAreaFrom (b.0).0 out (drop size rest) = options_take size (b.0).0 out rest t.inside b.2 in
    let homes : option_to_list home ++ flat_map home_in (t.piece ∷ r.0) ≡ option_to_list out =
    sym (append_assoc (option_to_list home) (home_in t.piece) (flat_map home_in r.0)) ∙ ap (λ (l : List Address). l ++ flat_map home_in r.0) t.address ∙ r.2 in
    let bytes : type ∷ rest ≡ flat_map piece_bytes (t.piece ∷ r.0) =
    ap (λ (l : List ℕ). type ∷ l) (sym (take-append-drop size rest)) ∙ ap (λ (l : List ℕ). l ++ drop size rest) t.bytes ∙ ap (λ (l : List ℕ). piece_bytes t.piece ++ l) r.3 in
    (t.piece ∷ r.0, (t.is, r.1), homes, bytes)

-- the options of a whole area
pub area_takes : (home : Option Address) (area : List ℕ) → options_after 0 None area ≡ Ok home → IsArea home area
area_takes home area e = options_take 0 None home area (omega arith) e

same_if_alone : (home out : Option Address) → option_to_list home ++ [] ≡ option_to_list out → home ≡ out
same_if_alone None None e = refl
same_if_alone None (Some b) e = absurd cc
same_if_alone (Some a) None e = absurd cc
same_if_alone (Some a) (Some b) e = cc

no_second : (a b : Address) (more : List Address) (out : Option Address) → a ∷ b ∷ more ≡ option_to_list out → ⊥
no_second a b more None e = cc
no_second a b more (Some c) e = absurd cc

skipped_again : (type : ℕ) (contents : List ℕ) (home : Option Address) (rest : List ℕ) → 0 < type → type < 64 → option_at type home (length contents ∷ (contents ++ rest)) ≡ Ok (home, length contents + 1)
unfolding option_at
skipped_again type contents home rest positive low =
    let whole : nat_lt (length (length contents ∷ (contents ++ rest))) (length contents + 1) ≡ false =
    le-ltb (length (length contents ∷ (contents ++ rest))) (length contents + 1) (omega (arith, length-append contents rest)) in
    cond-false _ _ _ (ne_eqb type 0 (λ e. omega (arith, e)))
    ∙ cond-false _ _ _ (or_from _ _ (ne_eqb (length (length contents ∷ (contents ++ rest))) 0 (λ e. omega (arith, e))) whole)
    ∙ cond-false _ _ _ (ne_eqb type 201 (λ e. omega (arith, e)))
    ∙ cond-true _ _ _ (lt-ltb type 64 low)

home_again : (address : Address) (contents rest : List ℕ) → IsPiece (Home address contents) → option_at 201 None (16 ∷ (contents ++ rest)) ≡ Ok (Some address, 17)
unfolding option_at home_option
home_again address contents rest is =
    let there : number_at 16 1 (16 ∷ (contents ++ rest)) ≡ number_at 16 0 (contents ++ rest) = number_at-behind 16 1 0 (16 ∷ []) (contents ++ rest) refl in
    let here : number_at 16 0 (contents ++ rest) ≡ number_at 16 0 contents = number_at-append 16 0 contents rest (omega (arith, is.0)) in
    let found : address_at 1 (16 ∷ (contents ++ rest)) ≡ address = ap (λ (n : ℕ). let a : Address = record { 0 = n } in a) (there ∙ here) ∙ is.1 in
    let host : is_routable (address_at 1 (16 ∷ (contents ++ rest))).0 ≡ true = ap (λ (a : Address). is_routable a.0) found ∙ is.2 in
    let whole : nat_lt (length (16 ∷ (contents ++ rest))) (16 + 1) ≡ false =
    le-ltb (length (16 ∷ (contents ++ rest))) 17 (omega (arith, length-append contents rest, is.0)) in
    cond-false _ _ _ (or_from _ _ (ne_eqb (length (16 ∷ (contents ++ rest))) 0 (λ e. omega (arith, e))) whole)
    ∙ cond-false _ _ _ (not_from_true _ host)
    ∙ ap (λ (a : Address). done (Some a, 17)) found

-- pieces are walked to their end
pub options_again : (pieces : List Piece) (home out : Option Address) → AllByRecursion IsPiece pieces → option_to_list home ++ flat_map home_in pieces ≡ option_to_list out → options_after 0 home (flat_map piece_bytes pieces) ≡ Ok out
unfolding options_after option_at
options_again [] home out are e = ap done (same_if_alone home out e)
options_again (Pad ∷ pieces) home out are e = options_again pieces home out are.1 e
options_again (Skipped type contents ∷ pieces) home out are e =
    let rest : List ℕ = flat_map piece_bytes pieces in
    let all : List ℕ = type ∷ length contents ∷ (contents ++ rest) in
    let step : options_after 0 home all ≡ options_after 0 home (drop (length contents + 1) (drop 1 all)) =
    goes_on home home (length contents + 1) all (omega arith) (omega (arith, length-append contents rest)) (skipped_again type contents home rest (are.0).0 (are.0).1) in
    let behind : drop (length contents + 1) (length contents ∷ (contents ++ rest)) ≡ rest = rw add-one (drop_at contents rest (length contents) refl) in
    step ∙ ap (λ (l : List ℕ). options_after 0 home l) behind ∙ options_again pieces home out are.1 e
options_again (Home address contents ∷ pieces) None out are e =
    let rest : List ℕ = flat_map piece_bytes pieces in
    let all : List ℕ = 201 ∷ 16 ∷ (contents ++ rest) in
    let step : options_after 0 None all ≡ options_after 0 (Some address) (drop 17 (drop 1 all)) =
    goes_on None (Some address) 17 all (omega arith) (omega (arith, length-append contents rest, (are.0).0)) (home_again address contents rest are.0) in
    let behind : drop 16 (contents ++ rest) ≡ rest = drop_at contents rest 16 (are.0).0 in
    step ∙ ap (λ (l : List ℕ). options_after 0 (Some address) l) behind ∙ options_again pieces (Some address) out are.1 e
options_again (Home address contents ∷ pieces) (Some a) out are e =
    absurd (no_second a address (flat_map home_in pieces) out e)

pub area_again : (home : Option Address) (area : List ℕ) → IsArea home area → options_after 0 None area ≡ Ok home
area_again home area is = rw is.3 (options_again is.0 None home is.1 is.2)
