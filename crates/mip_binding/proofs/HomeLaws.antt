-- What is known of what acceptances leave of each home.
use Rattle.std.proofs.Common.{◌≡◌, ◌≢◌, ℕ, ◌+◌, ◌<◌, ◌≤◌, List, [], ◌∷◌, ◌++◌, Bool, true, false, refl, sym, ap, subst, ◌∙◌, arith}
use Rattle.std.specs.Prelude.{Option, Some, None, option_map, fold, not, ◌&&◌, nat_lt, ◌==◌, if◌then◌else◌}
use Rattle.std.specs.List.{AllByRecursion}
use Rattle.std.proofs.lemmas.List.Sums.{fold-append}
use Rattle.std.proofs.lemmas.Bool.Decides.{nat_tests}
use Rattle.mip_words.specs.Constants.{max_nonce_lifetime}
use Rattle.mip_words.specs.Last.{or_else, last_where}
use Rattle.mip_binding.specs.Acceptance.{Acceptance, Binding, binding_of, is_deletion}
use Rattle.mip_binding.specs.AcceptanceLaws.{kept_until_of}
use Rattle.mip_binding.specs.Rows.{RisesBy, ApartBy, find_by, put_by, others_by}
use Rattle.mip_binding.specs.Homes.{HomeKept, home_key, until_key, number_key, latest, kept_of, joins, kept_with, home_step, home_after, homes, kept_homes}
use Rattle.mip_binding.proofs.RowLaws.{find-put, find-kept, if_kept, rises-put, apart-others, apart-push, others-other}

-- the bindings of a home that an acceptance leaves beside its own
abbrev pub left_by : Option HomeKept → Acceptance → List Binding
left_by None a = []
left_by (Some kept) a = if joins kept a then others_by number_key a.number kept.live else []

pub kept_with-left : (o : Option HomeKept) (a : Acceptance) → kept_with o a ≡ kept_of a (left_by o a ++ binding_of a ∷ [])
kept_with-left None a = refl
kept_with-left (Some kept) a = by (joins kept a)
  where
    by : (b : Bool) → (if b then kept_of a (others_by number_key a.number kept.live ++ binding_of a ∷ []) else kept_of a (binding_of a ∷ []))
        ≡ kept_of a ((if b then others_by number_key a.number kept.live else []) ++ binding_of a ∷ [])
    by true = refl
    by false = refl

pub kept_with-home : (o : Option HomeKept) (a : Acceptance) → (kept_with o a).home ≡ a.home
kept_with-home o a = ap (λ (k : HomeKept). k.home) (kept_with-left o a)

pub kept_with-sequence : (o : Option HomeKept) (a : Acceptance) → (kept_with o a).sequence ≡ a.sequence
kept_with-sequence o a = ap (λ (k : HomeKept). k.sequence) (kept_with-left o a)

-- the latest end is no earlier than any of them
pub latest-moment : (moment : ℕ) (bs : List Binding) → moment ≤ latest moment bs
latest-moment moment [] = omega arith
latest-moment moment (b ∷ bs) = let more = latest-moment moment bs in omega arith

all-later : (low high : ℕ) (bs : List Binding) → low ≤ high → AllByRecursion (λ b. b.end ≤ low) bs → AllByRecursion (λ b. b.end ≤ high) bs
all-later low high [] less all = tt
all-later low high (b ∷ bs) less all = let first = all.0 in (omega arith, all-later low high bs less all.1)

pub latest-ends : (moment : ℕ) (bs : List Binding) → AllByRecursion (λ b. b.end ≤ latest moment bs) bs
latest-ends moment [] = tt
latest-ends moment (b ∷ bs) = (omega arith, all-later (latest moment bs) (latest moment (b ∷ bs)) bs (omega arith) (latest-ends moment bs))

latest-last : (moment : ℕ) (bs : List Binding) (b : Binding) → b.end ≤ latest moment (bs ++ b ∷ [])
latest-last moment [] b = omega arith
latest-last moment (c ∷ bs) b = let more = latest-last moment bs b in omega arith

-- a sequence is kept for as long as its acceptance says, at least
pub kept_with-lasts : (o : Option HomeKept) (a : Acceptance) → kept_until_of a ≤ (kept_with o a).until
kept_with-lasts o a =
    let same = ap (λ (k : HomeKept). k.until) (kept_with-left o a) in
    let period = latest-moment (a.at + max_nonce_lifetime) (left_by o a ++ binding_of a ∷ []) in
    let end = latest-last (a.at + max_nonce_lifetime) (left_by o a) (binding_of a) in
    omega arith

pub kept_with-until : (o : Option HomeKept) (a : Acceptance) → a.at < (kept_with o a).until
kept_with-until o a = let lasts = kept_with-lasts o a in omega arith

-- no binding outlasts the sequence of its home, and no number comes twice
pub record IsWell (kept : HomeKept) : Type 0 where
  pub ends : AllByRecursion (λ b. b.end ≤ kept.until) kept.live
  pub apart : ApartBy number_key kept.live

abbrev pub IsWellIf : Option HomeKept → Type 0
IsWellIf None = Unit {0}
IsWellIf (Some kept) = IsWell kept

left_apart : (o : Option HomeKept) (a : Acceptance) → IsWellIf o → ApartBy number_key (left_by o a) × AllByRecursion (λ b. b.number ≢ a.number) (left_by o a)
left_apart None a well = (tt, tt)
left_apart (Some kept) a well =
    elim (joins kept a) as (λ (b : Bool). ApartBy number_key (if b then others_by number_key a.number kept.live else [])
    × AllByRecursion (λ (c : Binding). c.number ≢ a.number) (if b then others_by number_key a.number kept.live else [])) [
      | true ↦ (apart-others number_key a.number kept.live well.apart, others-other number_key a.number kept.live)
      | false ↦ (tt, tt)
    ]

pub kept_with-well : (o : Option HomeKept) (a : Acceptance) → IsWellIf o → IsWell (kept_with o a)
kept_with-well o a well =
    let left = left_apart o a well in
    subst IsWell (sym (kept_with-left o a)) (record {
      ends = latest-ends (a.at + max_nonce_lifetime) (left_by o a ++ binding_of a ∷ []);
      apart = apart-push number_key (left_by o a) (binding_of a) left.0 left.1;
    })

well_on : (home : ℕ) (o : Option HomeKept) (xs : List Acceptance) → IsWellIf o → IsWellIf (fold (home_step home) o xs)
well_on home o [] well = well
well_on home o (x ∷ xs) well = well_on home (home_step home o x) xs (by (x.home == home))
  where
    by : (same : Bool) → IsWellIf (if same then Some (kept_with o x) else o)
    by true = kept_with-well o x well
    by false = well

pub home_after-well : (xs : List Acceptance) (home : ℕ) → IsWellIf (home_after home xs)
home_after-well xs home = well_on home None xs tt

-- one more acceptance
pub home_after-push : (xs : List Acceptance) (x : Acceptance) (home : ℕ) → home_after home (xs ++ x ∷ []) ≡ home_step home (home_after home xs) x
home_after-push xs x home = fold-append (home_step home) None xs (x ∷ [])

abbrev put_acceptance : List HomeKept → Acceptance → List HomeKept
put_acceptance kept a = put_by home_key (kept_with (find_by home_key a.home kept) a) kept

pub homes-none : homes [] ≡ []
unfolding homes
homes-none = refl

pub homes-push : (xs : List Acceptance) (x : Acceptance) → homes (xs ++ x ∷ []) ≡ put_by home_key (kept_with (find_by home_key x.home (homes xs)) x) (homes xs)
unfolding homes
homes-push xs x = fold-append put_acceptance [] xs (x ∷ [])

rises_on : (kept : List HomeKept) (xs : List Acceptance) → RisesBy home_key kept → RisesBy home_key (fold put_acceptance kept xs)
rises_on kept [] rises = rises
rises_on kept (x ∷ xs) rises = rises_on (put_acceptance kept x) xs (rises-put home_key (kept_with (find_by home_key x.home kept) x) kept rises)

pub rises-homes : (xs : List Acceptance) → RisesBy home_key (homes xs)
unfolding homes
rises-homes xs = rises_on [] xs tt

-- what is found of a home is what is remembered of it
found_on : (home : ℕ) (o : Option HomeKept) (kept : List HomeKept) (xs : List Acceptance) → o ≡ find_by home_key home kept
    → fold (home_step home) o xs ≡ find_by home_key home (fold put_acceptance kept xs)
found_on home o kept [] e = e
found_on home o kept (x ∷ xs) e =
    let put = find-put home_key home (kept_with (find_by home_key x.home kept) x) kept
    ∙ ap (λ (h : ℕ). if h == home then Some (kept_with (find_by home_key x.home kept) x) else find_by home_key home kept) (kept_with-home (find_by home_key x.home kept) x) in
    found_on home (home_step home o x) (put_acceptance kept x) xs (by (x.home == home) refl put)
  where
    by : (same : Bool) → (x.home == home) ≡ same → find_by home_key home (put_acceptance kept x) ≡ (if same then Some (kept_with (find_by home_key x.home kept) x) else find_by home_key home kept)
        → (if same then Some (kept_with o x) else o) ≡ find_by home_key home (put_acceptance kept x)
    by true s f =
        let same : x.home ≡ home = grind (arith, nat_tests) in
        ap (λ (q : Option HomeKept). Some (kept_with q x)) (e ∙ ap (λ (h : ℕ). find_by home_key h kept) (sym same)) ∙ sym f
    by false s f = e ∙ sym f

pub home_after-homes : (xs : List Acceptance) (home : ℕ) → home_after home xs ≡ find_by home_key home (homes xs)
unfolding homes
home_after-homes xs home = found_on home None [] xs refl

-- the sequence of a home is that of its last acceptance
sequence_on : (home : ℕ) (o : Option HomeKept) (xs : List Acceptance) → option_map (λ k. k.sequence) (fold (home_step home) o xs)
    ≡ or_else (option_map (λ a. a.sequence) (last_where (λ a. a.home == home) xs)) (option_map (λ k. k.sequence) o)
sequence_on home o [] = refl
sequence_on home o (x ∷ xs) = sequence_on home (home_step home o x) xs ∙ by (last_where (λ (a : Acceptance). a.home == home) xs) (x.home == home)
  where
    by : (last : Option Acceptance) (same : Bool) → or_else (option_map (λ (a : Acceptance). a.sequence) last) (option_map (λ (k : HomeKept). k.sequence) (if same then Some (kept_with o x) else o))
        ≡ or_else (option_map (λ (a : Acceptance). a.sequence) (or_else last (if same then Some x else None))) (option_map (λ (k : HomeKept). k.sequence) o)
    by (Some a) same = refl
    by None true = ap (λ (s : ℕ). Some s) (kept_with-sequence o x)
    by None false = refl

pub home_after-sequence : (xs : List Acceptance) (home : ℕ) → option_map (λ k. k.sequence) (home_after home xs) ≡ option_map (λ a. a.sequence) (last_where (λ a. a.home == home) xs)
home_after-sequence xs home = sequence_on home None xs ∙ by (last_where (λ (a : Acceptance). a.home == home) xs)
  where
    by : (last : Option Acceptance) → or_else (option_map (λ (a : Acceptance). a.sequence) last) None ≡ option_map (λ (a : Acceptance). a.sequence) last
    by (Some a) = refl
    by None = refl

-- a home whose sequence is no longer kept counts as none, so a cache may forget it
pub kept_with-kept : (kept : List HomeKept) (a : Acceptance) → RisesBy home_key kept → kept_with (find_by home_key a.home (kept_homes a.at kept)) a ≡ kept_with (find_by home_key a.home kept) a
kept_with-kept kept a rises = ap (λ (o : Option HomeKept). kept_with o a) (find-kept home_key until_key a.at a.home kept rises) ∙ by (find_by home_key a.home kept)
  where
    by : (o : Option HomeKept) → kept_with (if_kept until_key a.at o) a ≡ kept_with o a
    by None = refl
    by (Some k) = in_time (nat_lt a.at k.until) refl
      where
        in_time : (b : Bool) → nat_lt a.at k.until ≡ b → kept_with (if b then Some k else None) a ≡ kept_with (Some k) a
        in_time true e = refl
        in_time false e = ended (is_deletion a)
          where
            ended : (d : Bool) → kept_of a (binding_of a ∷ []) ≡ (if not d && nat_lt a.at k.until then kept_of a (others_by number_key a.number k.live ++ binding_of a ∷ []) else kept_of a (binding_of a ∷ []))
            ended true = refl
            ended false = ap (λ (b : Bool). if b then kept_of a (others_by number_key a.number k.live ++ binding_of a ∷ []) else kept_of a (binding_of a ∷ [])) (sym e)
