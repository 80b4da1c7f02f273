-- The discovery under way is the last one that began, unless it is over, with the requests that were sent since.
use Rattle.std.proofs.Common.{◌≡◌, ℕ, ◌+◌, ◌≤◌, ◌<◌, List, [], ◌∷◌, ◌++◌, Bool, true, false, refl, sym, ap, ◌∙◌, arith}
use Rattle.std.specs.Prelude.{◌||◌, ◌*◌, ◌^◌, ◌==◌, nat_le, Option, Some, None, is_some, unwrap_or, option_and_then, fold, if◌then◌else◌}
use Rattle.std.specs.List.{list_any}
use Rattle.std.proofs.lemmas.Bool.{or_parts, eqb-true, eqb-false}
use Rattle.std.proofs.lemmas.Bool.Decides.{nat_tests}
use Rattle.std.proofs.lemmas.List.Sums.{fold-append}
use Rattle.mip_words.specs.declared.address.Address.{Address}
use Rattle.mip_nonce.specs.Secrets.{Life}
use Rattle.mip_words.specs.Last.{or_else, last_where}
use Rattle.mip_words.specs.LastLaws.{since}
use Rattle.mip_words.proofs.LastLaws.{last_where-found}
use Rattle.mip_entries.specs.Stamped.{Stamped}
use Rattle.mip_discovery.specs.Retries.{DiscoverySeen, retried}
use Rattle.mip_rules_mobile.specs.Steps.{Step, Detaches, Restarts, Seeks, SeeksAgain, GivesUp, Finds}
use Rattle.mip_rules_mobile.specs.Known.{Known}
use Rattle.mip_rules_mobile.specs.DiscoveryQuestions.{discovery_after}
use Rattle.mip_rules_mobile.specs.Questions.{after, fresh, known}
use Rattle.mip_rules_mobile.specs.Told.{last_told}
use Rattle.mip_rules_mobile.specs.Counted.{is_search, how_many}
use Rattle.mip_rules_mobile.proofs.Counted.{one_if, many-more}
use Rattle.mip_rules_mobile.specs.Searching.{is_over, is_transition, is_again, search_of, again_at, search_with}

-- what the first step says, the others go on from
module _ {X : Type 0} (says : Stamped Step → Option X) where
  found-same : (x : Stamped Step) (o : Option X) (d e : X) → says x ≡ o → is_some (says x) ≡ true → unwrap_or (says x) d ≡ unwrap_or (says x) e
  found-same x (Some y) d e is some = ap (λ (o : Option X). unwrap_or o d) is ∙ sym (ap (λ (o : Option X). unwrap_or o e) is)
  found-same x None d e is some = absurd (let both : false ≡ true = sym (ap (λ (o : Option X). is_some o) is) ∙ some in cc)

  first-said : (s : Stamped Step) (d : X) (o : Option X) → says s ≡ o → unwrap_or (option_and_then says (if is_some o then Some s else None)) d ≡ unwrap_or o d
  first-said s d (Some y) is = ap (λ (o : Option X). unwrap_or o d) is
  first-said s d None is = refl

  last-cons : (d : X) (s : Stamped Step) (past : List (Stamped Step)) → last_told says d (s ∷ past) ≡ last_told says (unwrap_or (says s) d) past
  last-cons d s past = by (last_where (λ (s : Stamped Step). is_some (says s)) past) refl
    where
      by : (o : Option (Stamped Step)) → last_where (λ (s : Stamped Step). is_some (says s)) past ≡ o
          → unwrap_or (option_and_then says (or_else o (if is_some (says s) then Some s else None))) d ≡ unwrap_or (option_and_then says o) (unwrap_or (says s) d)
      by (Some x) is =
          let f = last_where-found (λ (s : Stamped Step). is_some (says s)) past x is in
          found-same x (says x) d (unwrap_or (says s) d) refl f.passes
      by None is = first-said s d (says s) refl

abbrev again_said : Stamped Step → Option ℕ
again_said s = if is_again s.step then Some s.at else None

-- one request more
retried-of : (identifier retries at now : ℕ) → option_and_then (retried now) (search_of identifier retries at) ≡ search_of identifier (retries + 1) now
retried-of identifier retries at now = by (nat_le retries 4) refl (nat_le (retries + 1) 4) refl (retries == 4) refl
  where
    d : ℕ → DiscoverySeen
    d n = record { identifier = identifier; retries = n; due = now + 3000 * 2 ^ n }

    by : (few : Bool) → nat_le retries 4 ≡ few → (more : Bool) → nat_le (retries + 1) 4 ≡ more → (last : Bool) → (retries == 4) ≡ last
        → option_and_then (retried now) (if few then Some (record { identifier = identifier; retries = retries; due = at + 3000 * 2 ^ retries }) else None)
        ≡ (if more then Some (record { identifier = identifier; retries = retries + 1; due = now + 3000 * 2 ^ (retries + 1) }) else None)
    by true f true m false l = ap (λ (b : Bool). if b then None else Some (record { identifier = identifier; retries = retries + 1; due = now + 3000 * 2 ^ (retries + 1) })) l
    by true f false m true l = ap (λ (b : Bool). if b then None else Some (record { identifier = identifier; retries = retries + 1; due = now + 3000 * 2 ^ (retries + 1) })) l
    by true f true m true l = absurd (let is : retries ≡ 4 = eqb-true retries 4 l in let le : retries + 1 ≤ 4 = grind (arith, nat_tests) in omega (arith, is, le))
    by true f false m false l = absurd (let le : retries ≤ 4 = grind (arith, nat_tests) in let over : 4 < retries + 1 = grind (arith, nat_tests) in eqb-false retries 4 l (omega (arith, le, over)))
    by false f false m last l = refl
    by false f true m last l = absurd (let over : 4 < retries = grind (arith, nat_tests) in let le : retries + 1 ≤ 4 = grind (arith, nat_tests) in omega (arith, over, le))

-- a step that neither begins nor ends a discovery
calm-row : (k : Known) (at : ℕ) (step : Step) → is_transition step ≡ false → discovery_after k at step ≡ (if is_again step then option_and_then (retried at) k.discovery else k.discovery)
calm-row k at Seeks calm = absurd cc
calm-row k at GivesUp calm = absurd cc
calm-row k at (Finds agents) calm = absurd cc
calm-row k at Detaches calm = absurd cc
calm-row k at (Restarts secrets) calm = absurd cc
calm-row k at SeeksAgain calm = refl
calm-row k at _ calm = refl

goes-on : (k : Known) (identifier retries at : ℕ) (later : List (Stamped Step)) → k.discovery ≡ search_of identifier retries at → list_any (λ s. is_transition s.step) later ≡ false
    → (let l : Known = fold after k later in l.discovery) ≡ search_of identifier (retries + how_many is_again later) (again_at at later)
unfolding after
goes-on k identifier retries at [] is calm = is ∙ ap (λ (n : ℕ). search_of identifier n at) (omega arith)
goes-on k identifier retries at (s ∷ later) is calm =
    let parts = or_parts (is_transition s.step) (list_any (λ s. is_transition s.step) later) calm in
    by (is_again s.step) refl (calm-row k s.at s.step parts.0) parts.1 (λ i r a e calm. goes-on (after k s) i r a later e calm)
  where
    whole : (n : ℕ) (again : Bool) → is_again s.step ≡ again → n + how_many is_again later ≡ one_if again + (retries + how_many is_again later) → n + how_many is_again later ≡ retries + how_many is_again (s ∷ later)
    whole n again same e =
        let m : how_many is_again (s ∷ later) ≡ one_if (is_again s.step) + how_many is_again later = many-more is_again s later in
        let o : one_if (is_again s.step) ≡ one_if again = ap one_if same in
        omega (arith, m, o, e)

    last : (again : Bool) → is_again s.step ≡ again → again_at (unwrap_or (if again then Some s.at else None) at) later ≡ again_at at (s ∷ later)
    last again same = sym (last-cons again_said at s later ∙ ap (λ (b : Bool). last_told again_said (unwrap_or (if b then Some s.at else None) at) later) same)

    by : (again : Bool) → is_again s.step ≡ again → discovery_after k s.at s.step ≡ (if again then option_and_then (retried s.at) k.discovery else k.discovery)
        → list_any (λ s. is_transition s.step) later ≡ false
        → ((i r a : ℕ) → discovery_after k s.at s.step ≡ search_of i r a → list_any (λ s. is_transition s.step) later ≡ false → (let l : Known = fold after (after k s) later in l.discovery) ≡ search_of i (r + how_many is_again later) (again_at a later))
        → (let l : Known = fold after (after k s) later in l.discovery) ≡ search_of identifier (retries + how_many is_again (s ∷ later)) (again_at at (s ∷ later))
    by true same row calm on =
        on identifier (retries + 1) s.at (row ∙ ap (option_and_then (retried s.at)) is ∙ retried-of identifier retries at s.at) calm
        ∙ ap (λ (n : ℕ). search_of identifier n (again_at s.at later)) (whole (retries + 1) true same (omega arith))
        ∙ ap (search_of identifier (retries + how_many is_again (s ∷ later))) (last true same)
    by false same row calm on =
        on identifier retries at (row ∙ is) calm
        ∙ ap (λ (n : ℕ). search_of identifier n (again_at at later)) (whole retries false same (omega arith))
        ∙ ap (search_of identifier (retries + how_many is_again (s ∷ later))) (last false same)

-- where none runs, none does until one begins
quiet-row : (k : Known) (at : ℕ) (step : Step) → is_search step ≡ false → k.discovery ≡ None → discovery_after k at step ≡ None
quiet-row k at Seeks calm none = absurd cc
quiet-row k at SeeksAgain calm none = ap (option_and_then (retried at)) none
quiet-row k at GivesUp calm none = refl
quiet-row k at (Finds agents) calm none = refl
quiet-row k at Detaches calm none = refl
quiet-row k at (Restarts secrets) calm none = refl
quiet-row k at _ calm none = none

over-row : (k : Known) (at : ℕ) (step : Step) → is_over step ≡ true → discovery_after k at step ≡ None
over-row k at GivesUp over = refl
over-row k at (Finds agents) over = refl
over-row k at Detaches over = refl
over-row k at (Restarts secrets) over = refl
over-row k at _ over = absurd cc

quiet-none : (k : Known) (later : List (Stamped Step)) → k.discovery ≡ None → list_any (λ s. is_search s.step) later ≡ false → (let l : Known = fold after k later in l.discovery) ≡ None
unfolding after
quiet-none k [] none calm = none
quiet-none k (s ∷ later) none calm =
    let parts = or_parts (is_search s.step) (list_any (λ s. is_search s.step) later) calm in
    quiet-none (after k s) later (quiet-row k s.at s.step parts.0 none) parts.1

over-none : (k : Known) (past : List (Stamped Step)) → list_any (λ s. is_search s.step) (since (λ s. is_over s.step) past) ≡ false → (list_any (λ s. is_over s.step) past ≡ false → k.discovery ≡ None)
    → (let l : Known = fold after k past in l.discovery) ≡ None
unfolding after
over-none k [] calm none = none refl
over-none k (s ∷ past) calm none = by (list_any (λ s. is_over s.step) past) refl (is_over s.step) refl calm none (over-none (after k s) past)
  where
    by : (later : Bool) → list_any (λ s. is_over s.step) past ≡ later → (here : Bool) → is_over s.step ≡ here
        → list_any (λ s. is_search s.step) (if later then since (λ s. is_over s.step) past else (if here then past else s ∷ past)) ≡ false
        → ((here || later) ≡ false → k.discovery ≡ None)
        → (list_any (λ s. is_search s.step) (since (λ s. is_over s.step) past) ≡ false → (list_any (λ s. is_over s.step) past ≡ false → discovery_after k s.at s.step ≡ None) → (let l : Known = fold after (after k s) past in l.discovery) ≡ None)
        → (let l : Known = fold after (after k s) past in l.discovery) ≡ None
    by true l here h calm none on = on calm (λ e. absurd (let both : true ≡ false = sym l ∙ e in cc))
    by false l true h calm none on = quiet-none (after k s) past (over-row k s.at s.step h) calm
    by false l false h calm none on = quiet-none k (s ∷ past) (none refl) calm

module _ (home : Address) (declared : Option Address) (numbers : ℕ) (secrets : Life) where
  pub search-runs : (before : List (Stamped Step)) (at : ℕ) (later : List (Stamped Step)) → list_any (λ s. is_transition s.step) later ≡ false
      → (known home declared numbers secrets (before ++ record { at = at; step = Seeks } ∷ later)).discovery ≡ search_with (known home declared numbers secrets before).discoveries at later
  unfolding known after
  search-runs before at later calm =
      let k : Known = known home declared numbers secrets before in
      ap (λ (l : Known). l.discovery) (fold-append after (fresh home declared numbers secrets) before (record { at = at; step = Seeks } ∷ later))
      ∙ goes-on (after k (record { at = at; step = Seeks })) k.discoveries 0 at later refl calm
      ∙ ap (λ (n : ℕ). search_of k.discoveries n (again_at at later)) (omega arith)

  pub search-none : (past : List (Stamped Step)) → list_any (λ s. is_search s.step) (since (λ s. is_over s.step) past) ≡ false → (known home declared numbers secrets past).discovery ≡ None
  unfolding known after
  search-none past calm = over-none (fresh home declared numbers secrets) past calm (λ _. refl)
