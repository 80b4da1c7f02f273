-- The registrations of an agent that are to end: no two are of one home, and the agent has the address of each.
use Rattle.std.proofs.Common.{◌≡◌, ℕ, List, [], ◌∷◌, ◌++◌, Bool, true, false, refl, sym, ap, ◌∙◌, subst, take, drop, take-append-drop, nat_lt}
use Rattle.std.specs.Prelude.{Option, Some, None, is_some, not, cond, ◌==◌, if◌then◌else◌, filter, insert}
use Rattle.std.specs.List.{AllByRecursion}
use Rattle.std.specs.Option.{option_map_or}
use Rattle.std.proofs.lemmas.Bool.{eqb-true, eq-eqb}
use Rattle.mip_words.specs.declared.address.Address.{Address}
use Rattle.mip_discovery.proofs.ListLaws.{all-filter, all-more}
use Rattle.mip_entries.specs.Stamped.{stamped}
use Rattle.mip_entries.specs.Transitions.{known_by, noted_by}
use Rattle.mip_entries.proofs.TransitionLaws.{noted_all, noted_all-is}
use Rattle.mip_rules_agent.specs.declared.ending.Ending.{Ending}
use Rattle.mip_rules_agent.specs.declared.home_binding.HomeBinding.{HomeBinding}
use Rattle.mip_rules_agent.specs.declared.identity.Identity.{Identity}
use Rattle.mip_rules_agent.specs.declared.served.Served.{Served}
use Rattle.mip_rules_agent.specs.Known.{Known}
use Rattle.mip_rules_agent.specs.Calls as calls
use Rattle.mip_rules_agent.specs.Steps.{Step, Called, Sends, Registers, Claims, Releases, Denies, Drops, Rang}
use Rattle.mip_rules_agent.specs.Questions.{bound_to, holding, place_of, without_end, with_end, ends_with, due_ends, later_ends, after, served_at, is_served, holds}
use Rattle.mip_rules_agent.specs.Transitions.{Transition, begun, noted}
use Rattle.mip_rules_agent.specs.Doing.{releases_all, ticks, does, transition_of}
use Rattle.mip_rules_agent.proofs.Homes.{found_if}
use Rattle.mip_rules_agent.proofs.Pasts.{row_after, served-after}
use Rattle.mip_law_claims.proofs.Updating.{by_steps}

pub flipped : (a b : ℕ) → (a == b) ≡ false → (b == a) ≡ false
flipped a b apart = by (b == a) refl
  where
    by : (same : Bool) → (b == a) ≡ same → same ≡ false
    by true same = absurd (let both : true ≡ false = sym (eq-eqb a b (sym (eqb-true b a same))) ∙ apart in cc)
    by false same = refl

-- the ends are of other homes than this one
abbrev pub IsOther : ℕ → Ending → Type 0
IsOther h e = (e.home.0 == h) ≡ false

abbrev pub AreOthers : ℕ → List Ending → Type 0
AreOthers h es = AllByRecursion (IsOther h) es

-- no two are of one home
abbrev pub AreApart : List Ending → Type 0
AreApart [] = Unit {0}
AreApart (e ∷ es) = AreOthers e.home.0 es × AreApart es

-- the agent has the address of each
abbrev pub AreHeld : Known → List Ending → Type 0
AreHeld k es = AllByRecursion (λ e. holds k e.home ≡ true) es

all_between : (P : Ending → Type 0) (e : Ending) (xs ys : List Ending) → P e → AllByRecursion P (xs ++ ys) → AllByRecursion P (xs ++ e ∷ ys)
all_between P e [] ys is all = (is, all)
all_between P e (x ∷ xs) ys is all = (all.0, all_between P e xs ys is all.1)

all_insert : (P : Ending → Type 0) (e : Ending) (n : ℕ) (es : List Ending) → P e → AllByRecursion P es → AllByRecursion P (insert es n e)
all_insert P e n es is all = all_between P e (take n es) (drop n es) is (subst (AllByRecursion P) (sym (take-append-drop n es)) all)

both_all : (P Q : Ending → Type 0) (es : List Ending) → AllByRecursion P es → AllByRecursion Q es → AllByRecursion (λ e. P e × Q e) es
both_all P Q [] p q = tt
both_all P Q (e ∷ es) p q = ((p.0, q.0), both_all P Q es p.1 q.1)

apart_filter : (test : Ending → Bool) (es : List Ending) → AreApart es → AreApart (filter test es)
apart_filter test [] apart = tt
apart_filter test (e ∷ es) apart =
    elim (test e) as (λ b. AreApart (cond b (e ∷ filter test es) (filter test es))) [
      | true ↦ (all-filter (IsOther e.home.0) test es apart.0, apart_filter test es apart.1)
      | false ↦ apart_filter test es apart.1
    ]

apart_between : (e : Ending) (xs ys : List Ending) → AreOthers e.home.0 (xs ++ ys) → AreApart (xs ++ ys) → AreApart (xs ++ e ∷ ys)
apart_between e [] ys others apart = (others, apart)
apart_between e (x ∷ xs) ys others apart =
    (all_between (IsOther x.home.0) e xs ys (flipped x.home.0 e.home.0 others.0) apart.0, apart_between e xs ys others.1 apart.1)

apart_insert : (e : Ending) (n : ℕ) (es : List Ending) → AreOthers e.home.0 es → AreApart es → AreApart (insert es n e)
apart_insert e n es others apart =
    let whole = sym (take-append-drop n es) in
    apart_between e (take n es) (drop n es) (subst (AreOthers e.home.0) whole others) (subst AreApart whole apart)

others_without : (home : Address) (es : List Ending) → AreOthers home.0 (without_end home es)
others_without home [] = tt
others_without home (e ∷ es) =
    (elim (e.home.0 == home.0) as (λ b. (e.home.0 == home.0) ≡ b → AreOthers home.0 (cond (not b) (e ∷ without_end home es) (without_end home es))) [
      | true ↦ λ is. others_without home es
      | false ↦ λ is. (is, others_without home es)
    ]) refl

-- what is accepted for a home
pub apart_with : (home : Address) (b : HomeBinding) (es : List Ending) → AreApart es → AreApart (ends_with home b es)
apart_with home b es apart = by (b.careof.0 == home.0)
  where
    left : AreApart (without_end home es)
    left = apart_filter (λ (e : Ending). not (e.home.0 == home.0)) es apart

    by : (ends : Bool) → AreApart (if ends then without_end home es else with_end (record { home = home; end = b.end }) (without_end home es))
    by true = left
    by false = apart_insert (record { home = home; end = b.end }) (place_of b.end.0 (without_end home es)) (without_end home es) (others_without home es) left

pub held_with : (home : Address) (b : HomeBinding) (k n : Known) (es : List Ending) → AreHeld k es → ((x : Address) → (x.0 == home.0) ≡ false → holds k x ≡ true → holds n x ≡ true)
    → ((b.careof.0 == home.0) ≡ false → holds n home ≡ true) → AreHeld n (ends_with home b es)
held_with home b k n es held kept mine = by (b.careof.0 == home.0) refl
  where
    left : AreHeld n (without_end home es)
    left =
        all-more (λ (e : Ending). IsOther home.0 e × (holds k e.home ≡ true)) (λ (e : Ending). holds n e.home ≡ true) (λ e is. kept e.home is.0 is.1) (without_end home es)
        (both_all (IsOther home.0) (λ (e : Ending). holds k e.home ≡ true) (without_end home es) (others_without home es)
        (all-filter (λ (e : Ending). holds k e.home ≡ true) (λ (e : Ending). not (e.home.0 == home.0)) es held))

    by : (ends : Bool) → (b.careof.0 == home.0) ≡ ends → AreHeld n (if ends then without_end home es else with_end (record { home = home; end = b.end }) (without_end home es))
    by true is = left
    by false is =
        all_insert (λ (e : Ending). holds n e.home ≡ true) (record { home = home; end = b.end }) (place_of b.end.0 (without_end home es)) (without_end home es) (mine is) left

-- whether the address of a home is had after a step
abbrev pub held_after : Step → ℕ → (served held : Bool) → Bool
held_after (Claims h) home served held = if h.0 == home then served else held
held_after (Releases h) home served held = if h.0 == home then false else held
held_after _ home served held = held

row_held : (home : Address) (step : Step) (o : Option Served)
    → option_map_or (λ s. s.held) (row_after home step o) false ≡ held_after step home.0 (is_some o) (option_map_or (λ s. s.held) o false)
row_held home (Registers number h b) o = by (h.0 == home.0) o
  where
    by : (same : Bool) (o : Option Served) → option_map_or (λ s. s.held) (found_if (bound_to b) same o) false ≡ option_map_or (λ s. s.held) o false
    by true None = refl
    by true (Some s) = refl
    by false o = refl
row_held home (Claims h) o = by (h.0 == home.0) o
  where
    by : (same : Bool) (o : Option Served) → option_map_or (λ s. s.held) (found_if (holding true) same o) false ≡ (if same then is_some o else option_map_or (λ s. s.held) o false)
    by true None = refl
    by true (Some s) = refl
    by false o = refl
row_held home (Releases h) o = by (h.0 == home.0) o
  where
    by : (same : Bool) (o : Option Served) → option_map_or (λ s. s.held) (found_if (holding false) same o) false ≡ (if same then false else option_map_or (λ s. s.held) o false)
    by true None = refl
    by true (Some s) = refl
    by false o = refl
row_held home (Called call) o = refl
row_held home (Sends shield packet) o = refl
row_held home (Denies number status) o = refl
row_held home (Drops number why) o = refl
row_held home Rang o = refl

pub holds_after : (k : Known) (at : ℕ) (step : Step) (home : Address) → holds (after k (record { at = at; step = step })) home ≡ held_after step home.0 (is_served k home) (holds k home)
holds_after k at step home =
    ap (λ (o : Option Served). option_map_or (λ (s : Served). s.held) o false) (served-after home k at step) ∙ row_held home step (served_at k home)

-- steps that claim nothing, and give up only what is had
abbrev pub IsReady : Known → Step → Type 0
IsReady k (Claims home) = ⊥
IsReady k (Releases home) = holds k home ≡ true
IsReady k _ = Unit {0}

abbrev pub AreReady : ℕ → Known → List Step → Type 0
AreReady now k [] = Unit {0}
AreReady now k (step ∷ steps) = IsReady k step × AreReady now (after k (record { at = now; step = step })) steps

-- the steps of a tick
abbrev pub releasing : List Ending → List Step
releasing [] = Rang ∷ []
releasing (e ∷ es) = Releases e.home ∷ releasing es

releasing_is : (es : List Ending) (t : Transition) → noted Rang (releases_all es t) ≡ noted_all after (releasing es) t
releasing_is [] t = refl
releasing_is (e ∷ es) t = releasing_is es (noted (Releases e.home) t)

pub tick_is : (me : Identity) (k : Known) (now : ℕ) → transition_of me k now calls.Tick ≡ by_steps now k (Called calls.Tick ∷ releasing (due_ends now k.ends))
unfolding does ticks after noted_by
tick_is me k now =
    releasing_is (due_ends now k.ends) (noted (Called calls.Tick) (begun now k)) ∙ noted_all-is after (Called calls.Tick ∷ releasing (due_ends now k.ends)) (begun now k)

module _ (now : ℕ) where
  abbrev pub released_of : Known → List Ending → Known
  released_of k es = known_by after k (stamped now (releasing es))

  -- what is released is not had, the rest stays
  released_kept : (k : Known) (e : Ending) (x : Address) → (e.home.0 == x.0) ≡ false → holds (after k (record { at = now; step = Releases e.home })) x ≡ holds k x
  released_kept k e x apart = holds_after k now (Releases e.home) x ∙ ap (λ (b : Bool). if b then false else holds k x) apart

  kept_held : (k : Known) (e : Ending) (es : List Ending) → AreOthers e.home.0 es → AreHeld k es → AreHeld (after k (record { at = now; step = Releases e.home })) es
  kept_held k e es others held =
      all-more (λ (x : Ending). IsOther e.home.0 x × (holds k x.home ≡ true)) (λ (x : Ending). holds (after k (record { at = now; step = Releases e.home })) x.home ≡ true)
      (λ x is. released_kept k e x.home (flipped x.home.0 e.home.0 is.0) ∙ is.1) es
      (both_all (IsOther e.home.0) (λ (x : Ending). holds k x.home ≡ true) es others held)

  pub ready_releasing : (es : List Ending) (k : Known) → AreHeld k es → AreApart es → AreReady now k (releasing es)
  ready_releasing [] k held apart = (tt, tt)
  ready_releasing (e ∷ es) k held apart =
      (held.0, ready_releasing es (after k (record { at = now; step = Releases e.home })) (kept_held k e es apart.0 held.1) apart.1)

  pub released_ends : (es : List Ending) (k : Known) → (let n : Known = released_of k es in n.ends) ≡ later_ends now k.ends
  unfolding after
  released_ends [] k = refl
  released_ends (e ∷ es) k = released_ends es (after k (record { at = now; step = Releases e.home }))

  released_holds : (es : List Ending) (k : Known) (x : Address) → AllByRecursion (λ e. (e.home.0 == x.0) ≡ false) es → holds (released_of k es) x ≡ holds k x
  released_holds [] k x others = holds_after k now Rang x
  released_holds (e ∷ es) k x others = released_holds es (after k (record { at = now; step = Releases e.home })) x others.1 ∙ released_kept k e x others.0

  -- those that end later are of other homes than those that are due
  later_others : (es : List Ending) → AreApart es → AllByRecursion (λ x. AreOthers x.home.0 (due_ends now es)) (later_ends now es)
  later_others [] apart = tt
  later_others (e ∷ es) apart =
      elim (nat_lt now e.end.0) as (λ b. AllByRecursion (λ x. AreOthers x.home.0 (cond (not b) (e ∷ due_ends now es) (due_ends now es))) (cond b (e ∷ later_ends now es) (later_ends now es))) [
        | true ↦ (all-filter (IsOther e.home.0) (λ (x : Ending). not (nat_lt now x.end.0)) es apart.0, later_others es apart.1)
        | false ↦
            all-more (λ (x : Ending). IsOther e.home.0 x × AreOthers x.home.0 (due_ends now es)) (λ (x : Ending). AreOthers x.home.0 (e ∷ due_ends now es))
            (λ x is. (flipped x.home.0 e.home.0 is.0, is.1)) (later_ends now es)
            (both_all (IsOther e.home.0) (λ (x : Ending). AreOthers x.home.0 (due_ends now es)) (later_ends now es)
            (all-filter (IsOther e.home.0) (λ (x : Ending). nat_lt now x.end.0) es apart.0) (later_others es apart.1))
      ]

  pub later_held : (k : Known) (es : List Ending) → AreApart es → AreHeld k es → AreHeld (released_of k (due_ends now es)) (later_ends now es)
  later_held k es apart held =
      all-more (λ (x : Ending). AreOthers x.home.0 (due_ends now es) × (holds k x.home ≡ true)) (λ (x : Ending). holds (released_of k (due_ends now es)) x.home ≡ true)
      (λ x is. released_holds (due_ends now es) k x.home is.0 ∙ is.1) (later_ends now es)
      (both_all (λ (x : Ending). AreOthers x.home.0 (due_ends now es)) (λ (x : Ending). holds k x.home ≡ true) (later_ends now es) (later_others es apart)
      (all-filter (λ (x : Ending). holds k x.home ≡ true) (λ (x : Ending). nat_lt now x.end.0) es held))

  pub later_apart : (es : List Ending) → AreApart es → AreApart (later_ends now es)
  later_apart es apart = apart_filter (λ (x : Ending). nat_lt now x.end.0) es apart

  pub due_apart : (es : List Ending) → AreApart es → AreApart (due_ends now es)
  due_apart es apart = apart_filter (λ (x : Ending). not (nat_lt now x.end.0)) es apart

  pub due_held : (k : Known) (es : List Ending) → AreHeld k es → AreHeld k (due_ends now es)
  due_held k es held = all-filter (λ (x : Ending). holds k x.home ≡ true) (λ (x : Ending). not (nat_lt now x.end.0)) es held
