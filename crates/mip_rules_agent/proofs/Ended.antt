-- Whose ends are in the list of ends.
use Rattle.std.proofs.Common.{◌≡◌, ℕ, ◌≤◌, List, [], ◌∷◌, ◌++◌, take, drop, take-append-drop, Bool, true, false, refl, sym, ap, ◌∙◌, subst, arith, nat_lt}
use Rattle.std.specs.Prelude.{not, cond, ◌&&◌, ◌||◌, ◌==◌, filter, insert, fold, Option, Some, if◌then◌else◌}
use Rattle.std.specs.List.{AllByRecursion, list_any}
use Rattle.std.specs.Option.{option_and_then}
use Rattle.std.proofs.lemmas.Bool.{eq-eqb, eqb-true}
use Rattle.std.proofs.lemmas.Bool.Decides.{nat_tests}
use Rattle.std.proofs.lemmas.List.{append_assoc, append-nil}
use Rattle.std.proofs.lemmas.List.Folds.{list_any-append}
use Rattle.mip_words.specs.Last.{last_where}
use Rattle.mip_words.proofs.LastLaws.{last_where-push}
use Rattle.mip_words.specs.declared.address.Address.{Address}
use Rattle.mip_entries.specs.Stamped.{Stamped}
use Rattle.mip_discovery.proofs.ListLaws.{all-filter}
use Rattle.mip_rules_agent.specs.declared.ending.Ending.{Ending}
use Rattle.mip_rules_agent.specs.declared.home_binding.HomeBinding.{HomeBinding}
use Rattle.mip_rules_agent.specs.Known.{Known}
use Rattle.mip_rules_agent.specs.Steps.{Step, Called, Sends, Registers, Claims, Releases, Denies, Drops, Rang}
use Rattle.mip_rules_agent.specs.Questions.{without_end, with_end, place_of, ends_after, later_ends, after, fresh, known, is_standing}
use Rattle.mip_rules_agent.specs.Pasts.{is_registration_of, registered_by, last_binding}
use Rattle.mip_rules_agent.specs.Ends.{IsEndOf, has_end, AreUntil}

-- a fact of all elements that is another one of each
all-weaker : {X : Type 0} (P Q : X → Type 0) → ((x : X) → P x → Q x) → (xs : List X) → AllByRecursion P xs → AllByRecursion Q xs
all-weaker P Q weaker [] all = tt
all-weaker P Q weaker (x ∷ xs) all = (weaker x all.0, all-weaker P Q weaker xs all.1)

all-between : {X : Type 0} (P : X → Type 0) (x : X) (xs ys : List X) → P x → AllByRecursion P (xs ++ ys) → AllByRecursion P (xs ++ x ∷ ys)
all-between P x [] ys is all = (is, all)
all-between P x (y ∷ xs) ys is all = (all.0, all-between P x xs ys is all.1)

all-insert : {X : Type 0} (P : X → Type 0) (x : X) (n : ℕ) (xs : List X) → P x → AllByRecursion P xs → AllByRecursion P (insert xs n x)
all-insert P x n xs is all = all-between P x (take n xs) (drop n xs) is (subst (AllByRecursion P) (sym (take-append-drop n xs)) all)

-- what the test of a filter tells of what it leaves
all-kept : {X : Type 0} (P Q : X → Type 0) (p : X → Bool) → ((x : X) → p x ≡ true → P x → Q x) → (xs : List X) → AllByRecursion P xs → AllByRecursion Q (filter p xs)
all-kept P Q p weaker [] all = tt
all-kept P Q p weaker (x ∷ xs) all =
    (elim (p x) as (λ b. p x ≡ b → AllByRecursion Q (cond b (x ∷ filter p xs) (filter p xs))) [
      | true ↦ λ is. (weaker x is all.0, all-kept P Q p weaker xs all.1)
      | false ↦ λ is. all-kept P Q p weaker xs all.1
    ]) refl

-- one that passes a test is there still
any-kept : {X : Type 0} (test p : X → Bool) → ((x : X) → test x ≡ true → p x ≡ true) → (xs : List X) → list_any test xs ≡ true → list_any test (filter p xs) ≡ true
any-kept test p weaker [] any = any
any-kept test p weaker (x ∷ xs) any =
    (elim (test x) as (λ t. test x ≡ t → (t || list_any test xs) ≡ true → list_any test (cond (p x) (x ∷ filter p xs) (filter p xs)) ≡ true) [
      | true ↦ λ is some. subst (λ (b : Bool). list_any test (cond b (x ∷ filter p xs) (filter p xs)) ≡ true) (sym (weaker x is)) (ap (λ (b : Bool). b || list_any test (filter p xs)) is)
      | false ↦ λ is some.
          elim (p x) as (λ b. list_any test (cond b (x ∷ filter p xs) (filter p xs)) ≡ true) [
            | true ↦ ap (λ (b : Bool). b || list_any test (filter p xs)) is ∙ any-kept test p weaker xs some
            | false ↦ any-kept test p weaker xs some
          ]
    ]) refl any

or_true : (a b : Bool) → b ≡ true → (a || b) ≡ true
or_true true b is = refl
or_true false b is = is

or_more : (a b c : Bool) → (a || b) ≡ true → (a || (c || b)) ≡ true
or_more true b c is = refl
or_more false b c is = or_true c b is

-- and behind one more
any-more : {X : Type 0} (test : X → Bool) (x : X) (n : ℕ) (xs : List X) → list_any test xs ≡ true → list_any test (insert xs n x) ≡ true
any-more test x n xs any =
    let whole : list_any test (take n xs ++ drop n xs) ≡ true = ap (list_any test) (take-append-drop n xs) ∙ any in
    list_any-append test (take n xs) (x ∷ drop n xs)
    ∙ or_more (list_any test (take n xs)) (list_any test (drop n xs)) (test x) (sym (list_any-append test (take n xs) (drop n xs)) ∙ whole)

any-new : {X : Type 0} (test : X → Bool) (x : X) (n : ℕ) (xs : List X) → test x ≡ true → list_any test (insert xs n x) ≡ true
any-new test x n xs is =
    list_any-append test (take n xs) (x ∷ drop n xs)
    ∙ or_true (list_any test (take n xs)) (test x || list_any test (drop n xs)) (ap (λ (b : Bool). b || list_any test (drop n xs)) is)

-- the last registration after one step more
abbrev binding_if : Step → Bool → Option HomeBinding → Option HomeBinding
binding_if step true o = registered_by step
binding_if step false o = o

last-pushed : (home : Address) (past : List (Stamped Step)) (s : Stamped Step) → last_binding home (past ++ s ∷ []) ≡ binding_if s.step (is_registration_of home s.step) (last_binding home past)
last-pushed home past s =
    ap (λ (o : Option (Stamped Step)). option_and_then (λ s. registered_by s.step) o) (last_where-push (λ (s : Stamped Step). is_registration_of home s.step) past s)
    ∙ by (is_registration_of home s.step)
  where
    by : (is : Bool) → option_and_then (λ s. registered_by s.step) (if is then Some s else last_where (λ s. is_registration_of home s.step) past) ≡ binding_if s.step is (last_binding home past)
    by true = refl
    by false = refl

-- an end that another step leaves
still : (past : List (Stamped Step)) (s : Stamped Step) (e : Ending) → is_registration_of e.home s.step ≡ false → IsEndOf past e → IsEndOf (past ++ s ∷ []) e
still past s e other is = record {
  binding = is.binding;
  last = last-pushed e.home past s ∙ ap (λ (b : Bool). binding_if s.step b (last_binding e.home past)) other ∙ is.last;
  away = is.away;
  then = is.then;
}

flipped : (a b : ℕ) → not (a == b) ≡ true → (b == a) ≡ false
flipped a b other = grind (arith, nat_tests, other)

abbrev AreEndsOf : List (Stamped Step) → List Ending → Type 0
AreEndsOf past es = AllByRecursion (IsEndOf past) es

-- a step that registers nothing
quiet : (past : List (Stamped Step)) (s : Stamped Step) (es : List Ending) → ((home : Address) → is_registration_of home s.step ≡ false) → AreEndsOf past es → AreEndsOf (past ++ s ∷ []) es
quiet past s es none all = all-weaker (IsEndOf past) (IsEndOf (past ++ s ∷ [])) (λ e is. still past s e (none e.home) is) es all

listed-after : (past : List (Stamped Step)) (es : List Ending) (at : ℕ) (step : Step) → AreEndsOf past es → AreEndsOf (past ++ record { at = at; step = step } ∷ []) (ends_after es at step)
listed-after past es at (Registers number home b) all = by (b.careof.0 == home.0) refl
  where
    s : Stamped Step
    s = record { at = at; step = Registers number home b }

    others : AreEndsOf (past ++ s ∷ []) (without_end home es)
    others = all-kept (IsEndOf past) (IsEndOf (past ++ s ∷ [])) (λ (e : Ending). not (e.home.0 == home.0)) (λ e other is. still past s e (flipped e.home.0 home.0 other) is) es all

    by : (ends : Bool) → (b.careof.0 == home.0) ≡ ends → AreEndsOf (past ++ s ∷ []) (if ends then without_end home es else with_end (record { home = home; end = b.end }) (without_end home es))
    by true is = others
    by false is = all-insert (IsEndOf (past ++ s ∷ [])) (record { home = home; end = b.end }) (place_of b.end.0 (without_end home es)) (without_end home es) (record {
      binding = b;
      last = last-pushed home past s ∙ ap (λ (same : Bool). binding_if s.step same (last_binding home past)) (eq-eqb home.0 home.0 refl);
      away = is;
      then = refl;
    }) others
listed-after past es at Rang all = all-filter (IsEndOf (past ++ record { at = at; step = Rang } ∷ [])) (λ (e : Ending). nat_lt at e.end.0) es (quiet past (record { at = at; step = Rang }) es (λ home. refl) all)
listed-after past es at (Called call) all = quiet past (record { at = at; step = Called call }) es (λ home. refl) all
listed-after past es at (Sends shield packet) all = quiet past (record { at = at; step = Sends shield packet }) es (λ home. refl) all
listed-after past es at (Claims home) all = quiet past (record { at = at; step = Claims home }) es (λ home. refl) all
listed-after past es at (Releases home) all = quiet past (record { at = at; step = Releases home }) es (λ home. refl) all
listed-after past es at (Denies number status) all = quiet past (record { at = at; step = Denies number status }) es (λ home. refl) all
listed-after past es at (Drops number why) all = quiet past (record { at = at; step = Drops number why }) es (λ home. refl) all

listed-from : (k : Known) (front past : List (Stamped Step)) → AreEndsOf front k.ends → AreEndsOf (front ++ past) (fold after k past).ends
unfolding after
listed-from k front [] all = quiet-end
  where
    quiet-end : AreEndsOf (front ++ []) k.ends
    quiet-end = subst (λ (p : List (Stamped Step)). AreEndsOf p k.ends) (sym (append-nil front)) all
listed-from k front (s ∷ past) all =
    subst (λ (p : List (Stamped Step)). AreEndsOf p (fold after (after k s) past).ends) (append_assoc front (s ∷ []) past)
    (listed-from (after k s) (front ++ s ∷ []) past (listed-after front k.ends s.at s.step all))

-- each end in the list is that of the last registration of its home
pub known-listed : (serves : List Address) (past : List (Stamped Step)) → AreEndsOf past (known serves past).ends
unfolding known
known-listed serves past = listed-from (fresh serves) [] past tt

-- the registrations that stand at a moment have their ends in the list
abbrev AreListed : ℕ → List (Stamped Step) → List Ending → Type 0
AreListed now past es = (home : Address) (b : HomeBinding) → last_binding home past ≡ Some b → is_standing home now b ≡ true → has_end home b.end es ≡ true

second_of : (a b : Bool) → (a && b) ≡ true → b ≡ true
second_of true b is = is
second_of false b is = absurd cc

first_of : (a b : Bool) → (a && b) ≡ true → a ≡ true
first_of true b is = refl
first_of false b is = absurd cc

both : (a b : Bool) → a ≡ true → b ≡ true → (a && b) ≡ true
both true b first second = second
both false b first second = absurd cc

-- a step that registers nothing
unchanged : (now : ℕ) (past : List (Stamped Step)) (s : Stamped Step) (es : List Ending) → ((home : Address) → is_registration_of home s.step ≡ false) → AreListed now past es → AreListed now (past ++ s ∷ []) es
unchanged now past s es none all = λ home b last stands.
    all home b (sym (last-pushed home past s ∙ ap (λ (is : Bool). binding_if s.step is (last_binding home past)) (none home)) ∙ last) stands

-- the ends after this moment stay
ahead : (now at : ℕ) (past : List (Stamped Step)) (es : List Ending) → at ≤ now → AreListed now past es → AreListed now past (later_ends at es)
ahead now at past es early all = λ home b last stands.
    let later : nat_lt now b.end.0 ≡ true = second_of (not (b.careof.0 == home.0)) (nat_lt now b.end.0) stands in
    any-kept (λ (e : Ending). (e.home.0 == home.0) && (e.end.0 == b.end.0)) (λ (e : Ending). nat_lt at e.end.0)
    (λ e is. let same : e.end.0 ≡ b.end.0 = eqb-true e.end.0 b.end.0 (second_of (e.home.0 == home.0) (e.end.0 == b.end.0) is) in grind (arith, nat_tests, same, later, early)) es (all home b last stands)

registered : (now : ℕ) (past : List (Stamped Step)) (at number : ℕ) (h : Address) (b : HomeBinding) (es : List Ending) → AreListed now past es
    → AreListed now (past ++ record { at = at; step = Registers number h b } ∷ []) (ends_after es at (Registers number h b))
registered now past at number h b es all = λ home kept last stands. by home kept (h.0 == home.0) refl (sym (last-pushed home past s) ∙ last) stands
  where
    s : Stamped Step
    s = record { at = at; step = Registers number h b }

    test : Address → HomeBinding → Ending → Bool
    test home kept e = (e.home.0 == home.0) && (e.end.0 == kept.end.0)

    new : (home : Address) (same : h.0 ≡ home.0) (ends : Bool) → (b.careof.0 == h.0) ≡ ends → is_standing home now b ≡ true
        → has_end home b.end (if ends then without_end h es else with_end (record { home = h; end = b.end }) (without_end h es)) ≡ true
    new home same true is stands =
        let away : not (b.careof.0 == home.0) ≡ true = first_of (not (b.careof.0 == home.0)) (nat_lt now b.end.0) stands in
        absurd (grind (arith, nat_tests, away, is, same))
    new home same false is stands =
        any-new (test home b) (record { home = h; end = b.end }) (place_of b.end.0 (without_end h es)) (without_end h es)
        (both (h.0 == home.0) (b.end.0 == b.end.0) (eq-eqb h.0 home.0 same) (eq-eqb b.end.0 b.end.0 refl))

    old : (home : Address) (kept : HomeBinding) → (h.0 == home.0) ≡ false → has_end home kept.end es ≡ true → (ends : Bool)
        → has_end home kept.end (if ends then without_end h es else with_end (record { home = h; end = b.end }) (without_end h es)) ≡ true
    old home kept other there ends =
        let left : has_end home kept.end (without_end h es) ≡ true =
        any-kept (test home kept) (λ (e : Ending). not (e.home.0 == h.0))
        (λ e is. let same : e.home.0 ≡ home.0 = eqb-true e.home.0 home.0 (first_of (e.home.0 == home.0) (e.end.0 == kept.end.0) is) in grind (arith, nat_tests, same, other)) es there in
        elim ends as (λ ends. has_end home kept.end (if ends then without_end h es else with_end (record { home = h; end = b.end }) (without_end h es)) ≡ true) [
          | true ↦ left
          | false ↦ any-more (test home kept) (record { home = h; end = b.end }) (place_of b.end.0 (without_end h es)) (without_end h es) left
        ]

    some : (x y : HomeBinding) → Some x ≡ Some y → x ≡ y
    some x y is = cc

    by : (home : Address) (kept : HomeBinding) (same : Bool) → (h.0 == home.0) ≡ same → binding_if s.step same (last_binding home past) ≡ Some kept → is_standing home now kept ≡ true
        → has_end home kept.end (ends_after es at (Registers number h b)) ≡ true
    by home kept true same last stands =
        subst (λ (k : HomeBinding). is_standing home now k ≡ true → has_end home k.end (ends_after es at (Registers number h b)) ≡ true) (some b kept last)
        (λ stands. new home (eqb-true h.0 home.0 same) (b.careof.0 == h.0) refl stands) stands
    by home kept false same last stands = old home kept same (all home kept last stands) (b.careof.0 == h.0)

kept-after : (now : ℕ) (past : List (Stamped Step)) (es : List Ending) (at : ℕ) (step : Step) → at ≤ now → AreListed now past es → AreListed now (past ++ record { at = at; step = step } ∷ []) (ends_after es at step)
kept-after now past es at (Registers number home b) early all = registered now past at number home b es all
kept-after now past es at Rang early all = ahead now at (past ++ record { at = at; step = Rang } ∷ []) es early (unchanged now past (record { at = at; step = Rang }) es (λ home. refl) all)
kept-after now past es at (Called call) early all = unchanged now past (record { at = at; step = Called call }) es (λ home. refl) all
kept-after now past es at (Sends shield packet) early all = unchanged now past (record { at = at; step = Sends shield packet }) es (λ home. refl) all
kept-after now past es at (Claims home) early all = unchanged now past (record { at = at; step = Claims home }) es (λ home. refl) all
kept-after now past es at (Releases home) early all = unchanged now past (record { at = at; step = Releases home }) es (λ home. refl) all
kept-after now past es at (Denies number status) early all = unchanged now past (record { at = at; step = Denies number status }) es (λ home. refl) all
kept-after now past es at (Drops number why) early all = unchanged now past (record { at = at; step = Drops number why }) es (λ home. refl) all

kept-from : (now : ℕ) (k : Known) (front past : List (Stamped Step)) → AreUntil now past → AreListed now front k.ends → AreListed now (front ++ past) (fold after k past).ends
unfolding after
kept-from now k front [] until all = subst (λ (p : List (Stamped Step)). AreListed now p k.ends) (sym (append-nil front)) all
kept-from now k front (s ∷ past) until all =
    subst (λ (p : List (Stamped Step)). AreListed now p (fold after (after k s) past).ends) (append_assoc front (s ∷ []) past)
    (kept-from now (after k s) (front ++ s ∷ []) past until.1 (kept-after now front k.ends s.at s.step until.0 all))

-- each registration that stands has its end in the list
pub known-kept : (serves : List Address) (past : List (Stamped Step)) (now : ℕ) → AreUntil now past → AreListed now past (known serves past).ends
unfolding known
known-kept serves past now until = kept-from now (fresh serves) [] past until (λ home b last stands. absurd cc)
