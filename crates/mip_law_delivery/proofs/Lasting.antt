-- A quiet stretch keeps what is asked of a history: entries in it say nothing, and no end comes.
use Rattle.std.proofs.Common.{◌≡◌, ℕ, ◌≤◌, List, [], ◌∷◌, ◌++◌, Bool, true, false, refl, sym, ap, ◌∙◌, subst, arith}
use Rattle.std.specs.Prelude.{length, drop, fold, Option, Some, None, unwrap_or, option_map, not, ◌==◌, ◌&&◌, ◌||◌, nat_lt, if◌then◌else◌}
use Rattle.std.specs.List.{list_any, list_all, AllByRecursion}
use Rattle.std.proofs.lemmas.List.{append_assoc, append-nil}
use Rattle.std.proofs.lemmas.List.Sums.{fold-append, sum_by-append}
use Rattle.std.proofs.lemmas.List.Folds.{list_any-append}
use Rattle.std.proofs.lemmas.Bool.{and_parts, or_parts}
use Rattle.std.proofs.lemmas.Bool.Decides.{nat_tests}
use Rattle.mip_words.specs.declared.address.Address.{Address}
use Rattle.mip_words.specs.Asked.{asked}
use Rattle.mip_words.specs.Last.{or_else, last_where}
use Rattle.mip_binding.specs.Acceptance.{Acceptance, Binding, binding_of}
use Rattle.mip_binding.specs.Rows.{others_by}
use Rattle.mip_binding.specs.Homes.{HomeKept, number_key, joins, kept_with, home_step, home_after}
use Rattle.mip_binding.specs.Held.{is_standing, careof_where, held}
use Rattle.mip_binding.proofs.RowLaws.{all-filtered, all-push}
use Rattle.mip_binding.proofs.HomeLaws.{left_by as left_of, kept_with-left}
use Rattle.mip_binding.proofs.HeldLaws.{held-other}
use Rattle.mip_entries.specs.declared.entry.Entry.{Entry}
use Rattle.mip_entries.specs.declared.entry.Entry.TheVariants as entries
use Rattle.mip_schedule.specs.declared.event.Event.{Event}
use Rattle.mip_rules_agent.specs.declared.home_binding.HomeBinding.{HomeBinding}
use Rattle.mip_rules_agent.specs.Questions.{if_standing}
use Rattle.mip_rules_mobile.specs.declared.registered.Registered.{Registered}
use Rattle.mip_rules_mobile.specs.HomeQuestions.{standing_registration}
use Rattle.mip_history.specs.Setup.{Setup}
use Rattle.mip_history.specs.Runs.{Run}
use Rattle.mip_history.specs.Questions.{holder_in}
use Rattle.mip_history.specs.Knowing.{now_in}
use Rattle.mip_history.specs.Bound.{Lived, lived, accepted_by, held_in}
use Rattle.mip_history.specs.Registered.{registration_says, last_registration}
use Rattle.mip_history.specs.Passing.{waited_by}
use Rattle.mip_history.specs.Permitted.{happens, run_of}
use Rattle.mip_history.proofs.Events.{run_passes}
use Rattle.mip_history.specs.Told.{present_in, registration_told, agent_in, careof_in}
use Rattle.mip_law_delivery.specs.Stretches.{run_on, left_by}
use Rattle.mip_law_delivery.specs.Quiet.{Circle, has_node, has_address, is_loud, circle_of, end_told, lasts, IsQuiet}
use Rattle.mip_law_delivery.proofs.Leaving.{drop_front}
use Rattle.mip_law_delivery.proofs.Reaching.{any_may, any_stand, events_calm, none_bad}
use Rattle.mip_law_delivery.proofs.Silence.{present_kept, acceptances_kept, registration_kept, is_loud_or_taken, told_kept, holder_kept}

-- what is held stands as long as the ends of all that was accepted lie ahead
abbrev LastsAs : (now later : ℕ) → Acceptance → Type 0
LastsAs now later a = nat_lt later a.end ≡ nat_lt now a.end

abbrev BindingLasts : (now later : ℕ) → Binding → Type 0
BindingLasts now later b = nat_lt later b.end ≡ nat_lt now b.end

abbrev HomeLasts : (now later : ℕ) → Option HomeKept → Type 0
HomeLasts now later None = Unit {0}
HomeLasts now later (Some k) = AllByRecursion (BindingLasts now later) k.live

left_lasts : (now later : ℕ) (o : Option HomeKept) (a : Acceptance) → HomeLasts now later o → AllByRecursion (BindingLasts now later) (left_of o a)
left_lasts now later None a so = tt
left_lasts now later (Some k) a so = by (joins k a)
  where
    by : (b : Bool) → AllByRecursion (BindingLasts now later) (if b then others_by number_key a.number k.live else [])
    by true = all-filtered (BindingLasts now later) _ k.live so
    by false = tt

home_lasts : (now later home : ℕ) (o : Option HomeKept) (xs : List Acceptance) → HomeLasts now later o → AllByRecursion (LastsAs now later) xs → HomeLasts now later (fold (home_step home) o xs)
home_lasts now later home o [] so all = so
home_lasts now later home o (x ∷ xs) so all = home_lasts now later home (home_step home o x) xs (by (x.home == home)) all.1
  where
    by : (mine : Bool) → HomeLasts now later (if mine then Some (kept_with o x) else o)
    by true =
        subst (λ (k : HomeKept). HomeLasts now later (Some k)) (sym (kept_with-left o x))
        (all-push (BindingLasts now later) (left_of o x) (binding_of x) (left_lasts now later o x so) all.0)
    by false = so

last_same : (home now later : ℕ) (bs : List Binding) → AllByRecursion (BindingLasts now later) bs → last_where (is_standing home later) bs ≡ last_where (is_standing home now) bs
last_same home now later [] all = refl
last_same home now later (b ∷ bs) all =
    ap (λ (o : Option Binding). or_else o (if is_standing home later b then Some b else None)) (last_same home now later bs all.1)
    ∙ ap (λ (ahead : Bool). or_else (last_where (is_standing home now) bs) (if not (b.careof == home) && ahead then Some b else None)) all.0

held_lasting : (xs : List Acceptance) (home now later : ℕ) → AllByRecursion (LastsAs now later) xs → held xs home later ≡ held xs home now
unfolding held
held_lasting xs home now later all = by (home_after home xs) (home_lasts now later home None xs tt all)
  where
    by : (o : Option HomeKept) → HomeLasts now later o → careof_where (is_standing home later) o ≡ careof_where (is_standing home now) o
    by None so = refl
    by (Some k) so = ap (option_map (λ (b : Binding). b.careof)) (last_same home now later k.live so)

-- an end that lasts through a stretch lies ahead at each moment of it as at the first
same_ahead : (from now until end : ℕ) → from ≤ now → now ≤ until → lasts from until (Some end) ≡ true → nat_lt now end ≡ nat_lt from end
same_ahead from now until end a b is = by (nat_lt from end) refl (nat_lt until end) refl is
  where
    by : (x : Bool) → nat_lt from end ≡ x → (y : Bool) → nat_lt until end ≡ y → (not x || y) ≡ true → nat_lt now end ≡ x
    by true p true q e = grind (arith, nat_tests, p, q)
    by true p false q e = absurd cc
    by false p y q e = grind (arith, nat_tests, p)

-- what is asked with an end, told by an entry
module _ {V : Type 0} (says : Entry → Option (Option V)) (end_of : V → ℕ) (tells : (e : Entry) (v : V) → says e ≡ Some (Some v) → end_told e ≡ Some (end_of v)) (from until : ℕ) where
  abbrev Lasts : Option V → Type 0
  Lasts None = Unit {0}
  Lasts (Some v) = lasts from until (Some (end_of v)) ≡ true

  step : (o : Option V) (e : Entry) → lasts from until (end_told e) ≡ true → Lasts o → Lasts (unwrap_or (says e) o)
  step o e here l = by (says e) refl
    where
      by : (x : Option (Option V)) → says e ≡ x → Lasts (unwrap_or x o)
      by None is = l
      by (Some None) is = tt
      by (Some (Some v)) is = subst (λ (x : Option ℕ). lasts from until x ≡ true) (tells e v is) here

  lasting_along : (o : Option V) (past : List Entry) → list_all (λ e. lasts from until (end_told e)) past ≡ true → Lasts o → Lasts (asked says o past)
  lasting_along o [] all l = l
  lasting_along o (e ∷ past) all l =
      let parts = and_parts (lasts from until (end_told e)) (list_all (λ (x : Entry). lasts from until (end_told x)) past) all in
      lasting_along (unwrap_or (says e) o) past parts.1 (step o e parts.0 l)

home_end : (n : ℕ) (home : Address) (e : Entry) (v : HomeBinding) → registration_says n home e ≡ Some (Some v) → end_told e ≡ Some v.end.0
home_end n home (entries.Home node h careof sequence end) v is = by ((n == node.0) && (h.0 == home.0)) is
  where
    b : HomeBinding
    b = record { careof = careof; sequence = sequence; end = end }

    by : (x : Bool) → (if x then Some (Some b) else None) ≡ Some (Some v) → Some end.0 ≡ Some v.end.0
    by true e = let same : b ≡ v = cc in ap (λ (y : HomeBinding). Some y.end.0) same
    by false e = absurd cc
home_end n home (entries.Restarted node) v is = by (n == node.0) is
  where
    by : (b : Bool) → (let o : Option (Option HomeBinding) = (if b then Some None else None) in o) ≡ Some (Some v) → None ≡ Some v.end.0
    by true e = absurd cc
    by false e = absurd cc
home_end n home _ v is = absurd cc

ended : (n who : ℕ) (v : Registered) → (let o : Option (Option Registered) = (if n == who then Some None else None) in o) ≡ Some (Some v) → None ≡ Some v.end.0
ended n who v is = by (n == who) is
  where
    by : (b : Bool) → (let o : Option (Option Registered) = (if b then Some None else None) in o) ≡ Some (Some v) → None ≡ Some v.end.0
    by true e = absurd cc
    by false e = absurd cc

told_end : (n : ℕ) (e : Entry) (v : Registered) → registration_told n e ≡ Some (Some v) → end_told e ≡ Some v.end.0
told_end n (entries.Registered node agent end) v is = by (n == node.0) is
  where
    r : Registered
    r = record { agent = agent; end = end }

    by : (b : Bool) → (if b then Some (Some r) else None) ≡ Some (Some v) → Some end.0 ≡ Some v.end.0
    by true e = let same : r ≡ v = cc in ap (λ (y : Registered). Some y.end.0) same
    by false e = absurd cc
told_end n (entries.Unregistered node agent) v is = ended n node.0 v is
told_end n (entries.Moved node link) v is = ended n node.0 v is
told_end n (entries.Careof node address) v is = ended n node.0 v is
told_end n (entries.Taken who link address holder) v is = ended n who v is
told_end n (entries.Restarted node) v is = ended n node.0 v is
told_end n _ v is = absurd cc

-- a run that went on from another one, in a stretch that is quiet for a circle
pub record Stretch (s : Setup) (c : Circle) (from run : Run) : Type 0 where
  pub es : List Entry
  pub whole : run.past ≡ from.past ++ es
  pub silent : list_any (is_loud c) es ≡ false
  pub later : now_in s from ≤ now_in s run
  pub until : ℕ
  pub early : now_in s run ≤ until
  pub lasting : list_all (λ e. lasts (now_in s from) until (end_told e)) from.past ≡ true

module _ (s : Setup) (c : Circle) (from run : Run) (stretch : Stretch s c from run) where
  same : (end : ℕ) → lasts (now_in s from) stretch.until (Some end) ≡ true → nat_lt (now_in s run) end ≡ nat_lt (now_in s from) end
  same end is = same_ahead (now_in s from) (now_in s run) stretch.until end stretch.later stretch.early is

  pub present_stays : (n : ℕ) (own : Address) → has_node c n ≡ true → present_in run.past n own ≡ present_in from.past n own
  present_stays n own inside = ap (λ (l : List Entry). present_in l n own) stretch.whole ∙ present_kept c n inside own from.past stretch.es stretch.silent

  pub holder_stays : (a : Address) → has_address c a ≡ true → holder_in run.past a.0 ≡ holder_in from.past a.0
  holder_stays a inside = ap (λ (l : List Entry). holder_in l a.0) stretch.whole ∙ holder_kept c a inside from.past stretch.es stretch.silent

  -- the ends of what a node accepted last too
  accepted_last : (n : ℕ) (l : Lived) (past : List Entry) → list_all (λ e. lasts (now_in s from) stretch.until (end_told e)) past ≡ true
      → AllByRecursion (LastsAs (now_in s from) (now_in s run)) l.accepted → AllByRecursion (LastsAs (now_in s from) (now_in s run)) (let m : Lived = fold (lived n) l past in m.accepted)
  accepted_last n l [] all so = so
  accepted_last n l (e ∷ past) all so =
      let parts = and_parts (lasts (now_in s from) stretch.until (end_told e)) (list_all (λ (x : Entry). lasts (now_in s from) stretch.until (end_told x)) past) all in
      accepted_last n (lived n l e) past parts.1 (by l e so parts.0)
    where
      if_accepted : (b : Bool) (l : Lived) (x : Acceptance) → AllByRecursion (LastsAs (now_in s from) (now_in s run)) l.accepted → LastsAs (now_in s from) (now_in s run) x
          → AllByRecursion (LastsAs (now_in s from) (now_in s run)) (let m : Lived = (if b then record { at = l.at; accepted = l.accepted ++ x ∷ [] } else l) in m.accepted)
      if_accepted true l x so here = all-push (LastsAs (now_in s from) (now_in s run)) l.accepted x so here
      if_accepted false l x so here = so

      if_restarted : (b : Bool) (xs : List Acceptance) → AllByRecursion (LastsAs (now_in s from) (now_in s run)) xs → AllByRecursion (LastsAs (now_in s from) (now_in s run)) (if b then [] else xs)
      if_restarted true xs so = tt
      if_restarted false xs so = so

      by : (l : Lived) (e : Entry) → AllByRecursion (LastsAs (now_in s from) (now_in s run)) l.accepted → lasts (now_in s from) stretch.until (end_told e) ≡ true
          → AllByRecursion (LastsAs (now_in s from) (now_in s run)) (let m : Lived = lived n l e in m.accepted)
      by l (entries.Accepted node number h binding careof sequence end i j) so here = if_accepted (n == node.0) l _ so (same end.0 here)
      by l (entries.Restarted node) so here = if_restarted (n == node.0) l.accepted so
      by l _ so here = so

  pub held_stays : (n home : ℕ) → has_node c n ≡ true → held (accepted_by s.start run.past n) home (now_in s run) ≡ held (accepted_by s.start from.past n) home (now_in s from)
  unfolding accepted_by
  held_stays n home inside =
      ap (λ (l : List Entry). held (accepted_by s.start l n) home (now_in s run)) stretch.whole
      ∙ acceptances_kept c n inside (λ xs. held xs home (now_in s run)) home (λ xs x other. held-other xs x home (now_in s run) other) s.start from.past stretch.es stretch.silent
      ∙ held_lasting (accepted_by s.start from.past n) home (now_in s from) (now_in s run)
      (accepted_last n (record { at = s.start; accepted = [] }) from.past stretch.lasting tt)

  pub careof_stays : (n : ℕ) (home : Address) → has_node c n ≡ true → careof_in (now_in s run) run.past n home ≡ careof_in (now_in s from) from.past n home
  careof_stays n home inside =
      ap (λ (o : Option HomeBinding). option_map (λ (b : HomeBinding). b.careof) (if_standing home (now_in s run) o))
      (ap (λ (l : List Entry). last_registration l n home) stretch.whole ∙ registration_kept c n inside home from.past stretch.es stretch.silent)
      ∙ at (last_registration from.past n home)
      (lasting_along (registration_says n home) (λ (v : HomeBinding). v.end.0) (home_end n home) (now_in s from) stretch.until None from.past stretch.lasting tt)
    where
      at : (o : Option HomeBinding) → Lasts (registration_says n home) (λ (v : HomeBinding). v.end.0) (home_end n home) (now_in s from) stretch.until o
          → option_map (λ (b : HomeBinding). b.careof) (if_standing home (now_in s run) o) ≡ option_map (λ (b : HomeBinding). b.careof) (if_standing home (now_in s from) o)
      at None l = refl
      at (Some b) l =
          ap (λ (x : Bool). let o : Option HomeBinding = (if not (b.careof.0 == home.0) && x then Some b else None) in option_map (λ (y : HomeBinding). y.careof) o) (same b.end.0 l)

  -- the registration of a mobile that finds no address taken
  pub agent_stays : (n : ℕ) (inside : has_node c n ≡ true) → list_any (is_loud_or_taken c n inside) stretch.es ≡ false → agent_in (now_in s run) run.past n ≡ agent_in (now_in s from) from.past n
  agent_stays n inside untaken =
      ap (λ (o : Option Registered). option_map (λ (r : Registered). r.agent) (standing_registration (now_in s run) o))
      (ap (λ (l : List Entry). asked (registration_told n) None l) stretch.whole ∙ told_kept c n inside from.past stretch.es untaken)
      ∙ at (asked (registration_told n) None from.past)
      (lasting_along (registration_told n) (λ (v : Registered). v.end.0) (told_end n) (now_in s from) stretch.until None from.past stretch.lasting tt)
    where
      at : (o : Option Registered) → Lasts (registration_told n) (λ (v : Registered). v.end.0) (told_end n) (now_in s from) stretch.until o
          → option_map (λ (r : Registered). r.agent) (standing_registration (now_in s run) o) ≡ option_map (λ (r : Registered). r.agent) (standing_registration (now_in s from) o)
      at None l = refl
      at (Some r) l = ap (λ (x : Bool). let o : Option Registered = (if x then Some r else None) in option_map (λ (y : Registered). y.agent) o) (same r.end.0 l)

-- the run of two lists of events
pub run_append : (s : Setup) (run : Run) (before more : List Event) → run_on s run (before ++ more) ≡ run_on s (run_on s run before) more
run_append s run before more = fold-append (λ (r : Run) (event : Event). happens s r event) run before more

pub run_of_append : (s : Setup) (before more : List Event) → run_of s (before ++ more) ≡ run_on s (run_of s before) more
run_of_append s before more = fold-append (λ (r : Run) (event : Event). happens s r event) _ before more

-- moments do not fall
rises : (s : Setup) (before more : List Event) → now_in s (run_of s before) ≤ now_in s (run_on s (run_of s before) more)
rises s before more =
    let first = run_passes s before in
    let both = run_passes s (before ++ more) in
    let a = first.moment in
    let b = both.moment in
    let sum = sum_by-append waited_by before more in
    subst (λ (run : Run). now_in s (run_of s before) ≤ now_in s run) (run_of_append s before more) (omega (arith, a, b, sum))

-- a history only grows
pub record Begins (front : List Entry) (run : Run) : Type 0 where
  pub rest : List Entry
  pub whole : run.past ≡ front ++ rest

pub past_begins : (s : Setup) (run : Run) (events : List Event) → Begins run.past (run_on s run events)
past_begins s run events =
    let c = events_calm s (λ (e : Entry). false) any_may any_stand (none_bad s) run.past (λ number. record { handed = λ n. refl; gone = λ why. refl }) run events
    (record { rest = []; whole = sym (append-nil run.past); calm = refl; stands = tt }) in
    record { rest = c.rest; whole = c.whole }

-- what is left behind a run
pub left_is : (s : Setup) (run : Run) (events : List Event) (es : List Entry) → (run_on s run events).past ≡ run.past ++ es → left_by s run events ≡ es
left_is s run events es is = ap (λ (l : List Entry). drop (length run.past) l) is ∙ drop_front run.past es

-- each front of a quiet stretch is quiet
pub quiet_stretch : (s : Setup) (before first rest : List Event) (x y : ℕ) → IsQuiet s (run_of s before) (first ++ rest) x y
    → Stretch s (circle_of (run_of s before).past x y) (run_of s before) (run_on s (run_of s before) first)
quiet_stretch s before first rest x y quiet =
    let from : Run = run_of s before in
    let run : Run = run_on s from first in
    let c : Circle = circle_of from.past x y in
    let a = past_begins s from first in
    let b = past_begins s run rest in
    let joined = run_append s from first rest in
    let all : (run_on s from (first ++ rest)).past ≡ from.past ++ (a.rest ++ b.rest) =
    ap (λ (r : Run). r.past) joined ∙ b.whole ∙ ap (λ (l : List Entry). l ++ b.rest) a.whole ∙ append_assoc from.past a.rest b.rest in
    let both : list_any (is_loud c) (a.rest ++ b.rest) ≡ false = ap (list_any (is_loud c)) (sym (left_is s from (first ++ rest) (a.rest ++ b.rest) all)) ∙ quiet.silent in
    let parts = or_parts (list_any (is_loud c) a.rest) (list_any (is_loud c) b.rest) (sym (list_any-append (is_loud c) a.rest b.rest) ∙ both) in
    record {
      es = a.rest;
      whole = a.whole;
      silent = parts.0;
      later = rises s before first;
      until = now_in s (run_on s from (first ++ rest));
      early =
          subst (λ (r : Run). now_in s run ≤ now_in s r) (sym joined)
          (subst (λ (r : Run). now_in s r ≤ now_in s (run_on s r rest)) (run_of_append s before first) (rises s (before ++ first) rest));
      lasting = quiet.lasting;
    }

module _ (s : Setup) (before first rest : List Event) (x y : ℕ) where
  pub quiet_present : (n : ℕ) (own : Address) → IsQuiet s (run_of s before) (first ++ rest) x y → has_node (circle_of (run_of s before).past x y) n ≡ true
      → present_in (run_on s (run_of s before) first).past n own ≡ present_in (run_of s before).past n own
  quiet_present n own quiet inside =
      present_stays s (circle_of (run_of s before).past x y) (run_of s before) (run_on s (run_of s before) first) (quiet_stretch s before first rest x y quiet) n own inside

  pub quiet_holder : (a : Address) → IsQuiet s (run_of s before) (first ++ rest) x y → has_address (circle_of (run_of s before).past x y) a ≡ true
      → holder_in (run_on s (run_of s before) first).past a.0 ≡ holder_in (run_of s before).past a.0
  quiet_holder a quiet inside =
      holder_stays s (circle_of (run_of s before).past x y) (run_of s before) (run_on s (run_of s before) first) (quiet_stretch s before first rest x y quiet) a inside

  pub quiet_held : (n home : ℕ) → IsQuiet s (run_of s before) (first ++ rest) x y → has_node (circle_of (run_of s before).past x y) n ≡ true
      → held_in s (run_on s (run_of s before) first).past n home ≡ held_in s (run_of s before).past n home
  quiet_held n home quiet inside =
      held_stays s (circle_of (run_of s before).past x y) (run_of s before) (run_on s (run_of s before) first) (quiet_stretch s before first rest x y quiet) n home inside

  pub quiet_careof : (n : ℕ) (home : Address) → IsQuiet s (run_of s before) (first ++ rest) x y → has_node (circle_of (run_of s before).past x y) n ≡ true
      → careof_in (now_in s (run_on s (run_of s before) first)) (run_on s (run_of s before) first).past n home ≡ careof_in (now_in s (run_of s before)) (run_of s before).past n home
  quiet_careof n home quiet inside =
      careof_stays s (circle_of (run_of s before).past x y) (run_of s before) (run_on s (run_of s before) first) (quiet_stretch s before first rest x y quiet) n home inside
