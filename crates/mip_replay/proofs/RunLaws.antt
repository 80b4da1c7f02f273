-- What a run has told is a front of the permitted history.
use Rattle.std.proofs.Common.{◌≡◌, ℕ, ◌+◌, ◌<◌, List, [], ◌∷◌, ◌++◌, length, take, drop, refl, sym, ap, ◌∙◌, subst, arith, length-drop}
use Rattle.std.specs.Prelude.{get_or}
use Rattle.std.proofs.lemmas.List.{take_more, drop_more}
use Rattle.std.proofs.lemmas.List.Sums.{fold-append}
use Rattle.mip_entries.specs.declared.entry.Entry.{Entry}
use Rattle.mip_schedule.specs.Contents.{Content}
use Rattle.mip_schedule.specs.declared.event.Event.{Event}
use Rattle.mip_history.specs.Setup.{Setup, setup_of}
use Rattle.mip_history.specs.Runs.{Run}
use Rattle.mip_history.specs.Permitted.{permitted, opened, happens, run_of}
use Rattle.mip_history.proofs.Fronts.{front_of_run}
use Rattle.mip_engine.specs.Engines.{EngineSeen, all_told}
use Rattle.mip_engine.specs.Standing.{IsAt}
use Rattle.mip_replay.specs.Pieces.{RunSeen, IsRunOf}

pub told_front : (r : RunSeen) (c : Content) → IsRunOf r c → (rest : List Entry) × (permitted c ≡ r.told ++ rest)
told_front r c is = (is.rest, is.front)

take_length : {X : Type 0} (xs : List X) → take (length xs) xs ≡ xs
take_length [] = refl
take_length (x ∷ xs) = ap (λ l. x ∷ l) (take_length xs)

-- at the end all of it is told
pub told_whole : (r : RunSeen) (c : Content) → IsRunOf r c → r.engine.told ≡ r.engine.past → r.coming ≡ [] → r.told ≡ permitted c
unfolding permitted
told_whole r c is same none =
    let all : is.next ≡ length c.events =
    omega (arith, is.within, ap (λ (l : List Event). length l) (sym is.coming ∙ none), length-drop is.next c.events) in
    is.told ∙ same ∙ is.stands.history
    ∙ ap (λ (n : ℕ). let run : Run = run_of (setup_of c) (take n c.events) in run.past) all
    ∙ ap (λ (events : List Event). let run : Run = run_of (setup_of c) events in run.past) (take_length c.events)

-- an engine that has given away what waited
at_told : (e : EngineSeen) (s : Setup) (run : Run) → IsAt e s run → IsAt (all_told e) s run
at_told e s run at = record {
  seed = at.seed;
  asked = at.asked;
  hears = at.hears;
  posts = at.posts;
  flying = at.flying;
  spots = at.spots;
  firsts = at.firsts;
  nodes = at.nodes;
  count = at.count;
  pasts = at.pasts;
  agent_pasts = at.agent_pasts;
  mobile_pasts = at.mobile_pasts;
  outsiders = at.outsiders;
  numbers = at.numbers;
  now = at.now;
  history = at.history;
  numbered = at.numbered;
}

pub given_away : (r : RunSeen) (c : Content) → IsRunOf r c → (after : EngineSeen) → after ≡ all_told r.engine
    → IsRunOf (record { engine = after; coming = r.coming; told = after.told }) c
unfolding permitted
given_away r c is after same =
    let front = front_of_run (setup_of c) c.events is.next in
    subst (λ (e : EngineSeen). IsRunOf (record { engine = e; coming = r.coming; told = e.told }) c) (sym same)
    (record {
      next = is.next;
      stands = at_told r.engine (setup_of c) (run_of (setup_of c) (take is.next c.events)) is.stands;
      within = is.within;
      coming = is.coming;
      told = refl;
      rest = front.rest;
      front = front.whole ∙ ap (λ (l : List Entry). l ++ front.rest) (sym is.stands.history);
      lawful = is.lawful;
      few = is.few;
    })

-- the event that is taken next, and those behind it
pub next_event : (events coming more : List Event) (i : ℕ) (event : Event) → coming ≡ drop i events → coming ≡ event ∷ more
    → (i < length events) × (event ≡ get_or events i event) × (more ≡ drop (i + 1) events)
next_event events coming more i event is cut =
    let inside : i < length events = omega (arith, ap (λ (l : List Event). length l) (sym is ∙ cut), length-drop i events) in
    let both : event ∷ more ≡ get_or events i event ∷ drop (i + 1) events = sym cut ∙ is ∙ drop_more events i event inside in
    (inside, ap (λ (l : List Event). get_or l 0 event) both, ap (λ (l : List Event). drop 1 l) both)

-- an engine behind one event more
pub run_more : (e : EngineSeen) (s : Setup) (events : List Event) (i : ℕ) (event : Event) → i < length events → event ≡ get_or events i event
    → IsAt e s (happens s (run_of s (take i events)) event) → IsAt e s (run_of s (take (i + 1) events))
run_more e s events i event inside is at =
    subst (λ (run : Run). IsAt e s run)
    (ap (λ (x : Event). happens s (run_of s (take i events)) x) is
    ∙ sym (fold-append (λ (run : Run) (x : Event). happens s run x) (opened s) (take i events) (get_or events i event ∷ []))
    ∙ ap (λ (l : List Event). run_of s l) (sym (take_more events i event inside)))
    at
