-- What a run has told is a front of the permitted history, and at the end all of it.
use Rattle.std.proofs.Common.{◌≡◌, ℕ, ◌≤◌, List, ◌++◌, length, take, sym, ap, ◌∙◌, arith}
use Rattle.std.proofs.lemmas.List.{take_all, take-take}
use Rattle.mip_entries.specs.declared.entry.Entry.{Entry}
use Rattle.mip_schedule.specs.Contents.{Content}
use Rattle.mip_schedule.specs.declared.event.Event.{Event}
use Rattle.mip_history.specs.Setup.{Setup, setup_of}
use Rattle.mip_history.specs.Runs.{Run}
use Rattle.mip_history.specs.Permitted.{permitted, run_of}
use Rattle.mip_history.proofs.Fronts.{front_of_run}
use Rattle.mip_afresh.specs.Tellings.{TellingSeen}
use Rattle.mip_afresh_run.specs.Runs.{RunSeen, behind, IsRunOf}

past_is : (r : RunSeen) (c : Content) → IsRunOf r c → r.telling.run.past ≡ (behind c r.next).run.past
past_is r c is = ap (λ (t : TellingSeen). t.run.past) is.is

-- at the end
pub told_whole : (r : RunSeen) (c : Content) → IsRunOf r c → r.next ≡ length c.events → r.telling.run.past ≡ permitted c
unfolding permitted
told_whole r c is end =
    let s : Setup = setup_of c in
    past_is r c is
    ∙ ap (λ (es : List Event). let run : Run = run_of s es in run.past) (ap (λ (n : ℕ). take n c.events) end ∙ take_all (length c.events) c.events (omega arith))

-- at each place
pub told_front : (r : RunSeen) (c : Content) → IsRunOf r c → (rest : List Entry) × (permitted c ≡ r.telling.run.past ++ rest)
unfolding permitted
told_front r c is =
    let front = front_of_run (setup_of c) c.events r.next in
    (front.rest, front.whole ∙ ap (λ (l : List Entry). l ++ front.rest) (sym (past_is r c is)))

-- behind a step the past is that before it, and more
pub told_more : (r after : RunSeen) (c : Content) → IsRunOf r c → IsRunOf after c → r.next ≤ after.next
    → (more : List Entry) × (after.telling.run.past ≡ r.telling.run.past ++ more)
told_more r after c was is le =
    let s : Setup = setup_of c in
    let front = front_of_run s (take after.next c.events) r.next in
    let first : (run_of s (take r.next (take after.next c.events))).past ≡ r.telling.run.past =
    ap (λ (es : List Event). let run : Run = run_of s es in run.past) (take-take r.next after.next c.events le) ∙ sym (past_is r c was) in
    (front.rest, past_is after c is ∙ front.whole ∙ ap (λ (l : List Entry). l ++ front.rest) first)
