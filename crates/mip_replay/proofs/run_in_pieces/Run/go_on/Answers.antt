use Rattle.std.proofs.Common.{◌≡◌, ◌+◌, List, ◌++◌, refl, sym, ap, ◌∙◌, subst, arith}
use Rattle.mip_entries.specs.declared.entry.Entry.{Entry}
use Rattle.mip_history.specs.Setup.{setup_of}
use Rattle.std.specs.Prelude.{take}
use Rattle.mip_schedule.specs.declared.event.Event.{Event}
use Rattle.mip_replay.specs.Ready.{IsReady}
use Rattle.mip_replay.proofs.ReadyLaws.{finds_ready}
use Rattle.mip_replay.proofs.RunLaws.{next_event, run_more}
use Rattle.mip_replay.proofs.run_in_pieces.Run.go_on.Goals as goal

pub let_happen-requires : goal.let_happen-requires
let_happen-requires c =
    let s = c.requires.0 in
    let was = c.loop-alloc.invariant.stands s c.requires.1 in
    let found = next_event s.events c.loop-alloc.self-inside.coming c.pop.new.self was.next c.in-Some.event was.coming (rw c.in-Some.is at c.pop.ensures) in
    subst (λ (x : Event). IsReady c.loop-alloc.self-inside.engine x) (sym found.1)
    (finds_ready c.moments_rise.ensures.waited c.lives_are_restarts.ensures s was.lawful was.few was.next c.in-Some.event found.0 c.loop-alloc.self-inside.engine was.stands)

pub loop-alloc-preserved : goal.loop-alloc-preserved
loop-alloc-preserved c =
    let kept = c.in_ok-let_happen.ensures.kept in
    record {
      stands = λ s is.
          let was = c.loop-alloc.invariant.stands s is in
          let found = next_event s.events c.loop-alloc.self-inside.coming c.pop.new.self was.next c.in-Some.event was.coming (rw c.in-Some.is at c.pop.ensures) in
          record {
            next = was.next + 1;
            stands = run_more c.let_happen.new.engine (setup_of s) s.events was.next c.in-Some.event found.0 found.1
                (c.in_ok-let_happen.ensures.stands (setup_of s) (take was.next s.events) was.stands);
            within = omega (arith, found.0);
            coming = found.2;
            told = refl;
            rest = was.rest;
            front = was.front ∙ ap (λ (l : List Entry). l ++ was.rest) (was.told ∙ sym kept);
            lawful = was.lawful;
            few = was.few;
          };
      kept = kept ∙ c.loop-alloc.invariant.kept;
    }
