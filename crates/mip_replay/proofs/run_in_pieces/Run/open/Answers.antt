use Rattle.std.proofs.Common.{List, ◌++◌, refl, sym, ap, arith}
use Rattle.mip_entries.specs.declared.entry.Entry.{Entry}
use Rattle.mip_schedule.specs.Schedules.{content}
use Rattle.mip_history.specs.Permitted.{permitted}
use Rattle.mip_replay.proofs.run_in_pieces.Run.open.Goals as goal

pub returns-clause-stands : goal.returns-clause-stands
returns-clause-stands c =
    let history = permitted (content c.args.schedule) in
    record {
      next = 0;
      stands = c.in_ok-engine.ensures.stands;
      within = omega arith;
      coming = c.into_queue-coming.ensures;
      told = refl;
      rest = history;
      front = sym (ap (λ (l : List Entry). l ++ history) c.in_ok-engine.ensures.none);
      lawful = c.lawful.ensures;
      few = c.few.ensures;
    }
