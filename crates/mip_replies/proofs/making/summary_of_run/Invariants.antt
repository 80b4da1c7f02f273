use Rattle.std.proofs.Common.{◌≡◌, ◌-◌, length}
use Rattle.mip_schedule.specs.Schedules.{content}
use Rattle.mip_replay.specs.Permitted.{permitted}
use Rattle.mip_replay.specs.Pieces.{IsRunOf}
use Rattle.mip_replies.proofs.making.summary_of_run.Given as goal

abbrev pub invariant-loop-run : goal.invariant-loop-run
invariant-loop-run l = record {
  stands : IsRunOf l.run (content l.fn.schedule);
  counted : l.tally ≡ l.run.told;
}

abbrev pub decreases-loop-run : goal.decreases-loop-run
decreases-loop-run l = length (permitted (content l.fn.schedule)) - length l.run.told
