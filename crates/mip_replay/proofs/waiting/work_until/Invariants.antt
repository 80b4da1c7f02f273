use Rattle.std.proofs.Common.{◌≡◌, ◌-◌, false}
use Rattle.mip_history.specs.Setup.{Setup}
use Rattle.mip_history.specs.Runs.{Run}
use Rattle.mip_history.specs.Waiting.{works_until}
use Rattle.mip_engine.specs.Standing.{IsAt}
use Rattle.mip_replay.proofs.WaitLaws.{Leads}
use Rattle.mip_replay.proofs.waiting.work_until.Given as goal

abbrev pub invariant-loop-round : goal.invariant-loop-round
invariant-loop-round l = record {
  stands : (s : Setup) (run : Run) → IsAt l.fn.engine s run
      → Leads l.engine s l.target.moment.0 (l.rounds - l._round) l.told (works_until s l.target.moment.0 l.rounds (record { run = run; told = false }));
  kept : l.engine.told ≡ l.fn.engine.told;
}
