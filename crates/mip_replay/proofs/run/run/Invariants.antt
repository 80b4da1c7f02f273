use Rattle.std.proofs.Common.{◌≡◌, take}
use Rattle.mip_history.specs.Setup.{setup_of}
use Rattle.mip_history.specs.Permitted.{run_of}
use Rattle.mip_schedule.specs.Schedules.{content}
use Rattle.mip_engine.specs.Standing.{IsAt}
use Rattle.mip_replay.proofs.run.run.Given as goal

abbrev pub invariant-loop-event : goal.invariant-loop-event
invariant-loop-event l = record {
  stands : IsAt l.engine (setup_of (content l.schedule)) (run_of (setup_of (content l.schedule)) (take l.event-index l.schedule.events));
  kept : l.engine.told ≡ l.fn.engine.told;
}
