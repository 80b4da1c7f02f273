use Rattle.std.proofs.Common.{◌≡◌, drop}
use Rattle.mip_history.specs.Setup.{Setup}
use Rattle.mip_history.specs.Runs.{Run}
use Rattle.mip_history.specs.Restarting.{homes_left}
use Rattle.mip_engine.specs.Standing.{IsAt}
use Rattle.mip_replay.proofs.restarting.leave_homes.Given as goal

-- what is left to do from here leads to where all of it leads from the start
abbrev pub invariant-loop-row : goal.invariant-loop-row
invariant-loop-row l = record {
  stands : (s : Setup) (run : Run) → IsAt l.fn.engine s run
      → (here : Run) × (IsAt l.engine s here) × (homes_left s l.node.0 (drop l.row-index l.homes) here ≡ homes_left s l.node.0 l.homes run);
  kept : l.engine.told ≡ l.fn.engine.told;
}
