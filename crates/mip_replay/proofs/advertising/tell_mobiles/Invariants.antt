use Rattle.std.proofs.Common.{◌≡◌}
use Rattle.std.specs.Prelude.{slice_index_or}
use Rattle.mip_history.specs.Setup.{Setup}
use Rattle.mip_history.specs.Runs.{Run}
use Rattle.mip_history.specs.Advertising.{mobiles_told}
use Rattle.mip_engine.specs.Standing.{IsAt}
use Rattle.mip_replay.proofs.advertising.tell_mobiles.Given as goal

abbrev pub invariant-loop-node : goal.invariant-loop-node
invariant-loop-node l = record {
  stands : (s : Setup) (run : Run) → IsAt l.fn.engine s run → l.prefix.0 ≡ slice_index_or s.links l.link.0 0 → IsAt l.engine s (mobiles_told s l.link.0 l.node run);
  kept : l.engine.told ≡ l.fn.engine.told;
}
