use Rattle.std.proofs.Common.{◌≡◌, length}
use Rattle.mip_schedule.specs.Contents.{Content}
use Rattle.mip_replay.specs.Pieces.{RunSeen, IsRunOf}
use Rattle.mip_replay.proofs.run_in_pieces.Run.go_on.Given as goal

abbrev pub invariant-loop-alloc : goal.invariant-loop-alloc
invariant-loop-alloc l =
    let r : RunSeen = record { engine = l.self-inside.engine; coming = l.self-inside.coming; told = l.self-inside.engine.told } in
    record {
      stands : (c : Content) → IsRunOf l.fn.self c → IsRunOf r c;
      kept : l.self-inside.engine.told ≡ l.fn.self.told;
    }

abbrev pub decreases-loop-alloc : goal.decreases-loop-alloc
decreases-loop-alloc l = length l.self-inside.coming
