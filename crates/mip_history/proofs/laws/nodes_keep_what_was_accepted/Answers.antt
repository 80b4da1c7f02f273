use Rattle.mip_history.proofs.Histories.{run_held, run_holds, run_floor, run_full, part_held, part_holds, part_floor, part_full}
use Rattle.mip_history.proofs.laws.nodes_keep_what_was_accepted.Goals as goal

pub returns : goal.returns
returns c = record {
  held = run_held;
  holds = λ s events n own room home careof is. run_holds s events n own room home is careof;
  floor = run_floor;
  full = run_full;
  part_held = part_held;
  part_holds = λ s events n own agent home careof is. part_holds s events n own agent home is careof;
  part_floor = part_floor;
  part_full = part_full;
}
