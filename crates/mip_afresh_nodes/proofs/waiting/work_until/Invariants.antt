use Rattle.std.proofs.Common.{◌≡◌, ◌-◌, false}
use Rattle.mip_history.specs.Waiting.{works_until}
use Rattle.mip_afresh_nodes.specs.Waits.{waiting}
use Rattle.mip_afresh_nodes.proofs.waiting.work_until.Given as goal

abbrev pub invariant-loop-round : goal.invariant-loop-round
invariant-loop-round l = record {
  setup : l.telling.setup ≡ l.fn.telling.setup;
  rest : works_until l.fn.telling.setup l.target.0 (l.rounds - l._round) (waiting l.telling l.told) ≡ works_until l.fn.telling.setup l.target.0 l.rounds (waiting l.fn.telling false);
}
