use Rattle.std.proofs.Common.{◌≡◌}
use Rattle.mip_make.specs.Made.{events_from}
use Rattle.mip_make.proofs.making.events.Given as goal

abbrev pub invariant-loop-number : goal.invariant-loop-number
invariant-loop-number l = record {
  draws : l.draws ≡ record { seed = l.seed; event = l.number };
  events : l.events ≡ events_from l.seed 0 l.number;
}
