use Rattle.std.proofs.Common.{◌≡◌, ◌++◌}
use Rattle.mip_make.specs.MadeLaws.{events_text}
use Rattle.mip_make.proofs.spelling.put_events.Given as goal

abbrev pub invariant-loop-number : goal.invariant-loop-number
invariant-loop-number l = record {
  draws : l.draws ≡ record { seed = l.seed; event = l.number };
  lines : l.out ≡ l.initial.out ++ events_text l.seed l.number;
}
