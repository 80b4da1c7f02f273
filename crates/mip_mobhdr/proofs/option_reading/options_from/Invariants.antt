use Rattle.std.proofs.Common.{◌≡◌, ◌≤◌, ◌-◌, length}
use Rattle.mip_mobhdr.specs.OptionValues.{set_values}
use Rattle.mip_mobhdr.specs.OptionReading.{options_after, options_of}
use Rattle.mip_mobhdr.proofs.option_reading.options_from.Given as goal

abbrev pub invariant-loop-rest : goal.invariant-loop-rest
invariant-loop-rest l = record {
  inside : length l.rest ≤ length l.message;
  so_far : options_after 0 (length l.message - length l.rest) (set_values l.seen) l.rest ≡ options_of l.start l.message;
}

abbrev pub decreases-loop-rest : goal.decreases-loop-rest
decreases-loop-rest l = length l.rest
