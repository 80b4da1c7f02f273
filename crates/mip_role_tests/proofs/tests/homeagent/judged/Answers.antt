use Rattle.std.proofs.Common.{refl, lit≤}
use Rattle.mip_mobhdr.specs.OptionReading.{with_value, option_at, options_after, options_of}
use Rattle.mip_mobhdr.specs.Reading.{update_of}
use Rattle.mip_role_tests.proofs.tests.homeagent.judged.Goals as goal

-- the bytes are read
pub judge_home-requires-clause-update : goal.judge_home-requires-clause-update
unfolding update_of options_of options_after option_at with_value
judge_home-requires-clause-update c = record { long = lit≤ tt; reads = refl }
