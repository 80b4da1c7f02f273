use Rattle.std.proofs.Common.{refl, lit≤}
use Rattle.mip_mobhdr.specs.OptionReading.{with_value, option_at, options_after, options_of}
use Rattle.mip_mobhdr.specs.Reading.{update_of}
use Rattle.mip_table_tests.proofs.tests.verdict.an_authentic_update_is_accepted.Goals as goal

-- the bytes are read
pub judge-verdict-requires-clause-update : goal.judge-verdict-requires-clause-update
unfolding update_of options_of options_after option_at with_value
judge-verdict-requires-clause-update g c = record { long = lit≤ tt; reads = refl }
