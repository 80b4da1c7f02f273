use Rattle.mip_replay.proofs.BindingLaws.{repeats_of_text}
use Rattle.mip_replay.proofs.laws.each_repeat_is_late.Goals as goal

pub returns : goal.returns
returns c = repeats_of_text c.repeats_come_after_rounds.ensures c.waits_are_short.ensures
