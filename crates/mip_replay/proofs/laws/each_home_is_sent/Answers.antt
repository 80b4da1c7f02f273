use Rattle.mip_replay.proofs.RegisteredLaws.{homes_of_content}
use Rattle.mip_replay.proofs.laws.each_home_is_sent.Goals as goal

pub returns : goal.returns
returns c = homes_of_content c.registered_was_sent.ensures c.homes_change_by_updates_or_time.ensures
