use Rattle.mip_replay.proofs.PlainLaws.{marked_of_text}
use Rattle.mip_replay.proofs.laws.each_acceptance_is_marked.Goals as goal

pub returns : goal.returns
returns c = λ text content read. marked_of_text c.acceptances_are_marked.ensures c.waits_are_short.ensures text content read
