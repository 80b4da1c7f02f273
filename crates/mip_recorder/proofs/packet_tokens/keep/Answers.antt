use Rattle.mip_recorder.proofs.KeptLaws.{bare_more, test_more}
use Rattle.mip_recorder.proofs.packet_tokens.keep.Goals as goal

pub returns-in_ok-push-in-Some-clause-ok : goal.returns-in_ok-push-in-Some-clause-ok
returns-in_ok-push-in-Some-clause-ok c = λ tokens is. rw (c.in-Some.is, c.in_ok-push-in-Some.ensures.items) (test_more _ _ _ is c.in-Some.token)

pub returns-in-None-clause-ok : goal.returns-in-None-clause-ok
returns-in-None-clause-ok c = λ tokens is. rw c.in-None.is (bare_more _ _ _ is)
