use Rattle.mip_history.specs.Permitted.{run_of}
use Rattle.mip_replay.proofs.happening.happen.Goals as goal

pub returns-in-Listen-clause-stands : goal.returns-in-Listen-clause-stands
returns-in-Listen-clause-stands c = λ s events at. rw c.in-Listen.is (c.listen.ensures.stands s (run_of s events) at)

pub returns-in-Deaf-clause-stands : goal.returns-in-Deaf-clause-stands
returns-in-Deaf-clause-stands c = λ s events at. rw c.in-Deaf.is (c.deafen.ensures.stands s (run_of s events) at)
