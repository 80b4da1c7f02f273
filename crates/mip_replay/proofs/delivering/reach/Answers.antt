use Rattle.std.proofs.Common.{refl}
use Rattle.mip_engine.proofs.GoesLaws.{goes_idle}
use Rattle.mip_replay.proofs.delivering.reach.Goals as goal

pub returns-in-Idle : goal.returns-in-Idle
returns-in-Idle c = λ post there same. rw c.in-Idle.is (goes_idle c.note.ensures (λ s run at. refl))

pub returns-in-Gone : goal.returns-in-Gone
returns-in-Gone c = λ post there same. rw c.in-Gone.is (c.vanish.ensures post same)

pub returns-in-Outsider : goal.returns-in-Outsider
returns-in-Outsider c = λ post there same. rw c.in-Outsider.is (c.reach_outsider.ensures post same)

pub returns-in-Node : goal.returns-in-Node
returns-in-Node c = λ post there same. rw c.in-Node.is (c.reach_node.ensures post there same)
