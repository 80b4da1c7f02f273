use Rattle.std.proofs.Common.{◌≡◌, ◌++◌, length}
use Rattle.mip_past_text.specs.Subjects.{about_each}
use Rattle.mip_past_text.specs.Fronts.{front_of}
use Rattle.mip_past_text.specs.Text.{topic_text}
use Rattle.mip_past_text.proofs.text.put_topics.Given as goal

abbrev pub invariant-loop-entry : goal.invariant-loop-entry
invariant-loop-entry l =
    l.out ++ about_each l.topic l.asked.node.0 (topic_text l.asked.scene.declarations.now (front_of l.asked.scene) l.asked.node l.topic) l.entries
    ≡ l.fn.out ++ about_each l.topic l.asked.node.0 (topic_text l.asked.scene.declarations.now (front_of l.asked.scene) l.asked.node l.topic) l.asked.scene.past.entries.now

abbrev pub decreases-loop-entry : goal.decreases-loop-entry
decreases-loop-entry l = length l.entries
