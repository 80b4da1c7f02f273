use Rattle.std.proofs.Common.{ℕ, sym, subst, ◌∙◌}
use Rattle.std.specs.Prelude.{List, Option, OnOk}
use Rattle.mip_rules_agent.specs.Steps.{Drops}
use Rattle.mip_rules_agent.specs.Transitions.{noted}
use Rattle.mip_rules_agent.specs.Rules.{replies, refuses}
use Rattle.mip_homeagent.specs.Showing.{Shows}
use Rattle.mip_homeagent.proofs.receiving.refuse.Goals as goal

pub returns-in-Some : goal.returns-in-Some
unfolding refuses
returns-in-Some c = λ claim now known claiming t shows.
    let u = noted (Drops c.args.context.now.number c.args.refusal.why) t in
    subst (λ (o : Option (List ℕ)). OnOk c.send.result (Shows now known claiming c.send.new.answers (replies o u))) (sym c.in-Some.is ∙ c.in_ok-reply.ensures.bytes)
    (c.send.ensures now known claiming u (c.in_ok-drop_packet.ensures now known claiming t shows))

pub returns-in-None : goal.returns-in-None
unfolding refuses
returns-in-None c = λ claim now known claiming t shows.
    let u = noted (Drops c.args.context.now.number c.args.refusal.why) t in
    subst (λ (o : Option (List ℕ)). Shows now known claiming c.drop_packet.new.answers (replies o u)) (sym c.in-None.is ∙ c.in_ok-reply.ensures.bytes)
    (c.in_ok-drop_packet.ensures now known claiming t shows)
