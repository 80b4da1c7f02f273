use Rattle.std.proofs.Common.{◌≤◌, List, sym, subst}
use Rattle.std.specs.Prelude.{Some}
use Rattle.mip_rules_agent.specs.declared.served.Served.{Served}
use Rattle.mip_rules_agent.specs.Known.{Known}
use Rattle.mip_homeagent.specs.Soundness.{IsSound}
use Rattle.mip_homeagent.proofs.Sounds.{changed_sound}
use Rattle.mip_homeagent.proofs.agent_state.AgentState.apply_change.Goals as goal

pub invariant_of-self : goal.invariant_of-self
invariant_of-self c =
    let i = c.self.inside in
    let k : Known = record { last = i.last.0; homes = i.homes.items; ends = i.ends.items; agents = i.agents; plan = i.plan } in
    let later = subst (λ (k : Known). k.last ≤ c.args.now.0) (sym c.self.view_is) c.requires in
    subst (λ (homes : List Served). IsSound (record { last = c.args.now.0; homes = homes; ends = c.in-Some.change.ends.items; agents = i.agents; plan = i.plan })) (sym c.change.ensures)
    (changed_sound k c.args.now.0 (Some c.in-Some.change) later c.self.invariant)
