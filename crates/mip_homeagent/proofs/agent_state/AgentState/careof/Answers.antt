use Rattle.std.proofs.Common.{ap, sym, subst, ◌∙◌}
use Rattle.std.specs.Prelude.{Option, Some, option_map}
use Rattle.std.specs.List.{AllByRecursion}
use Rattle.mip_rules_agent.specs.declared.home_binding.HomeBinding.{HomeBinding}
use Rattle.mip_rules_agent.specs.Known.{Known}
use Rattle.mip_rules_agent.specs.Questions.{if_standing}
use Rattle.mip_homeagent.specs.Soundness.{IsRoutable}
use Rattle.mip_homeagent.proofs.Routables.{careof_routable}
use Rattle.mip_homeagent.proofs.agent_state.AgentState.careof.Goals as goal

pub returns-in-Some-clause-routable : goal.returns-in-Some-clause-routable
returns-in-Some-clause-routable c =
    let all = subst (λ (k : Known). AllByRecursion IsRoutable k.homes) c.self.view_is c.self.invariant.routable in
    careof_routable c.args.self.now c.args.now.0 c.args.home (Some c.in-Some.binding.careof) all
    (ap (λ (o : Option HomeBinding). option_map (λ (b : HomeBinding). b.careof) o) (sym c.in-Some.is ∙ c.standing.ensures ∙ ap (if_standing c.args.home c.args.now.0) c.binding.ensures))
