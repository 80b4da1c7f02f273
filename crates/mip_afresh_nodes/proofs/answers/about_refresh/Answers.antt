use Rattle.std.proofs.Common.{ap, ◌∙◌}
use Rattle.std.proofs.lemmas.Result.{IfOk-weaker}
use Rattle.mip_rules_correspondent.specs.declared.identity.Identity.{Identity}
use Rattle.mip_rules_correspondent.specs.Calls.{Refresh}
use Rattle.mip_rules_correspondent.specs.Steps.{answers_of}
use Rattle.mip_rules_correspondent.specs.Doing.{transition_of}
use Rattle.mip_afresh_nodes.specs.Members.{identity_at, known_at, moment_at}
use Rattle.mip_afresh_nodes.proofs.answers.about_refresh.Goals as goal

pub returns : goal.returns
returns c =
    let v = c.args.standing.now in
    let k = known_at v in
    let now = moment_at v in
    IfOk-weaker c.refresh.result _ _
    (λ a is. is ∙ ap (λ (me : Identity). answers_of (transition_of me k now (Refresh c.args.home.address)).steps) (c.in_ok-me.ensures ∙ ap identity_at c.standing.view_is))
    (c.refresh.ensures now k c.in_ok-held.ensures)
