use Rattle.std.proofs.Common.{◌≡◌, map, ap, subst, ◌∙◌}
use Rattle.std.specs.Prelude.{IfOk}
use Rattle.std.proofs.lemmas.Result.{IfOk-weaker}
use Rattle.mip_rules_correspondent.specs.Questions.{held_of}
use Rattle.mip_afresh_bindings.specs.Accepted.{acceptance_seen}
use Rattle.mip_afresh_nodes.specs.Members.{StandingSeen, known_at, moment_at}
use Rattle.mip_afresh_nodes.proofs.KeepingLaws.{member_holds}
use Rattle.mip_afresh_nodes.proofs.keeping.held_for.Goals as goal

pub returns : goal.returns
returns c =
    let t = c.standing.inside.telling.now in
    subst (λ (v : StandingSeen). IfOk c.held.result (λ o. o ≡ held_of (known_at v) (moment_at v) c.args.home)) c.standing.view_is
    (IfOk-weaker c.held.result _ _
    (λ o is. member_holds t.setup t.run c.standing.inside.member c.args.home c.now.result.0 (map acceptance_seen c.deref.result.now) o c.standing.invariant.run c.standing.invariant.member c.now.ensures
    (ap (map acceptance_seen) c.deref.ensures.value ∙ c.in_ok-accepted.ensures) is)
    c.held.ensures)
