use Rattle.std.proofs.Common.{map, ap, subst, ◌∙◌}
use Rattle.std.specs.Prelude.{IfOk}
use Rattle.std.proofs.lemmas.Result.{IfOk-weaker}
use Rattle.mip_afresh_rules.specs.Keeping.{IsKept}
use Rattle.mip_afresh_bindings.specs.Accepted.{acceptance_seen}
use Rattle.mip_afresh_nodes.specs.Members.{StandingSeen, known_at, moment_at}
use Rattle.mip_afresh_nodes.proofs.KeepingLaws.{member_kept}
use Rattle.mip_afresh_nodes.proofs.keeping.kept_about.Goals as goal

pub returns : goal.returns
returns c =
    let t = c.standing.inside.telling.now in
    subst (λ (v : StandingSeen). IfOk c.kept_of.result (λ kept. IsKept kept (known_at v).cache (moment_at v) c.args.subject.source c.args.subject.home)) c.standing.view_is
    (IfOk-weaker c.kept_of.result _ _
    (λ kept is. member_kept t.setup t.run c.standing.inside.member c.args.subject c.numbers.result c.now.result.0 (map acceptance_seen c.deref.result.now) kept c.standing.invariant.run c.standing.invariant.member
    c.numbers.ensures c.now.ensures (ap (map acceptance_seen) c.deref.ensures.value ∙ c.in_ok-accepted.ensures) is)
    c.kept_of.ensures)
