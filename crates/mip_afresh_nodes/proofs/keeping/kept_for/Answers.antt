use Rattle.std.proofs.Common.{sym, ◌∙◌}
use Rattle.std.proofs.lemmas.Result.{IfOk-weaker}
use Rattle.mip_ipv6.specs.Reading.{packet_of}
use Rattle.mip_afresh_nodes.specs.Members.{known_at, moment_at}
use Rattle.mip_afresh_nodes.proofs.KeepingLaws.{kept_some, kept_none}
use Rattle.mip_afresh_nodes.proofs.keeping.kept_for.Goals as goal

pub returns-in-Some : goal.returns-in-Some
returns-in-Some c =
    let v = c.args.standing.now in
    IfOk-weaker c.kept_about.result _ _
    (λ kept is. kept_some kept (known_at v).cache (moment_at v) c.in-Some.subject (packet_of c.args.packet.now) (sym c.in-Some.is ∙ c.subject_of.ensures) is)
    c.kept_about.ensures

pub returns-in-None : goal.returns-in-None
returns-in-None c =
    let v = c.args.standing.now in
    kept_none _ (known_at v).cache (moment_at v) (packet_of c.args.packet.now) (sym c.in-None.is ∙ c.subject_of.ensures)
