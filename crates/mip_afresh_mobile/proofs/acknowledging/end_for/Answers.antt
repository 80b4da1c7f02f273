use Rattle.std.proofs.Common.{sym}
use Rattle.std.specs.Prelude.{Some}
use Rattle.mip_rules_mobile.specs.PeerRules.{ends_for}
use Rattle.mip_afresh_mobile.specs.Asking.{pending_in}
use Rattle.mip_afresh_mobile.proofs.Turned.{asked}
use Rattle.mip_afresh_mobile.proofs.acknowledging.end_for.Goals as goal

pub returns-in-Some : goal.returns-in-Some
returns-in-Some c = λ tested last t shows.
    asked c.bind_for.result c.bind_for.new.turn (λ careof. ends_for careof (pending_in c.args.of.now tested last) c.args.row c.args.lifetime t) (Some c.in-Some.field-0) c.args.careof
    (sym c.in-Some.is) (c.bind_for.ensures tested last t shows)
