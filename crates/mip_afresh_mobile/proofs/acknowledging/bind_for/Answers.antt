use Rattle.std.proofs.Common.{Bool, false, sym, if◌then◌else◌, ◌==◌}
use Rattle.std.proofs.lemmas.Bool.{ne_eqb}
use Rattle.mip_rules_mobile.specs.PeerRules.{binds_from}
use Rattle.mip_afresh_mobile.specs.Asking.{pending_in}
use Rattle.mip_afresh_mobile.proofs.Turned.{asked}
use Rattle.mip_afresh_mobile.proofs.acknowledging.bind_for.Goals as goal

pub returns-else-lifetime-eq0 : goal.returns-else-lifetime-eq0
returns-else-lifetime-eq0 c = λ tested last t shows.
    let lifetime = c.args.lifetime in
    asked c.bind_from.result c.bind_from.new.turn (λ (b : Bool). if b then t else binds_from (pending_in c.args.of.now tested last) c.args.row lifetime t) false (lifetime == 0)
    (sym (ne_eqb lifetime 0 c.if-lifetime-eq0.false)) (c.bind_from.ensures tested last t shows)
