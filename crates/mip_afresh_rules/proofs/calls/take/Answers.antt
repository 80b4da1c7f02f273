use Rattle.std.proofs.Common.{refl, sym, subst}
use Rattle.mip_ipv6.specs.Reading.{packet_of}
use Rattle.mip_bcache.specs.Seen.{CacheSeen}
use Rattle.mip_rules_correspondent.specs.Calls.{Take}
use Rattle.mip_rules_correspondent.specs.Doing.{takes}
use Rattle.mip_afresh_rules.specs.Keeping.{IsKeptFor}
use Rattle.mip_afresh_rules.proofs.ShowingLaws.{ended}
use Rattle.mip_afresh_rules.proofs.calls.take.Goals as goal

pub returns : goal.returns
unfolding takes
returns c = λ k shield kept.
    let now = c.args.now.moment.0 in
    let packet = c.args.packet.now in
    ended c.args.me.now k now (Take c.args.number shield packet) c.in_ok-answers.answers c.receive.new.answers refl c.in_ok-answers.ensures
    (λ t same begins. c.in_ok-receive.ensures t (subst (λ (cache : CacheSeen). IsKeptFor c.args.kept cache now (packet_of packet)) (sym same) kept) begins)
