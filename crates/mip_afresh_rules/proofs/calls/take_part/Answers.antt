use Rattle.std.proofs.Common.{refl, sym, ap, subst}
use Rattle.std.specs.Prelude.{Option, OnOk, option_map}
use Rattle.mip_ipv6.specs.Packet.{packet as tree}
use Rattle.mip_mobhdr.specs.Said.{Said}
use Rattle.mip_bcache.specs.Seen.{CacheSeen}
use Rattle.mip_rules_correspondent.specs.Calls.{Part}
use Rattle.mip_rules_correspondent.specs.Rules.{by_message}
use Rattle.mip_rules_correspondent.specs.Doing.{parts}
use Rattle.mip_afresh_rules.specs.Keeping.{IsKept}
use Rattle.mip_afresh_rules.specs.Showing.{Shown}
use Rattle.mip_afresh_rules.proofs.ShowingLaws.{ended}
use Rattle.mip_afresh_rules.proofs.calls.take_part.Goals as goal

pub returns : goal.returns
unfolding parts
returns c = λ k kept.
    let now = c.args.now.moment.0 in
    let packet = tree c.args.passed.now.packet in
    ended c.args.me.now k now (Part c.args.number packet) c.in_ok-answers.answers c.answer_message.new.answers refl c.in_ok-answers.ensures
    (λ t same begins.
    subst (λ (m : Option Said). Shown now c.answer_message.new.answers (by_message c.args.me.now c.args.number packet m t)) (sym c.args.passed.now.inside)
    (c.in_ok-answer_message.ensures t (subst (λ (cache : CacheSeen). IsKept c.args.kept cache now packet.head.source packet.head.home) (sym same) kept) begins))
