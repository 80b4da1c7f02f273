use Rattle.std.proofs.Common.{Bool, List, ap, ◌∙◌, if◌then◌else◌}
use Rattle.std.specs.Prelude.{Option}
use Rattle.mip_words.specs.declared.address.Address.{Address}
use Rattle.mip_discovery.specs.Retries.{DiscoverySeen}
use Rattle.mip_rules_mobile.specs.declared.attachment.Attachment.{Attachment}
use Rattle.mip_rules_mobile.specs.IcmpRules.{agents_named, is_matched, finds, drops_icmp, takes_discovery_reply}
use Rattle.mip_rules_mobile.specs.Transitions.{Transition}
use Rattle.mip_afresh_mobile.proofs.Turned.{shows-seen, asked}
use Rattle.mip_afresh_mobile.proofs.icmp.take_discovery_reply.Goals as goal

pub returns : goal.returns
unfolding takes_discovery_reply
returns c = λ t shows.
    let seen = shows-seen c.args.turn.now t shows in
    let number = c.args.number in
    let matches = λ (d : Option DiscoverySeen). is_matched d c.args.identifier in
    let rule : Bool → Attachment → List Address → Transition = λ matched standing agents. if matched then finds number standing agents t else drops_icmp number t in
    let result = c.find_if.result in
    let new = c.find_if.new.turn in
    let named = agents_named c.args.agents.now in
    asked result new (λ b. rule b t.known.standing named) c.is_matched-matched.result (matches t.known.discovery) (c.is_matched-matched.ensures ∙ ap matches (c.discovery.ensures t.known seen))
    (asked result new (λ s. rule c.is_matched-matched.result s named) c.standing-standing.result t.known.standing (c.standing-standing.ensures t.known seen)
    (asked result new (λ l. rule c.is_matched-matched.result c.standing-standing.result l) c.in_ok-named.named.items named c.in_ok-named.ensures
    (c.find_if.ensures t shows)))
