use Rattle.std.proofs.Common.{sym, ap, ◌∙◌, refl, subst}
use Rattle.mip_words.specs.declared.address.Address.{Address}
use Rattle.mip_packets.specs.Messages.{home_init_packet}
use Rattle.mip_rules_mobile.specs.Sendings.{AsksHome}
use Rattle.mip_mobile_context.specs.Outgoing.{CanEnter}
use Rattle.mip_mobile_context.proofs.Entering.{init-enters}
use Rattle.mip_mobile_context.proofs.outgoing.ask_home.Goals as goal

pub invariant_of-packet : goal.invariant_of-packet
invariant_of-packet c = record { enters = subst CanEnter (sym c.in_ok-bytes.ensures.bytes) (init-enters c.home.result c.args.peer c.args.cookie.0) }

pub returns : goal.returns
returns c = λ t shows.
    c.go_out.ensures (AsksHome c.args.peer c.args.cookie.0) t refl
    (c.in_ok-bytes.ensures.bytes ∙ ap (λ (h : Address). home_init_packet h c.args.peer c.args.cookie.0) c.home.ensures.value) shows
