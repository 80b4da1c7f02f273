use Rattle.std.proofs.Common.{refl, ap, ◌∙◌}
use Rattle.mip_words.specs.declared.address.Address.{Address}
use Rattle.mip_reception.specs.Messages.{home_init_packet}
use Rattle.mip_rules_mobile.specs.Sendings.{AsksHome}
use Rattle.mip_afresh_mobile_rules.proofs.Asking.{home-here}
use Rattle.mip_afresh_mobile_rules.proofs.out.ask_home.Goals as goal

pub returns : goal.returns
returns c = λ t shows.
    c.send_inner.ensures (AsksHome c.args.peer c.args.cookie.0)
    (c.in_ok-init.ensures.bytes ∙ ap (λ (home : Address). home_init_packet home c.args.peer c.args.cookie.0) (home-here c.args.turn.now t c.home-home.result shows c.home-home.ensures)) refl t shows
