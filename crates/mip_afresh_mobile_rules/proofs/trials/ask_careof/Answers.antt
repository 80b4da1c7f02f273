use Rattle.std.proofs.Common.{refl}
use Rattle.mip_rules_mobile.specs.Sendings.{AsksCareof}
use Rattle.mip_afresh_mobile_rules.proofs.trials.ask_careof.Goals as goal

pub returns : goal.returns
returns c = c.send_packet.ensures (AsksCareof c.args.careof c.args.peer c.args.cookie.0) tt refl c.in_ok-init.ensures.bytes
