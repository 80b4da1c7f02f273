use Rattle.mip_law_delivery.proofs.Lasting.{quiet_present, quiet_holder, quiet_held, quiet_careof}
use Rattle.mip_law_delivery.proofs.laws.quiet_stretch_keeps_the_circle.Goals as goal

pub returns : goal.returns
returns c = record { present = quiet_present; holder = quiet_holder; held = quiet_held; careof = quiet_careof }
