use Rattle.std.proofs.Common.{length}
use Rattle.mip_past_led.proofs.WholeLaws.{are_whole}
use Rattle.mip_past_led.proofs.laws.events_before_a_place_are_whole.Goals as goal

pub returns : goal.returns
returns c = λ s events place. are_whole s events place (length events)
