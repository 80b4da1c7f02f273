use Rattle.std.proofs.Common.{◌∙◌, ap, map}
use Rattle.mip_afresh_mobile_state.specs.Trials.{timer_seen}
use Rattle.mip_afresh_mobile_state.proofs.TimerLaws.{others-seen}
use Rattle.mip_afresh_mobile_state.proofs.timers.without_timer.Goals as goal

pub returns : goal.returns
returns c = ap (map timer_seen) c.in_ok-left.ensures ∙ others-seen c.args.work c.args.timers.now
