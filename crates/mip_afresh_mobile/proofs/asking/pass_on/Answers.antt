use Rattle.mip_rules_mobile.specs.OutRules.{part_answers, passes_all, asks_part}
use Rattle.mip_rules_mobile.specs.Steps.{Parts}
use Rattle.mip_rules_mobile.specs.Transitions.{noted}
use Rattle.mip_afresh_mobile.proofs.Turned.{asked}
use Rattle.mip_afresh_mobile.proofs.asking.pass_on.Goals as goal

pub returns : goal.returns
unfolding asks_part
returns c = λ call t is shows.
    asked c.pass_all.result c.pass_all.new.turn (λ answers. passes_all answers (noted (Parts call) t)) c.args.answers (part_answers t call) is
    (c.pass_all.ensures (noted (Parts call) t) (c.in_ok-ask_part.ensures call t shows))
