use Rattle.std.proofs.Common.{refl}
use Rattle.mip_rules_mobile.specs.Steps.{SeeksAgain}
use Rattle.mip_rules_mobile.specs.Questions.{after}
use Rattle.mip_afresh_mobile_state.proofs.TurnLaws.{silent}
use Rattle.mip_afresh_mobile_state.proofs.turn.Turn.seek_again.Goals as goal

pub returns : goal.returns
unfolding after
returns c = λ t shows. silent SeeksAgain c.args.self.now c.seek_again.new.self refl (λ k. refl) c.in_ok-seek_again.ensures t shows
