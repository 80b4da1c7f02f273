use Rattle.std.proofs.Common.{refl, sym}
use Rattle.mip_rules_mobile.specs.Steps.{Parts}
use Rattle.mip_rules_mobile.specs.Questions.{after}
use Rattle.mip_afresh_mobile_state.proofs.TurnLaws.{silent, stays, asks-part}
use Rattle.mip_afresh_mobile_state.specs.Mobiles.{known_of}
use Rattle.mip_afresh_mobile_state.proofs.turn.Turn.ask_part.Goals as goal

pub returns : goal.returns
unfolding after
returns c = λ call t shows.
    let at = c.args.self.now.now.0 in
    silent (Parts call) c.args.self.now c.args.self.now.mobile refl (stays at (Parts call) (asks-part at call)) (sym (asks-part at call (known_of c.args.self.now.mobile))) t shows
