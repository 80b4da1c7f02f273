use Rattle.std.proofs.Common.{sym, ◌∙◌}
use Rattle.mip_engine.proofs.GoesLaws.{goes_as, goes_idle}
use Rattle.mip_engine.proofs.MoveLaws.{roaming_is, moves_there, stays_there}
use Rattle.mip_engine.proofs.engine.Engine.move_to.Goals as goal

pub returns-then-is_roaming : goal.returns-then-is_roaming
returns-then-is_roaming c =
    let n = c.args.node.0 in
    goes_as c.move_mobile.ensures
    (λ s run at. moves_there s run n c.args.link (sym (roaming_is c.args.self.now s run at n) ∙ sym c.is_roaming.ensures ∙ c.if-is_roaming.true))

pub returns-else-is_roaming : goal.returns-else-is_roaming
returns-else-is_roaming c =
    let n = c.args.node.0 in
    goes_idle c.note.ensures
    (λ s run at. stays_there s run n c.args.link (sym (roaming_is c.args.self.now s run at n) ∙ sym c.is_roaming.ensures ∙ c.if-is_roaming.false))
