use Rattle.mip_engine.proofs.SettleLaws.{settled_is}
use Rattle.mip_engine.proofs.engine.Engine.settle.Goals as goal

pub returns-clause-settled : goal.returns-clause-settled
returns-clause-settled c = λ s events at. settled_is c.args.self.now s events at c.are_settled-yes.ensures.few c.args.a.0 c.args.b.0 c.requires.first c.requires.second
