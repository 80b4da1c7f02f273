use Rattle.std.proofs.Common.{ap}
use Rattle.std.specs.Prelude.{Option}
use Rattle.mip_history.specs.Advertising.{Router, hears_of_all}
use Rattle.mip_engine.proofs.GoesLaws.{goes_as, goes_nowhere}
use Rattle.mip_replay.proofs.advertising.hear_all.Goals as goal

pub returns-in-Some : goal.returns-in-Some
returns-in-Some c =
    goes_as c.hear_others.ensures (λ s run at. ap (λ (o : Option Router). hears_of_all s c.args.link.0 c.args.node.0 run o) (c.in-Some.ensures s run at))

pub returns-in-None : goal.returns-in-None
returns-in-None c = goes_nowhere (λ s run at. ap (λ (o : Option Router). hears_of_all s c.args.link.0 c.args.node.0 run o) (c.in-None.ensures s run at))
