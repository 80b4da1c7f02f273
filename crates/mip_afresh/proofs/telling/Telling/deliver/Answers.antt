use Rattle.std.proofs.Common.{subst}
use Rattle.std.specs.Prelude.{Option}
use Rattle.std.proofs.lemmas.Result.{IfOk-weaker}
use Rattle.mip_links.specs.Table.{in_pool}
use Rattle.mip_afresh.specs.declared.landing.Landing.{Landing}
use Rattle.mip_afresh.specs.Arrivals.{IsLandingIn}
use Rattle.mip_afresh.proofs.Landings.{there, absent, landing_kept, arrives_some, arrives_none}
use Rattle.mip_afresh.proofs.telling.Telling.deliver.Goals as goal

pub returns-in-Some : goal.returns-in-Some
returns-in-Some c =
    let old = c.args.self.now in
    let mid = c.leave_unless.new.self in
    let k = c.args.number in
    let found = there old.setup old.run.past (in_pool old.run.flying old.run.posts k) c.in-Some.landing
    (subst (λ (o : Option Landing). IsLandingIn old.setup old.run.past (in_pool old.run.flying old.run.posts k) o) c.in-Some.is c.in_ok-landing.ensures) in
    IfOk-weaker c.land.result _ _
    (λ a lands. arrives_some old mid c.land.new.self k c.args.keep c.leave_unless.ensures found.0 a found.1 lands)
    (c.land.ensures found.0 (landing_kept old mid c.land.new.self k c.args.keep c.leave_unless.ensures found.0 c.in-Some.landing found.2))

pub returns-in-None : goal.returns-in-None
returns-in-None c =
    let old = c.args.self.now in
    let k = c.args.number in
    let none = absent old.setup old.run.past (in_pool old.run.flying old.run.posts k)
    (subst (λ (o : Option Landing). IsLandingIn old.setup old.run.past (in_pool old.run.flying old.run.posts k) o) c.in-None.is c.in_ok-landing.ensures) in
    IfOk-weaker c.deliver_nothing.result _ _
    (λ a is. arrives_none old c.leave_unless.new.self c.deliver_nothing.new.self k c.args.keep c.leave_unless.ensures a none is) c.deliver_nothing.ensures
