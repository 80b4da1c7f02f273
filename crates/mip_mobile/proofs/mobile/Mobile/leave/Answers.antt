use Rattle.std.proofs.Common.{◌≡◌}
use Rattle.mip_mobile.proofs.Claimed.{leave-left}
use Rattle.mip_mobile.proofs.Faulted.{still-faulted}
use Rattle.mip_mobile.proofs.mobile.Mobile.leave.Goals as goal

pub returns-clause-faulted : goal.returns-clause-faulted
returns-clause-faulted g c =
    still-faulted (g.P.Place.claims c.leave-answers.new.place ≡ g.P.Place.claims c.args.place.now) c.args.self c.into_machine-machine.result c.into_machine-machine.ensures c.leave-answers.ensures.faulted

pub returns-clause-told : goal.returns-clause-told
returns-clause-told g c =
    leave-left g.C.Clock g.W.Wire c.into_machine-machine.result c.leave-answers.new.self (g.P.Place.around c.args.place.now) c.leave-answers.result (g.P.Place.claims c.args.place.now) (g.P.Place.claims c.leave-answers.new.place)
    c.leave-answers.ensures.performs c.leave-answers.ensures.claims
