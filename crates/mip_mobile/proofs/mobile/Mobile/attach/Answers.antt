use Rattle.std.proofs.Common.{◌≡◌}
use Rattle.mip_mobile.proofs.Claimed.{attach-left}
use Rattle.mip_mobile.proofs.Faulted.{still-faulted}
use Rattle.mip_mobile.proofs.mobile.Mobile.attach.Goals as goal

pub returns-clause-faulted : goal.returns-clause-faulted
returns-clause-faulted g c =
    still-faulted (g.P.Place.claims c.attach-answers.new.place ≡ g.P.Place.claims c.args.place.now) c.args.self c.into_machine-machine.result c.into_machine-machine.ensures c.attach-answers.ensures.faulted

pub returns-clause-told : goal.returns-clause-told
returns-clause-told g c =
    attach-left g.C.Clock g.W.Wire c.into_machine-machine.result c.attach-answers.new.self (g.P.Place.around c.args.place.now) c.args.prefix.0 c.attach-answers.result (g.P.Place.claims c.args.place.now) (g.P.Place.claims c.attach-answers.new.place)
    c.attach-answers.ensures.performs c.attach-answers.ensures.claims
