use Rattle.mip_law_security.proofs.Overhearing.{sent_heard, injected_heard, arriving_heard, holding_heard}
use Rattle.mip_law_security.proofs.laws.outsiders_hear_what_has_no_shield.Goals as goal

pub returns : goal.returns
returns c = record {
  sent = λ s n link run packet o inside listens. sent_heard s n link run packet o inside listens;
  injected = λ s by link run packet o inside other listens. injected_heard s by link run packet o inside other listens;
  arriving = λ s run k l p post u keep o inside apart listens. arriving_heard s run k l p post u keep o inside apart listens;
  holding = λ s run k l p post u keep o inside holds. holding_heard s run k l p post u keep o inside holds;
}
