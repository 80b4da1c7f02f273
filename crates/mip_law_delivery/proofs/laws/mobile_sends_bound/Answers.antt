use Rattle.mip_law_delivery.proofs.Sending.{sent_bound}
use Rattle.mip_law_delivery.proofs.laws.mobile_sends_bound.Goals as goal

pub returns : goal.returns
returns c = λ k now careof row to proto payload away bound. sent_bound k now to proto payload careof row away bound
