use Rattle.mip_law_delivery.proofs.Sending.{sent_tunnelled}
use Rattle.mip_law_delivery.proofs.laws.mobile_sends_tunnelled.Goals as goal

pub returns : goal.returns
returns c = λ k now careof agent to proto payload away unbound registered can plain. sent_tunnelled k now to proto payload careof agent away unbound registered can plain
