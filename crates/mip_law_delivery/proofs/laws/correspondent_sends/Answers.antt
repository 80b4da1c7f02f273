use Rattle.mip_law_delivery.proofs.Sending.{sent_by_correspondent}
use Rattle.mip_law_delivery.proofs.laws.correspondent_sends.Goals as goal

pub returns : goal.returns
returns c = sent_by_correspondent
