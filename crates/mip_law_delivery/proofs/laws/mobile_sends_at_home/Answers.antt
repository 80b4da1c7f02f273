use Rattle.mip_law_delivery.proofs.Sending.{sent_at_home}
use Rattle.mip_law_delivery.proofs.laws.mobile_sends_at_home.Goals as goal

pub returns : goal.returns
returns c = λ k now to proto payload home. sent_at_home k now to proto payload home
