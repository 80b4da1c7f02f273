use Rattle.mip_law_security.proofs.Chains.{each_comes_of_three}
use Rattle.mip_law_security.proofs.laws.data_arrives_by_three_packets.Goals as goal

pub returns : goal.returns
returns c = λ content events orderly. each_comes_of_three content events orderly
