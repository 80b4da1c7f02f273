use Rattle.mip_rules_mobile.proofs.Away.{away-call}
use Rattle.mip_rules_mobile.proofs.laws.away_packets_leave_from_the_careof_address.Goals as goal

pub returns : goal.returns
returns c = λ k now call careof here elsewhere stays. away-call k now call careof here elsewhere stays
