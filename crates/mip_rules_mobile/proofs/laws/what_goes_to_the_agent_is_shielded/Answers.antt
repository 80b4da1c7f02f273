use Rattle.std.proofs.Common.{refl}
use Rattle.mip_rules_mobile.proofs.Sent.{leg-shielded}
use Rattle.mip_rules_mobile.proofs.laws.what_goes_to_the_agent_is_shielded.Goals as goal

pub returns-clause-registers : goal.returns-clause-registers
returns-clause-registers c = λ home careof agent sequence. (refl, tt)

pub returns-clause-deregisters : goal.returns-clause-deregisters
returns-clause-deregisters c = λ home agent sequence. (refl, tt)

pub returns-clause-solicits : goal.returns-clause-solicits
returns-clause-solicits c = λ home careof agent identifier. (refl, tt)

pub returns-clause-tunnels : goal.returns-clause-tunnels
returns-clause-tunnels c = λ home careof agent inner packet read mobility. leg-shielded home careof agent inner packet read mobility
