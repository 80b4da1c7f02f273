use Rattle.mip_rules_mobile.proofs.Taken.{is-for, is-of-tunnel, is-heeded, is-icmp-heeded}
use Rattle.mip_rules_mobile.proofs.laws.each_packet_counts_by_right.Goals as goal

pub returns-clause-address : goal.returns-clause-address
returns-clause-address c = λ k now number shield bytes packet read. is-for k now number shield bytes packet read

pub returns-clause-tunnel : goal.returns-clause-tunnel
returns-clause-tunnel c = λ k now number shield bytes packet read proto. is-of-tunnel k now number shield bytes packet read proto

pub returns-clause-message : goal.returns-clause-message
returns-clause-message c = λ k now number shield bytes tunnelled packet m handled says. is-heeded k now number shield bytes tunnelled packet m handled says

pub returns-clause-icmp : goal.returns-clause-icmp
returns-clause-icmp c = λ k now number shield bytes tunnelled packet m handled proto reads. is-icmp-heeded k now number shield bytes tunnelled packet m handled proto reads
