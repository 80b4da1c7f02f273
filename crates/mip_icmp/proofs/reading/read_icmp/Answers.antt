use Rattle.std.proofs.Common.{subst}
use Rattle.mip_words.specs.Steps.{Gives}
use Rattle.mip_icmp.specs.Said.{said}
use Rattle.mip_icmp.proofs.Messages.{is_found, icmp_again}
use Rattle.mip_icmp.proofs.reading.read_icmp.Goals as goal

pub returns-clause-found : goal.returns-clause-found
returns-clause-found c = is_found c.args.source c.args.destination c.args.body.now c.message_of.result c.message_of.ensures.exact

pub returns-clause-only : goal.returns-clause-only
returns-clause-only c = λ m is. subst (λ r. Gives said c.message_of.result r) (icmp_again c.args.source c.args.destination c.args.body.now m is) c.message_of.ensures.exact
