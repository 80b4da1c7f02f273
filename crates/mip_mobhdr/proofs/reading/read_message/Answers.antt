use Rattle.std.proofs.Common.{subst, Result, Ok, Err, IfOk, List, ℕ, arith}
use Rattle.mip_words.specs.Numbers.{IsBytes}
use Rattle.mip_words.specs.Steps.{Gives}
use Rattle.mip_words.specs.declared.address.Address.{Address}
use Rattle.mip_mobhdr.specs.declared.fault.Fault.{Fault}
use Rattle.mip_mobhdr.specs.declared.message.Message.{Message}
use Rattle.mip_mobhdr.specs.Said.{said}
use Rattle.mip_mobhdr.specs.Reading.{message_of}
use Rattle.mip_mobhdr.specs.Spelling.{IsMessage}
use Rattle.mip_mobhdr.proofs.Messages.{message_spelled, message_read}
use Rattle.mip_mobhdr.proofs.reading.read_message.Goals as goal

is_found : (source destination : Address) (body : List ℕ) (r : Result Message Fault) → IsBytes body → Gives said r (message_of source destination body) → IfOk r (λ m. IsMessage source destination (said m) body)
is_found source destination body (Ok m) are e = message_spelled source destination body (said m) are e
is_found source destination body (Err bad) are e = tt

pub returns-clause-found : goal.returns-clause-found
returns-clause-found c = is_found c.args.source c.args.destination c.args.body.now c.message_in.result (λ i. omega (arith, c.type_inv.body i)) c.message_in.ensures.exact

pub returns-clause-only : goal.returns-clause-only
returns-clause-only c = λ m is. subst (Gives said c.message_in.result) (message_read c.args.source c.args.destination c.args.body.now m is) c.message_in.ensures.exact
