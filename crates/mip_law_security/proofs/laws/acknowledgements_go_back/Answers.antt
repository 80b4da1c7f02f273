use Rattle.mip_law_security.proofs.Backwards.{ack_back, call_back}
use Rattle.mip_law_security.proofs.laws.acknowledgements_go_back.Goals as goal

pub returns : goal.returns
returns c = record {
  bytes = λ own r status sequence lifetime kbm. ack_back own r status sequence lifetime kbm;
  sent = λ me k now call number p handed. call_back me k now call p number handed;
}
