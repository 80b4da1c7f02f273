use Rattle.mip_law_origin.proofs.Origins.{permitted_stands, permitted_origin}
use Rattle.mip_law_origin.proofs.laws.unforged_acceptances_have_their_origin.Goals as goal

pub returns : goal.returns
returns c = record {
  stands = λ content plain before e after whole a hot cot update mark. permitted_stands content plain before e after whole a hot cot update mark;
  nonces = λ content plain short before e after whole a told hot cot update mark. permitted_origin content plain short before e after whole a told hot cot update mark;
}
