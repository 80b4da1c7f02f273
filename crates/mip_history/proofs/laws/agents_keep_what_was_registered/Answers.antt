use Rattle.mip_history.proofs.Registrations.{run_careof, run_kept}
use Rattle.mip_history.proofs.laws.agents_keep_what_was_registered.Goals as goal

pub returns : goal.returns
returns c = record {
  careof = λ s events n own preference life room serves home is. run_careof s events n own preference life room serves home is;
  kept = λ s events n own preference life room serves home is. run_kept s events n own preference life room serves home is;
}
