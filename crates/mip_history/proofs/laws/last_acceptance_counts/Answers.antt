use Rattle.std.proofs.Common.{◌++◌, ◌∷◌}
use Rattle.mip_history.specs.Questions.{moment_in}
use Rattle.mip_history.specs.Bound.{accepted_entry}
use Rattle.mip_history.proofs.LastOnes.{last_binds, last_deletes, last_kept}
use Rattle.mip_history.proofs.laws.last_acceptance_counts.Goals as goal

pub returns : goal.returns
returns c = record {
  binds = λ s before n k home binding a after alive none away early. last_binds s before n k home binding a after alive none (moment_in s.start (before ++ accepted_entry n k home binding a ∷ after)) away early;
  deletes = λ s before n k home binding a after alive none same. last_deletes s before n k home binding a after alive none (moment_in s.start (before ++ accepted_entry n k home binding a ∷ after)) same;
  floor = λ s before n k home binding a after now alive none early. last_kept s before n k home binding a after alive none now early;
}
