use Rattle.std.proofs.Common.{◌≡◌, ◌<◌, ◌≤◌, ◌-◌, ℕ, false, length}
use Rattle.std.specs.Prelude.{slice_index_or}
use Rattle.mip_links.proofs.places.first_after.Given as goal

abbrev pub invariant-loop-place : goal.invariant-loop-place
invariant-loop-place l = record {
  within : l.place ≤ length l.flags;
  clear : (i : ℕ) → i < l.place → slice_index_or l.flags i false ≡ false;
}

abbrev pub decreases-loop-place : goal.decreases-loop-place
decreases-loop-place l = length l.flags - l.place
