-- An entry of a node is left as its kind has it.
use Rattle.std.proofs.Common.{◌≡◌, ℕ, refl}
use Rattle.mip_entries.specs.declared.entry.Entry.{Entry}
use Rattle.mip_entries.specs.declared.entry.Entry.TheVariants.{Claimed, Taken, Released, Restarted}
use Rattle.mip_history.specs.Setup.{Setup}
use Rattle.mip_history.specs.Runs.{Run}
use Rattle.mip_history.specs.Nodes.{left_by}
use Rattle.mip_afresh.specs.Leavings.{leaving_of, left_so}

pub left_as : (s : Setup) (n : ℕ) (run : Run) (e : Entry) → left_by s n run e ≡ left_so s n run e (leaving_of e)
left_as s n run (Claimed who link address) = refl
left_as s n run (Taken who link address holder) = refl
left_as s n run (Released who link address) = refl
left_as s n run (Restarted node) = refl
left_as s n run e = refl
