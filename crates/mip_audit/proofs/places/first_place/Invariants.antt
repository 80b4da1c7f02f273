use Rattle.std.proofs.Common.{◌≡◌, ◌≤◌, length, take}
use Rattle.mip_audit.proofs.places.first_place.Given as goal

abbrev pub invariant-loop-entry : goal.invariant-loop-entry
invariant-loop-entry l = record {
  at : l.place ≡ l.entry-index;
  within : l.place ≤ length l.permitted;
  alike : take l.place l.given ≡ take l.place l.permitted;
}
