use Rattle.std.proofs.Common.{◌≡◌, drop}
use Rattle.std.specs.Prelude.{map}
use Rattle.std.specs.List.{list_any}
use Rattle.mip_provenance.specs.Lists.{along}
use Rattle.mip_provenance.specs.Sights.{sight, sights}
use Rattle.mip_provenance.specs.Names.{naming, is_other, is_misnamed}
use Rattle.mip_provenance.specs.Seen.{front_at, name_of}
use Rattle.mip_provenance.proofs.names.is_misnamed.Given as goal

abbrev pub invariant-loop-place : goal.invariant-loop-place
invariant-loop-place l =
    list_any (is_other l.claim.token.0 (name_of l.claim.name)) (along naming (front_at l.history l.place) (map (sight l.history) (drop l.place l.history)))
    ≡ is_misnamed (sights l.history) l.claim.token.0 (name_of l.claim.name)
