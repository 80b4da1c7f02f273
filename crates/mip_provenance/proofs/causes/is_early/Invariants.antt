use Rattle.std.proofs.Common.{◌≡◌, drop}
use Rattle.std.specs.Prelude.{map}
use Rattle.std.specs.List.{list_any}
use Rattle.std.specs.Str.{bytes_eq}
use Rattle.mip_provenance.specs.Lists.{along}
use Rattle.mip_provenance.specs.Sights.{sight, sights}
use Rattle.mip_provenance.specs.Causes.{early, is_early}
use Rattle.mip_provenance.specs.Seen.{front_at}
use Rattle.mip_provenance.proofs.causes.is_early.Given as goal

abbrev pub invariant-loop-place : goal.invariant-loop-place
invariant-loop-place l =
    list_any (bytes_eq l.token.0) (along early (front_at l.history l.place) (map (sight l.history) (drop l.place l.history))) ≡ is_early (sights l.history) l.token.0
