use Rattle.std.proofs.Common.{◌≡◌, drop}
use Rattle.std.specs.Prelude.{map, option_map, unwrap_or}
use Rattle.std.specs.List.{find}
use Rattle.mip_provenance.specs.Lists.{along}
use Rattle.mip_provenance.specs.Sights.{sight, sights}
use Rattle.mip_provenance.specs.Names.{number_of_naming, naming, is_own, first_sent}
use Rattle.mip_provenance.specs.Seen.{front_at, name_of}
use Rattle.mip_provenance.proofs.names.first_sent.Given as goal

abbrev pub invariant-loop-place : goal.invariant-loop-place
invariant-loop-place l =
    unwrap_or (option_map number_of_naming (find (is_own l.claim.token.0 (name_of l.claim.name)) (along naming (front_at l.history l.place) (map (sight l.history) (drop l.place l.history))))) 0
    ≡ first_sent (sights l.history) l.claim.token.0 (name_of l.claim.name)
