use Rattle.std.proofs.Common.{◌≡◌, drop}
use Rattle.std.specs.Option.{option_map}
use Rattle.mip_homeagent.specs.Endings.{claims_released}
use Rattle.mip_homeagent.proofs.ending.release_all.Given as goal

abbrev pub invariant-loop-end : goal.invariant-loop-end
invariant-loop-end g l =
    (option_map (claims_released (drop l.end-index l.ends)) (g.P.Place.claims l.place) ≡ option_map (claims_released l.ends) (g.P.Place.claims l.initial.place))
    × (g.P.Place.around l.place ≡ g.P.Place.around l.initial.place) × g.P.Place.is_same l.initial.place l.place
