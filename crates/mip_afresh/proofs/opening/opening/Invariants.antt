use Rattle.std.proofs.Common.{◌≡◌, [], take, map}
use Rattle.mip_history.specs.Permitted.{claims_from}
use Rattle.mip_afresh.specs.Tellings.{host_seen}
use Rattle.mip_afresh.proofs.opening.opening.Given as goal

abbrev pub invariant-loop-who : goal.invariant-loop-who
invariant-loop-who l = l.past ≡ claims_from (map (λ p. p.0) l.links.prefixes.now) [] (map host_seen (take l.who l.list))
