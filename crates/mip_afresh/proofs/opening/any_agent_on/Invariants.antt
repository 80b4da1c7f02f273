use Rattle.std.proofs.Common.{◌≡◌, drop, map}
use Rattle.std.specs.Prelude.{option_map}
use Rattle.std.specs.List.{list_any}
use Rattle.mip_history.specs.Permitted.{is_agent_on}
use Rattle.mip_afresh.specs.Tellings.{host_seen}
use Rattle.mip_afresh.proofs.opening.any_agent_on.Given as goal

abbrev pub invariant-loop-host : goal.invariant-loop-host
invariant-loop-host l =
    list_any (is_agent_on (map (λ p. p.0) l.links.prefixes.now) (option_map (λ k. k.0) l.link)) (map host_seen (drop l.host-index l.hosts))
    ≡ list_any (is_agent_on (map (λ p. p.0) l.links.prefixes.now) (option_map (λ k. k.0) l.link)) (map host_seen l.hosts)
