use Rattle.std.proofs.Common.{◌≡◌, drop}
use Rattle.std.specs.Prelude.{map}
use Rattle.mip_links.specs.Table.{link_from}
use Rattle.mip_afresh.proofs.links.link_place.Given as goal

abbrev pub invariant-loop-link : goal.invariant-loop-link
invariant-loop-link l = record {
  place : l.place ≡ l.link-index;
  rest : link_from l.place (map (λ p. p.0) (drop l.link-index l.prefixes)) l.prefix.0 ≡ link_from 0 (map (λ p. p.0) l.prefixes) l.prefix.0;
}
