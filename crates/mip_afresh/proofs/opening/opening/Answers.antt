use Rattle.std.proofs.Common.{◌++◌, List, map, take, ap, ◌∙◌}
use Rattle.mip_entries.specs.declared.entry.Entry.{Entry}
use Rattle.mip_history.specs.Permitted.{claims_of}
use Rattle.mip_afresh.specs.Tellings.{host_seen}
use Rattle.mip_afresh.proofs.Openings.{claims_next}
use Rattle.mip_afresh.proofs.opening.opening.Goals as goal

pub loop-who-preserved : goal.loop-who-preserved
loop-who-preserved c =
    c.in_ok-claim_of.ensures
    ∙ ap (λ (l : List Entry). l ++ claims_of (map (λ p. p.0) c.args.links.prefixes.now) (map host_seen (take c.loop-who.who c.args.hosts.list.now)) (host_seen c.index-list-who.result)) c.loop-who.invariant
    ∙ claims_next (map (λ p. p.0) c.args.links.prefixes.now) c.args.hosts.list.now c.loop-who.who c.index-list-who.result c.loop-who-test.true c.index-list-who.is
