use Rattle.std.proofs.Common.{◌≡◌, drop, take}
use Rattle.std.specs.Prelude.{map}
use Rattle.std.specs.List.{list_any}
use Rattle.mip_provenance.specs.Sights.{sight}
use Rattle.mip_provenance.specs.Reached.{is_heard}
use Rattle.mip_provenance.specs.Seen.{front_of}
use Rattle.mip_provenance.proofs.reached.has_heard.Given as goal

abbrev pub invariant-loop-entry : goal.invariant-loop-entry
invariant-loop-entry l =
    list_any (is_heard l.outsider l.token.0) (map (sight l.front.history.now) (drop l.entry-index (take l.front.place l.front.history.now))) ≡ list_any (is_heard l.outsider l.token.0) (front_of l.front)
