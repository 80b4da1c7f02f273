use Rattle.std.proofs.Common.{◌≡◌, drop}
use Rattle.std.specs.Prelude.{map}
use Rattle.mip_provenance.specs.Lists.{first_some}
use Rattle.mip_provenance.specs.Entries.{packet_told, packet_in}
use Rattle.mip_provenance.specs.Sights.{sight}
use Rattle.mip_provenance.specs.Firsts.{post_with}
use Rattle.mip_provenance.proofs.posts.post.Given as goal

-- the entries still to come give the same packet
abbrev pub invariant-loop-entry : goal.invariant-loop-entry
invariant-loop-entry l =
    (first_some (packet_told l.number) (drop l.entry-index l.history) ≡ packet_in l.history l.number)
    × (first_some (post_with l.number) (map (sight l.history) (drop l.entry-index l.history)) ≡ first_some (post_with l.number) (map (sight l.history) l.history))
