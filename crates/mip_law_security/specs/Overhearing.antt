-- What outsiders hear of a packet that has no shield: on the link that it is sent from, on the link that it comes to, and as the
-- holder of its destination
use Rattle.std.specs.Prelude.{◌≡◌, ◌≢◌, ℕ, ◌≤◌, List, ◌∷◌, ◌++◌, Some, None, Ok}
use Rattle.mip_ipv6.specs.Packet.{Packet}
use Rattle.mip_ipv6.specs.Reading.{packet_of}
use Rattle.mip_entries.specs.declared.entry.Entry.{Entry}
use Rattle.mip_entries.specs.declared.entry.Entry.TheVariants.{Heard}
use Rattle.mip_links.specs.Table.{Post, link_of, in_pool}
use Rattle.mip_history.specs.Setup.{Setup}
use Rattle.mip_history.specs.Runs.{Run}

-- a run has gone on, and its new entries tell that an outsider heard packet k
pub record HasHeard (before after : Run) (k outsider : ℕ) : Type 0 where
  pub first : List Entry
  pub rest : List Entry
  pub whole : after.past ≡ before.past ++ (first ++ Heard k outsider ∷ rest)

-- packet k, which has no shield, is under way to an address of a link: of its own one, or of another that its hop limit lets it come to
pub record IsUnderWay (s : Setup) (run : Run) (k link : ℕ) (packet : Packet) (post : Post) : Type 0 where
  pub pooled : in_pool run.flying run.posts k ≡ Some post
  pub bare : post.shield ≡ None
  pub read : packet_of post.packet ≡ Ok packet
  pub linked : link_of s.links packet.head.destination.0 ≡ Some link
  pub comes : link ≢ post.from → 2 ≤ packet.head.hop
