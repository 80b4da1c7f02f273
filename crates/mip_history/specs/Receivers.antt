-- Whom a shield lets be handed its packet. RFC 6275 section 5.1
use Rattle.std.specs.Prelude.{◌≡◌, ℕ, List, Option, Some, slice_get}
use Rattle.mip_words.specs.declared.ids.NodeId.{NodeId}
use Rattle.mip_words.specs.declared.shield.Shield.{Shield}
use Rattle.mip_entries.specs.declared.entry.Entry.{Entry}
use Rattle.mip_entries.specs.declared.entry.Entry.TheVariants as entries
use Rattle.mip_links.specs.Table.{Post}
use Rattle.mip_history.specs.Questions.{declared_in}

-- packet k was posted; and where it has a shield, this names the address that the node had claimed first behind these entries
pub record IsForIt (posts : List Post) (front : List Entry) (k : ℕ) (node : NodeId) : Type 0 where
  pub post : Post
  pub posted : slice_get posts k ≡ Some post
  pub named : (shield : Shield) → post.shield ≡ Some shield → declared_in front node.0 ≡ Some shield.to

-- an entry by which a packet is handed over
abbrev pub IsHandedRight : List Post → List Entry → Entry → Type 0
IsHandedRight posts front (entries.Handed k node) = IsForIt posts front k node
IsHandedRight posts front _ = Unit {0}
