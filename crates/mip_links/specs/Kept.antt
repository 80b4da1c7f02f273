-- What a posted packet is that is kept in few bytes.
use Rattle.std.specs.Prelude.{◌≡◌, ℕ, suc, ◌+◌, ◌-◌, ◌==◌, ◌≤◌, if◌then◌else◌, List, [], ◌∷◌, length, slice_get, slice_range, Option, None}
use Rattle.std.specs.Option.{option_map_or}
use Rattle.mip_words.specs.declared.shield.Shield.{Shield}
use Rattle.mip_links.specs.declared.kept_flight.KeptFlight.{KeptFlight}
use Rattle.mip_links.specs.declared.kept_flight.KeptFlight.TheVariants.{Plain, Shielded}
use Rattle.mip_links.specs.declared.kept_post.KeptPost.{KeptPost}
use Rattle.mip_links.specs.declared.posted.Posted.{Posted}
use Rattle.mip_links.specs.Table.{Post}

-- the link that the packet was sent from
abbrev pub from_of : KeptFlight → ℕ
from_of (Plain from) = from.0
from_of (Shielded from place) = from.0

-- its shield, among those that packets have had
abbrev pub shield_of : List Shield → KeptFlight → Option Shield
shield_of shields (Plain from) = None
shield_of shields (Shielded from place) = slice_get shields place

-- how many shields stand at least
abbrev pub room_of : KeptFlight → ℕ
room_of (Plain from) = 0
room_of (Shielded from place) = suc place

-- more shields leave those that stood before
pub record IsLeft (before after : List Shield) : Type 0 where
  pub room : length before ≤ length after
  pub same : (flight : KeptFlight) → room_of flight ≤ length before → shield_of after flight ≡ shield_of before flight

-- the packet that is kept so, where its bytes begin at start
abbrev pub post_in : List ℕ → List Shield → ℕ → KeptPost → Post
post_in bytes shields start p = record { from = from_of p.flight; shield = shield_of shields p.flight; packet = slice_range bytes start p.end }

-- the packets, each of whose bytes begin where those of the one before end
abbrev pub posts_in : List ℕ → List Shield → ℕ → List KeptPost → List Post
posts_in bytes shields start [] = []
posts_in bytes shields start (p ∷ ps) = post_in bytes shields start p ∷ posts_in bytes shields p.end ps

-- their bytes are all that stand, a fixed header at least each, and their shields stand
abbrev pub AreKept : List ℕ → List Shield → ℕ → List KeptPost → Type 0
AreKept bytes shields start [] = start ≡ length bytes
AreKept bytes shields start (p ∷ ps) = (start + 40 ≤ p.end) × (room_of p.flight ≤ length shields) × AreKept bytes shields p.end ps

-- where the packet before this one ends
abbrev pub end_before : List KeptPost → ℕ → ℕ
end_before posts number = if number == 0 then 0 else option_map_or (λ p. p.end) (slice_get posts (number - 1)) 0

-- the packet that is looked at
abbrev pub post_of : Posted → Post
post_of p = record { from = p.flight.from.0; shield = p.flight.shield; packet = p.packet.now }
