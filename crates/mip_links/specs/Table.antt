-- What becomes of a packet that is delivered, as one function of the answers to what a delivery asks.
use Rattle.std.specs.Prelude.{ℕ, suc, ◌+◌, ◌-◌, List, [], ◌∷◌, Bool, false, not, ◌&&◌, ◌==◌, nat_lt, if◌then◌else◌, Option, Some, None, slice_get, slice_index_or}
use Rattle.mip_words.specs.Addresses.{prefix_of}
use Rattle.mip_words.specs.Numbers.{number_at}
use Rattle.mip_words.specs.declared.address.Address.{Address}
use Rattle.mip_words.specs.declared.shield.Shield.{Shield}
use Rattle.mip_words.specs.declared.why.Why.{Why}
use Rattle.mip_words.specs.declared.why.Why.TheVariants.{NoLink, Hop, NoHolder, Shield as NotForIt}
use Rattle.mip_words.specs.Holders.{first_outsider}
use Rattle.mip_ipv6.specs.Tunnel.{hop_of}
use Rattle.mip_links.specs.declared.delivery.Delivery.{Delivery}
use Rattle.mip_links.specs.declared.delivery.Delivery.TheVariants as deliveries

-- a packet as it was posted, and the link that it was sent from
pub record Post : Type 0 where
  pub from : ℕ
  pub shield : Option Shield
  pub packet : List ℕ

-- what a delivery asks: the prefix of each link, who holds an address, and which address a holder claimed first
pub record Asked : Type 0 where
  pub links : List ℕ
  pub holder : ℕ → Option ℕ
  pub declared : ℕ → Option Address

-- the destination of a packet's bytes. RFC 8200 section 3
abbrev pub destination_in : List ℕ → ℕ
destination_in packet = number_at 16 24 packet

-- the first link with this prefix, the first of the list counted as number n
abbrev pub link_from : ℕ → List ℕ → ℕ → Option ℕ
link_from n [] prefix = None
link_from n (p ∷ ps) prefix = if p == prefix then Some n else link_from (suc n) ps prefix

-- the link of an address: the one whose prefix is the first 64 bits
abbrev pub link_of : List ℕ → ℕ → Option ℕ
link_of links address = link_from 0 links (prefix_of address)

-- what becomes of a packet: it is not in the pool, it comes to nobody, or a holder with this number has its destination
pub data Fate : Type 0 where
  Idle : Fate
  Gone : (why : Why) → Fate
  Outsider : (by : ℕ) → Fate
  Node : (by : ℕ) → Fate

abbrev pub fate_of : Delivery → Fate
fate_of deliveries.Idle = Idle
fate_of (deliveries.Gone why) = Gone why
fate_of (deliveries.Outsider outsider) = Outsider (outsider + first_outsider)
fate_of (deliveries.Node node) = Node node.0

-- nodes have the numbers below that of the first outsider
abbrev pub is_node : ℕ → Bool
is_node by = nat_lt by first_outsider

-- an outsider as a holder, and the outsider that is this holder
abbrev pub holder_outside : ℕ → ℕ
holder_outside o = o + first_outsider

abbrev pub outsider_of : ℕ → ℕ
outsider_of by = by - first_outsider

abbrev pub is_address : Option Address → Address → Bool
is_address None address = false
is_address (Some a) address = a.0 == address.0

-- a shielded packet goes to the node that its shield names by its first address, and to nobody else
abbrev pub held_by : Option Shield → ℕ → Option Address → Fate
held_by None by declared = if is_node by then Node by else Outsider by
held_by (Some shield) by declared = if is_node by && is_address declared shield.to then Node by else Gone NotForIt

abbrev pub at_holder : Asked → Option Shield → Option ℕ → Fate
at_holder q shield None = Gone NoHolder
at_holder q shield (Some by) = held_by shield by (q.declared by)

-- a packet that comes to another link has a hop limit of 2 at least
abbrev pub at_link : Asked → Post → Option ℕ → Fate
at_link q post None = Gone NoLink
at_link q post (Some link) =
    if not (link == post.from) && nat_lt (hop_of post.packet) 2 then Gone Hop
    else at_holder q post.shield (q.holder (destination_in post.packet))

abbrev pub delivery : Asked → Option Post → Fate
delivery q None = Idle
delivery q (Some post) = at_link q post (link_of q.links (destination_in post.packet))

-- the packet with this number, where it is in the pool
abbrev pub in_pool : List Bool → List Post → ℕ → Option Post
in_pool flying posts number = if slice_index_or flying number false then slice_get posts number else None
