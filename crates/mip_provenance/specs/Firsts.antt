-- The first packet of an update: that of least number that carries it, and who posted it.
-- RFC 6275 sections 6.1.7 and 6.2.7
use Rattle.std.specs.Prelude.{ℕ, List, Bool, false, ◌&&◌, ◌==◌, if◌then◌else◌, Option, Some, None}
use Rattle.std.specs.List.{filter_map}
use Rattle.std.specs.Option.{option_and_then, option_map_or}
use Rattle.std.specs.Str.{bytes_eq}
use Rattle.mip_packets.specs.Says.{Carried, UpdateIdentity}
use Rattle.mip_packets.specs.Says.Carried.{Update}
use Rattle.mip_provenance.specs.declared.maker.Maker.{Maker}
use Rattle.mip_provenance.specs.declared.maker.Maker.TheVariants.{Node, Outsider}
use Rattle.mip_provenance.specs.Lists.{first_some, least}
use Rattle.mip_provenance.specs.Sights.{Sight}
use Rattle.mip_provenance.specs.Sights.Sight.{Sent, Injected}

-- who posted a packet, and what it says
pub record Post : Type 0 where
  pub maker : Maker
  pub carried : Carried

abbrev pub post_with : ℕ → Sight → Option Post
post_with k (Sent number node carried) = if number == k then Some (record { maker = Node (record { 0 = node }); carried = carried }) else None
post_with k (Injected number outsider carried) = if number == k then Some (record { maker = Outsider outsider; carried = carried }) else None
post_with k _ = None

-- packet k: the first that is posted with this number
abbrev pub post_at : List Sight → ℕ → Option Post
post_at seen k = first_some (post_with k) seen

-- packet k is posted
abbrev pub is_post : ℕ → Sight → Bool
is_post k (Sent number node carried) = number == k
is_post k (Injected number outsider carried) = number == k
is_post k _ = false

abbrev pub number_of : Sight → Option ℕ
number_of (Sent number node carried) = Some number
number_of (Injected number outsider carried) = Some number
number_of _ = None

abbrev pub key_in : Carried → Option UpdateIdentity
key_in (Update key) = Some key
key_in _ = None

-- the update in packet k
abbrev pub key_at : List Sight → ℕ → Option UpdateIdentity
key_at seen k = option_and_then (λ p. key_in p.carried) (post_at seen k)

-- the same update: the same addresses, data and authenticator
abbrev pub same_key : UpdateIdentity → UpdateIdentity → Bool
same_key a b = a.home.0 == b.home.0 && a.careof.0 == b.careof.0 && bytes_eq a.authenticator b.authenticator && bytes_eq a.message b.message

-- packet k carries the update
abbrev pub carries_key : List Sight → UpdateIdentity → ℕ → Bool
carries_key seen key k = option_map_or (same_key key) (key_at seen k) false

-- the number of the first packet of an update
unfoldable pub first_update : List Sight → UpdateIdentity → Option ℕ
first_update seen key = least (carries_key seen key) (filter_map number_of seen)
