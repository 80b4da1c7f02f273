-- The pair of tokens behind an update: the one that a mobile made it from, or the first that an outsider could.
-- RFC 6275 sections 5.2.6 and 6.2.7
use Rattle.std.specs.Prelude.{ℕ, List, Bool, ◌&&◌, ◌==◌, if◌then◌else◌, Option, Some, None, option_map}
use Rattle.std.specs.Option.{option_and_then}
use Rattle.std.specs.Str.{bytes_eq}
use Rattle.mip_words.specs.declared.address.Address.{Address}
use Rattle.mip_words.specs.declared.ids.NodeId.{NodeId}
use Rattle.mip_tokens.specs.Token.{authenticator_over}
use Rattle.mip_packets.specs.Says.{UpdateIdentity}
use Rattle.mip_provenance.specs.declared.maker.Maker.{Maker}
use Rattle.mip_provenance.specs.declared.maker.Maker.TheVariants.{Node, Outsider}
use Rattle.mip_provenance.specs.Lists.{first_some, until, if_passes}
use Rattle.mip_provenance.specs.Keys.{kbm_of_tokens}
use Rattle.mip_provenance.specs.Sights.{Sight}
use Rattle.mip_provenance.specs.Sights.Sight.{Made}
use Rattle.mip_provenance.specs.Reached.{values}
use Rattle.mip_provenance.specs.Firsts.{is_post}

-- the home keygen token, and the care-of keygen token unless the binding ends
pub record Pair : Type 0 where
  pub home : List ℕ
  pub careof : Option (List ℕ)

abbrev pub alone : List ℕ → Pair
alone p = record { home = p; careof = None }

abbrev pub both : List ℕ → List ℕ → Pair
both p q = record { home = p; careof = Some q }

-- the pair gives the authenticator of the update at the node with this address
abbrev pub gives : Address → Address → UpdateIdentity → Pair → Bool
gives own careof key pair = bytes_eq (authenticator_over (kbm_of_tokens pair.home pair.careof) careof own key.message) key.authenticator

abbrev pub made_with : ℕ → ℕ → Sight → Option Pair
made_with node k (Made n number home careof) = if n == node && number == k then Some (record { home = home; careof = careof }) else None
made_with node k _ = None

-- what an acceptance asks of it: the home token alone where the binding ends, else both
abbrev pub as_asked : Option ℕ → Pair → Option Pair
as_asked None pair = Some (alone pair.home)
as_asked (Some index) pair = option_map (both pair.home) pair.careof

-- the pair that a mobile made packet k from
abbrev pub pair_made : List Sight → Option ℕ → (Pair → Bool) → NodeId → ℕ → Option Pair
pair_made seen careof test node k =
    option_and_then (if_passes test) (option_and_then (as_asked careof) (first_some (made_with node.0 k) seen))

-- the first of these values that passes alone
abbrev pub first_alone : (Pair → Bool) → List (List ℕ) → Option Pair
first_alone test vs = first_some (λ p. if_passes test (alone p)) vs

-- the first of these values that passes with the home token p
abbrev pub first_with : (Pair → Bool) → List (List ℕ) → List ℕ → Option Pair
first_with test vs p = first_some (λ q. if_passes test (both p q)) vs

-- the first pair of these values that passes, in the order of the first of the two, and then of the second
abbrev pub first_pair : Option ℕ → (Pair → Bool) → List (List ℕ) → Option Pair
first_pair None test vs = first_alone test vs
first_pair (Some index) test vs = first_some (first_with test vs) vs

-- the pair behind packet k, by who posted it; an outsider's is of the values that had reached it before
abbrev pub pair_by : List Sight → Option ℕ → (Pair → Bool) → ℕ → Maker → Option Pair
pair_by seen careof test k (Node node) = pair_made seen careof test node k
pair_by seen careof test k (Outsider outsider) = first_pair careof test (values outsider (until (is_post k) seen))
