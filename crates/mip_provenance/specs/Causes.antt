-- The causes of a forged update. RFC 6275 section 5.2 tells what return routability is to show.
use Rattle.std.specs.Prelude.{ℕ, List, [], Bool, false, ◌||◌, if◌then◌else◌, Option, Some, None}
use Rattle.std.specs.List.{list_any}
use Rattle.std.specs.Option.{option_map_or}
use Rattle.std.specs.Str.{bytes_eq}
use Rattle.mip_provenance.specs.declared.accepted_update.AcceptedUpdate.{AcceptedUpdate}
use Rattle.mip_provenance.specs.Lists.{along}
use Rattle.mip_provenance.specs.Sights.{Sight, token_in}
use Rattle.mip_provenance.specs.Sights.Sight.{Injected}
use Rattle.mip_provenance.specs.Reached.{is_heard}
use Rattle.mip_provenance.specs.Names.{Name, life_at, is_misnamed}
use Rattle.mip_provenance.specs.Pairs.{Pair}

-- a token, and the name that it has in an acceptance
pub record Claim : Type 0 where
  pub token : List ℕ
  pub name : Name

-- the home token is that of the node in this life, for the home address, under the home nonce index
abbrev pub home_claim_in : ℕ → AcceptedUpdate → List ℕ → Claim
home_claim_in life a p = record { token = p; name = record { node = a.node.0; life = life; kind = 0; address = a.home; index = a.home_index } }

-- the care-of token likewise, for the care-of address
abbrev pub careof_claim_in : ℕ → AcceptedUpdate → List ℕ → ℕ → Claim
careof_claim_in life a q j = record { token = q; name = record { node = a.node.0; life = life; kind = 1; address = a.careof; index = j } }

-- none where the binding ends
abbrev pub careof_claim_with : ℕ → AcceptedUpdate → Option (List ℕ) → Option ℕ → Option Claim
careof_claim_with life a (Some q) (Some j) = Some (careof_claim_in life a q j)
careof_claim_with life a _ _ = None

-- in the node's present life
abbrev pub home_claim : List Sight → AcceptedUpdate → List ℕ → Claim
home_claim seen a p = home_claim_in (life_at a.node.0 seen) a p

abbrev pub careof_claim : List Sight → AcceptedUpdate → Pair → Option Claim
careof_claim seen a pair = careof_claim_with (life_at a.node.0 seen) a pair.careof a.careof_index

-- a token that has not come to an outsider
abbrev pub new_to : List Sight → ℕ → Option (List ℕ) → Option (List ℕ)
new_to front outsider None = None
new_to front outsider (Some token) = if list_any (is_heard outsider token) front then None else Some token

-- an outsider injects a test with a token that had not come to it
abbrev pub early : List Sight → Sight → Option (List ℕ)
early front (Injected number outsider carried) = new_to front outsider (token_in carried)
early front _ = None

-- an outsider had used the token before it came to it
abbrev pub is_early : List Sight → List ℕ → Bool
is_early seen token = list_any (bytes_eq token) (along early [] seen)

-- cause 2: an outsider had injected a test with one of the tokens before that token came to it
abbrev pub is_used_early : List Sight → Claim → Option Claim → Bool
is_used_early seen home careof = is_early seen home.token || option_map_or (λ c. is_early seen c.token) careof false

-- cause 3: one of the tokens was sent under another name
abbrev pub is_named_otherwise : List Sight → Claim → Option Claim → Bool
is_named_otherwise seen home careof =
    is_misnamed seen home.token home.name || option_map_or (λ c. is_misnamed seen c.token c.name) careof false
