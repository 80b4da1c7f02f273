-- The names of tokens: who sends a token, in which life, of which kind, to which address, with which nonce index.
-- RFC 6275 sections 5.2.5, 6.1.5 and 6.1.6
use Rattle.std.specs.Prelude.{ℕ, suc, List, [], fold, Bool, false, not, ◌&&◌, ◌==◌, if◌then◌else◌, Option, Some, None, option_map, unwrap_or}
use Rattle.std.specs.List.{list_any, find}
use Rattle.std.specs.Str.{bytes_eq}
use Rattle.mip_words.specs.declared.address.Address.{Address}
use Rattle.mip_packets.specs.Says.Carried.{Test}
use Rattle.mip_provenance.specs.Lists.{along}
use Rattle.mip_provenance.specs.Sights.{Sight}
use Rattle.mip_provenance.specs.Sights.Sight.{Sent, Agent, Restarted}

pub record Name : Type 0 where
  pub node : ℕ
  pub life : ℕ
  -- 0 of a home test, 1 of a care-of test
  pub kind : ℕ
  pub address : Address
  pub index : ℕ

-- a packet names a token
pub record Naming : Type 0 where
  pub number : ℕ
  pub token : List ℕ
  pub name : Name

abbrev pub number_of_naming : Naming → ℕ
number_of_naming n = n.number

abbrev pub is_agent : ℕ → Sight → Bool
is_agent node (Agent n) = n == node
is_agent node _ = false

abbrev pub lives : ℕ → ℕ → Sight → ℕ
lives node count (Restarted n) = if node == n then suc count else count
lives node count _ = count

-- the life of a node: how often it was restarted
abbrev pub life_at : ℕ → List Sight → ℕ
life_at node seen = fold (lives node) 0 seen

-- a node that is no agent sends a test, and so names its token; an agent passes tests on
abbrev pub naming : List Sight → Sight → Option Naming
naming front (Sent number node (Test kind index token destination)) =
    if list_any (is_agent node) front then None
    else Some (record { number = number; token = token; name = record { node = node; life = life_at node front; kind = kind; address = destination; index = index } })
naming front _ = None

-- the tokens that are named, in order
abbrev pub namings : List Sight → List Naming
namings seen = along naming [] seen

abbrev pub same_name : Name → Name → Bool
same_name a b = a.node == b.node && a.life == b.life && a.kind == b.kind && a.address.0 == b.address.0 && a.index == b.index

-- the token under this name
abbrev pub is_own : List ℕ → Name → Naming → Bool
is_own token name n = bytes_eq n.token token && same_name n.name name

-- the token under another name
abbrev pub is_other : List ℕ → Name → Naming → Bool
is_other token name n = bytes_eq n.token token && not (same_name n.name name)

-- the token was sent under another name
abbrev pub is_misnamed : List Sight → List ℕ → Name → Bool
is_misnamed seen token name = list_any (is_other token name) (namings seen)

-- the number of the first packet with the token under this name; 0 where there is none
abbrev pub first_sent : List Sight → List ℕ → Name → ℕ
first_sent seen token name = unwrap_or (option_map number_of_naming (find (is_own token name) (namings seen))) 0
