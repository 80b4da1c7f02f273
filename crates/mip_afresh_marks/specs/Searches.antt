-- What a walk over sights knows: of each node its life and whether it is an agent, which outsiders have heard a token, how a token
-- was named.
use Rattle.std.specs.Prelude.{◌≡◌, ◌<◌, ℕ, List, map, take, Bool, false, ◌||◌, if◌then◌else◌, Option, Some, None, option_map, slice_index_or}
use Rattle.std.specs.List.{list_any, find}
use Rattle.mip_words.specs.Last.{or_else}
use Rattle.mip_provenance.specs.Sights.{Sight}
pub use Rattle.mip_provenance.specs.KnownNodes.{stranger, known_step, naming_known}
use Rattle.mip_provenance.specs.declared.known.Known.{Known}
use Rattle.mip_provenance.specs.Reached.{is_heard}
use Rattle.mip_provenance.specs.Names.{Naming, is_agent, life_at, number_of_naming, namings, is_own, is_other, is_misnamed}
use Rattle.mip_provenance.specs.Causes.{Claim}
use Rattle.mip_afresh_marks.specs.declared.names.Named.{Named}
use Rattle.mip_afresh_marks.specs.declared.lives.Lives.{Lives}
use Rattle.mip_afresh_marks.specs.declared.sights.Sights.{Sights}
use Rattle.mip_afresh_marks.specs.Sighting.{sight_seen, token_numbered}

-- the sights up to a place
abbrev pub front_in : Sights → ℕ → List Sight
front_in s place = map (sight_seen (token_numbered s.posts.items)) (take place s.seen.items)

abbrev pub known_at : Lives → ℕ → Known
known_at l n = slice_index_or l.nodes n stranger

-- what is known of a node behind these sights
abbrev pub known_of : ℕ → List Sight → Known
known_of n front = record { is_agent = list_any (is_agent n) front; life = life_at n front }

abbrev pub AreKnown : Lives → List Sight → Type 0
AreKnown l front = (n : ℕ) → n < 256 → known_at l n ≡ known_of n front

-- how a token was named: the first packet that named it so, and whether one named it otherwise
abbrev pub named_step : Claim → Option Naming → Named → Named
named_step c None named = named
named_step c (Some n) named = record {
  first = or_else named.first (if is_own c.token c.name n then Some n.number else None);
  otherwise = named.otherwise || is_other c.token c.name n;
}

abbrev pub named_in : List Sight → Claim → Named
named_in seen c = record {
  first = option_map number_of_naming (find (is_own c.token c.name) (namings seen));
  otherwise = is_misnamed seen c.token c.name;
}

-- which outsiders have heard a token
abbrev pub has_heard : List Bool → ℕ → Bool
has_heard heard outsider = slice_index_or heard outsider false

abbrev pub HaveHeard : List Bool → List ℕ → List Sight → Type 0
HaveHeard heard token front = (o : ℕ) → o < 256 → has_heard heard o ≡ list_any (is_heard o token) front
