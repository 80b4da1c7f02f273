-- What always holds of a correspondent.
use Rattle.std.specs.Prelude.{◌≡◌, ◌≤◌, ◌<◌, true}
use Rattle.std.specs.List.{AllByRecursion}
use Rattle.mip_words.specs.Addresses.{is_routable}
use Rattle.mip_bcache.specs.Seen.{HomeRows}
use Rattle.mip_rules_correspondent.specs.Seen.{CorrespondentSeen}

-- a home address that may stand in a routing header
abbrev pub HasRoutableHome : HomeRows → Type 0
HasRoutableHome h = is_routable h.home ≡ true

-- no change of its cache is later than its last call, its cache has the room that it was made with and some numbers,
-- and it has routable homes alone
pub record IsSound (c : CorrespondentSeen) : Type 0 where
  pub early : c.known.cache.last ≤ c.known.last.0
  pub room : c.known.cache.limit ≡ c.identity.room
  pub numbers : 0 < c.known.cache.numbers
  pub homes : AllByRecursion HasRoutableHome c.known.cache.homes
