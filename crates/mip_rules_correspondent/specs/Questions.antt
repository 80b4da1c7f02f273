-- What a correspondent knows of its past: one question a field, and what each step makes of the answer.
use Rattle.std.specs.Prelude.{ℕ, List, Bool, if◌then◌else◌, Option, option_map}
use Rattle.mip_words.specs.declared.address.Address.{Address}
use Rattle.mip_bcache.specs.Seen.{CacheSeen, empty_cache, expired, with_acceptance, standing_at, holds_at, floor_at, has_no_room}
use Rattle.mip_entries.specs.Stamped.{Stamped}
use Rattle.mip_entries.specs.Transitions.{known_by, last_after}
use Rattle.mip_rules_correspondent.specs.declared.known.Known.{Known}
use Rattle.mip_rules_correspondent.specs.Calls.{is_tick}
use Rattle.mip_rules_correspondent.specs.Steps.{Step, Called, Accepts, is_call}

-- the binding cache: an acceptance goes into it under its binding number, and what is past its time is given up as time
-- goes on (RFC 6275 section 9.5.1)
abbrev pub cache_after : CacheSeen → ℕ → Step → CacheSeen
cache_after cache at (Accepts number home binding accepted) = with_acceptance at home binding accepted cache
cache_after cache at (Called call) = if is_tick call then expired at cache else cache
cache_after cache at _ = cache

-- one step more
unfoldable pub after : Known → Stamped Step → Known
after k s = record { last = last_after (is_call s.step) k.last s.at; cache = cache_after k.cache s.at s.step }

-- a new correspondent with room for so many homes, and for so many bindings of each
abbrev pub fresh : ℕ → ℕ → Known
fresh room numbers = record { last = record { 0 = 0 }; cache = empty_cache room numbers }

-- what a past leaves known
unfoldable pub known : ℕ → ℕ → List (Stamped Step) → Known
known room numbers past = known_by after (fresh room numbers) past

-- the care-of address that is held for a home: of its bindings that stand, that of the last one accepted
abbrev pub held_of : Known → ℕ → Address → Option Address
held_of k now home = option_map (λ r. r.careof) (standing_at k.cache home.0 now)

-- one of the bindings of a home that stand has this care-of address
abbrev pub holds_for : Known → ℕ → Address → Address → Bool
holds_for k now home careof = holds_at k.cache home.0 now careof.0

-- the sequence that the next update for a home must come after
abbrev pub floor_of : Known → ℕ → Address → Option ℕ
floor_of k now home = floor_at k.cache home.0 now

-- there is no room for this home
abbrev pub is_full_for : Known → ℕ → Address → Bool
is_full_for k now home = has_no_room k.cache home.0 now
