-- How what is known goes along a past.
use Rattle.std.proofs.Common.{◌≡◌, ℕ, List, [], ◌∷◌, ◌++◌, Bool, true, false, refl, ◌∙◌}
use Rattle.std.specs.Prelude.{Option, Some, None, unwrap_or, option_map, fold, if◌then◌else◌}
use Rattle.mip_bcache.specs.Seen.{CacheSeen, expired}
use Rattle.mip_words.specs.Last.{or_else, last_where}
use Rattle.mip_entries.specs.Stamped.{Stamped}
use Rattle.mip_entries.specs.Transitions.{StandsBy, last_after}
use Rattle.mip_entries.proofs.TransitionLaws.{known-push}
use Rattle.mip_rules_correspondent.specs.declared.known.Known.{Known}
use Rattle.mip_rules_correspondent.specs.Calls.{is_tick}
use Rattle.mip_rules_correspondent.specs.Steps.{Step, Called, Accepts, is_call}
use Rattle.mip_rules_correspondent.specs.Questions.{cache_after, after, fresh, known}
use Rattle.mip_rules_correspondent.specs.Transitions.{Stands}

-- whoever stands for a past knows what it leaves known, and the other way round
pub stands-known : (room numbers : ℕ) (past : List (Stamped Step)) (k : Known) → Stands room numbers past k → k ≡ known room numbers past
unfolding known StandsBy
stands-known room numbers past k stands = stands

pub known-stands : (room numbers : ℕ) (past : List (Stamped Step)) (k : Known) → k ≡ known room numbers past → Stands room numbers past k
unfolding known StandsBy
known-stands room numbers past k is = is

-- one step more
pub known-step : (room numbers : ℕ) (past : List (Stamped Step)) (s : Stamped Step) → known room numbers (past ++ s ∷ []) ≡ after (known room numbers past) s
unfolding known
known-step room numbers past s = known-push after (fresh room numbers) past s

abbrev moment_of : Option (Stamped Step) → ℕ → ℕ
moment_of o d = unwrap_or (option_map (λ s. s.at) o) d

last_from : (k : Known) (past : List (Stamped Step)) → (fold after k past).last.0 ≡ moment_of (last_where (λ s. is_call s.step) past) k.last.0
unfolding after
last_from k [] = refl
last_from k (s ∷ past) =
    last_from (after k s) past ∙ by (last_where (λ (s : Stamped Step). is_call s.step) past) s.at s.step
  where
    by : (o : Option (Stamped Step)) (at : ℕ) (step : Step) → moment_of o (last_after (is_call step) k.last at).0 ≡ moment_of (or_else o (if is_call step then Some (record { at = at; step = step }) else None)) k.last.0
    by (Some x) at step = refl
    by None at (Called call) = refl
    by None at _ = refl

-- the last moment known is that of the last call
pub known-last : (room numbers : ℕ) (past : List (Stamped Step)) → (known room numbers past).last.0 ≡ moment_of (last_where (λ s. is_call s.step) past) 0
unfolding known
known-last room numbers past = last_from (fresh room numbers) past

-- the room and the numbers of a cache stay
same-bounds : (cache : CacheSeen) (at : ℕ) (step : Step) → ((cache_after cache at step).limit ≡ cache.limit) × ((cache_after cache at step).numbers ≡ cache.numbers)
same-bounds cache at (Accepts number home binding accepted) = (refl, refl)
same-bounds cache at (Called call) = by (is_tick call)
  where
    by : (tick : Bool) → (let c : CacheSeen = (if tick then expired at cache else cache) in (c.limit ≡ cache.limit) × (c.numbers ≡ cache.numbers))
    by true = (refl, refl)
    by false = (refl, refl)
same-bounds cache at _ = (refl, refl)

bounds-from : (k : Known) (past : List (Stamped Step)) → ((fold after k past).cache.limit ≡ k.cache.limit) × ((fold after k past).cache.numbers ≡ k.cache.numbers)
unfolding after
bounds-from k [] = (refl, refl)
bounds-from k (s ∷ past) =
    let more = bounds-from (after k s) past in
    let one = same-bounds k.cache s.at s.step in
    (more.0 ∙ one.0, more.1 ∙ one.1)

pub known-limit : (room numbers : ℕ) (past : List (Stamped Step)) → (known room numbers past).cache.limit ≡ room
unfolding known
known-limit room numbers past = (bounds-from (fresh room numbers) past).0

pub known-numbers : (room numbers : ℕ) (past : List (Stamped Step)) → (known room numbers past).cache.numbers ≡ numbers
unfolding known
known-numbers room numbers past = (bounds-from (fresh room numbers) past).1
