-- The binding cache that a past leaves stands for the updates that were accepted in it.
use Rattle.std.proofs.Common.{◌≡◌, ℕ, ◌≤◌, List, [], ◌∷◌, ◌++◌, refl, sym, ap, ◌∙◌, subst, arith}
use Rattle.std.specs.Prelude.{Option, Some, None, option_map, fold, Bool, true, false, if◌then◌else◌}
use Rattle.std.specs.List.{AllByRecursion}
use Rattle.std.proofs.lemmas.List.{append_assoc, append-nil}
use Rattle.mip_words.specs.declared.address.Address.{Address}
use Rattle.mip_bcache.specs.Acceptance.{Acceptance}
use Rattle.mip_bcache.specs.Held.{held, holds, floor, is_full}
use Rattle.mip_bcache.specs.declared.row.Row.{Row}
use Rattle.mip_bcache.specs.Seen.{CacheSeen, StandsFor, standing_at, expired}
use Rattle.mip_bcache.proofs.Pasts.{HaveUntils, empty_stands, look_answers, holds_answers, floor_answers, room_answers, expire_stands, accept_stands, kept_untils, accept_untils}
use Rattle.mip_entries.specs.Stamped.{Stamped}
use Rattle.mip_entries.specs.Pasts.{RisesFrom, last_at}
use Rattle.mip_entries.proofs.PastLaws.{last_early}
use Rattle.mip_rules_correspondent.specs.declared.known.Known.{Known}
use Rattle.mip_rules_correspondent.specs.Calls.{is_tick}
use Rattle.mip_rules_correspondent.specs.Steps.{Step, Called, Sends, Accepts, Denies, Drops, HandsUp, Idles}
use Rattle.mip_rules_correspondent.specs.Questions.{cache_after, after, fresh, known, held_of, holds_for, floor_of, is_full_for}
use Rattle.mip_rules_correspondent.specs.Pasts.{acceptance_in, accepted_in}

-- what one step makes of a cache that stands for the acceptances so far
pub record Follows (cache : CacheSeen) (xs : List Acceptance) (limit at : ℕ) : Type 0 where
  pub stands : StandsFor cache xs
  pub limit_is : cache.limit ≡ limit
  pub early : cache.last ≤ at
  pub untils : HaveUntils cache

quiet : (cache : CacheSeen) (xs : List Acceptance) (limit from at : ℕ) → from ≤ at → Follows cache xs limit from → Follows cache (xs ++ []) limit at
quiet cache xs limit from at later f = record {
  stands = subst (λ (l : List Acceptance). StandsFor cache l) (sym (append-nil xs)) f.stands;
  limit_is = f.limit_is;
  early = let e = f.early in omega arith;
  untils = f.untils;
}

stepped : (cache : CacheSeen) (xs : List Acceptance) (limit from at : ℕ) (step : Step) → from ≤ at → Follows cache xs limit from → Follows (cache_after cache at step) (xs ++ acceptance_in at step) limit at
stepped cache xs limit from at (Accepts number home binding accepted) later f = record {
  stands = accept_stands cache xs f.stands at (let e = f.early in omega arith) home binding accepted;
  limit_is = f.limit_is;
  early = omega arith;
  untils = accept_untils cache at home binding accepted f.untils;
}
stepped cache xs limit from at (Called call) later f = by (is_tick call)
  where
    by : (tick : Bool) → Follows (if tick then expired at cache else cache) (xs ++ []) limit at
    by true = record {
      stands = subst (λ (l : List Acceptance). StandsFor (expired at cache) l) (sym (append-nil xs)) (expire_stands cache xs f.stands at (let e = f.early in omega arith));
      limit_is = f.limit_is;
      early = omega arith;
      untils = kept_untils cache at f.untils;
    }
    by false = quiet cache xs limit from at later f
stepped cache xs limit from at (Sends packet) later f = quiet cache xs limit from at later f
stepped cache xs limit from at (Denies number status) later f = quiet cache xs limit from at later f
stepped cache xs limit from at (Drops number why) later f = quiet cache xs limit from at later f
stepped cache xs limit from at (HandsUp number source destination proto payload) later f = quiet cache xs limit from at later f
stepped cache xs limit from at Idles later f = quiet cache xs limit from at later f

followed : (k : Known) (xs : List Acceptance) (limit from : ℕ) (past : List (Stamped Step)) → RisesFrom from past → Follows k.cache xs limit from
    → Follows (fold after k past).cache (xs ++ accepted_in past) limit (last_at from past)
unfolding accepted_in after
followed k xs limit from [] rises f = quiet k.cache xs limit from from (omega arith) f
followed k xs limit from (s ∷ past) rises f =
    subst (λ (l : List Acceptance). Follows (fold after (after k s) past).cache l limit (last_at s.at past))
    (append_assoc xs (acceptance_in s.at s.step) (accepted_in past))
    (followed (after k s) (xs ++ acceptance_in s.at s.step) limit s.at past rises.1 (stepped k.cache xs limit from s.at s.step rises.0 f))

module _ (room numbers : ℕ) (past : List (Stamped Step)) (rises : RisesFrom 0 past) where
  follows : Follows (known room numbers past).cache (accepted_in past) room (last_at 0 past)
  unfolding known
  follows = followed (fresh room numbers) [] room 0 past rises (record { stands = empty_stands room numbers; limit_is = refl; early = omega arith; untils = tt })

  pub cache-stands : StandsFor (known room numbers past).cache (accepted_in past)
  cache-stands = follows.stands

  -- and each of its rows is kept as long as its home's sequence
  pub cache-untils : HaveUntils (known room numbers past).cache
  cache-untils = follows.untils

  module _ (now : ℕ) (home : Address) (all : AllByRecursion (λ s. s.at ≤ now) past) where
    pub early : (known room numbers past).cache.last ≤ now
    early = let e = follows.early in let l = last_early now 0 past (omega arith) all in omega arith

    pub held-answers : option_map (λ a. a.0) (held_of (known room numbers past) now home) ≡ held (accepted_in past) home.0 now
    held-answers = by (standing_at (known room numbers past).cache home.0 now) ∙ look_answers (known room numbers past).cache (accepted_in past) cache-stands now early home.0
      where
        by : (o : Option Row) → option_map (λ (a : Address). a.0) (option_map (λ (r : Row). r.careof) o) ≡ option_map (λ (r : Row). r.careof.0) o
        by None = refl
        by (Some r) = refl

    pub holds-answers : (careof : Address) → holds_for (known room numbers past) now home careof ≡ holds (accepted_in past) home.0 now careof.0
    holds-answers careof = holds_answers (known room numbers past).cache (accepted_in past) cache-stands now early home.0 careof.0

    pub floor-answers : floor_of (known room numbers past) now home ≡ floor (accepted_in past) home.0 now
    floor-answers = floor_answers (known room numbers past).cache (accepted_in past) cache-stands now early home.0

    pub full-answers : is_full_for (known room numbers past) now home ≡ is_full room (accepted_in past) home.0 now
    full-answers = room_answers (known room numbers past).cache (accepted_in past) cache-stands now early home.0 ∙ ap (λ (n : ℕ). is_full n (accepted_in past) home.0 now) follows.limit_is
