-- What a transition shows, and what it leaves in the binding cache.
use Rattle.std.specs.Prelude.{◌≡◌, ◌≢◌, ◌<◌, ℕ, List, true, false, Option, Some, None, IfSome, Result, IfOk, OnOk}
use Rattle.mip_words.specs.Addresses.{is_routable}
use Rattle.mip_entries.specs.declared.answer.Answer.{Answer}
use Rattle.mip_entries.specs.Shows.{ShowsBy}
use Rattle.mip_bcache.specs.Seen.{CacheSeen, with_acceptance, has_no_room}
use Rattle.mip_rules_correspondent.specs.declared.known.Known.{Known}
use Rattle.mip_rules_correspondent.specs.declared.verdict.Verdict.{Verdict}
use Rattle.mip_rules_correspondent.specs.declared.verdict.Verdict.TheVariants.{Refuse, Deny, Accept}
use Rattle.mip_rules_correspondent.specs.Steps.{answer_of}
use Rattle.mip_rules_correspondent.specs.Transitions.{Transition}
use Rattle.mip_correspondent.specs.declared.accepted_binding.AcceptedBinding.{AcceptedBinding}

-- what is known after a call at a moment, which left this cache
abbrev pub left : ℕ → CacheSeen → Known
left now cache = record { last = record { 0 = now }; cache = cache }

-- a transition at a moment: the last call is of then, this cache is left, and these are the answers
abbrev pub Shows : (now : ℕ) (cache : CacheSeen) (answers : List Answer) → Transition → Type 0
Shows now cache answers t = ShowsBy answer_of now (left now cache) answers t

-- a cache with an accepted update, if there is one
abbrev pub with_kept : ℕ → Option AcceptedBinding → CacheSeen → CacheSeen
with_kept now None cache = cache
with_kept now (Some k) cache = with_acceptance now k.home k.number k.accepted cache

-- a rule that changes nothing but the answers
abbrev pub Goes : {R E : Type 0} → (now : ℕ) → Result R E → (Transition → Transition) → (old new : List Answer) → Type 0
Goes now result rule old new =
    (cache : CacheSeen) (t : Transition) → Shows now cache old t → OnOk result (Shows now cache new (rule t))

-- a rule that keeps an accepted update besides
abbrev pub Keeps : {R E : Type 0} → (now : ℕ) → AcceptedBinding → Result R E → (Transition → Transition) → (old new : List Answer) → Type 0
Keeps now k result rule old new =
    (cache : CacheSeen) (t : Transition) → Shows now cache old t → OnOk result (Shows now (with_acceptance now k.home k.number k.accepted cache) new (rule t))

-- a rule that may accept an update, which it gives
abbrev pub Leads : {E : Type 0} → (now : ℕ) → CacheSeen → Result (Option AcceptedBinding) E → (Transition → Transition) → (old new : List Answer) → Type 0
Leads now cache result rule old new =
    (t : Transition) → Shows now cache old t → IfOk result (λ kept. Shows now (with_kept now kept cache) new (rule t))

-- what a verdict accepts
abbrev pub kept_of : Verdict → Option AcceptedBinding
kept_of (Refuse why) = None
kept_of (Deny status last kbm) = None
kept_of (Accept home number accepted granted kbm) = Some (record { home = home; number = number; accepted = accepted })

-- there is room for an accepted update, its home may stand in a routing header, and its number is one of the cache's, or
-- 0; it is 0 where the update registers the home address
pub record IsFitting (now : ℕ) (cache : CacheSeen) (k : AcceptedBinding) : Type 0 where
  pub room : has_no_room cache k.home.0 now ≡ false
  pub routable : is_routable k.home.0 ≡ true
  pub number : k.number ≢ 0 → k.number < cache.numbers
  pub deletion : k.accepted.careof.0 ≡ k.home.0 → k.number ≡ 0

abbrev pub Fits : ℕ → CacheSeen → Option AcceptedBinding → Type 0
Fits now cache kept = IfSome kept (IsFitting now cache)
