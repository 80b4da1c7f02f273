-- How what a transition shows goes on with its steps.
use Rattle.std.proofs.Common.{◌≡◌, ℕ, List, [], ◌++◌, Bool, false, sym, ap, subst}
use Rattle.std.specs.Prelude.{if◌then◌else◌}
use Rattle.mip_entries.specs.declared.answer.Answer.{Answer}
use Rattle.mip_bcache.specs.Seen.{CacheSeen, expired}
use Rattle.mip_entries.proofs.ShowLaws as laws
use Rattle.mip_rules_correspondent.specs.declared.known.Known.{Known}
use Rattle.mip_rules_correspondent.specs.Calls.{Call, is_tick}
use Rattle.mip_rules_correspondent.specs.Steps.{Step, Called, answer_of, answers_of, is_call}
use Rattle.mip_rules_correspondent.specs.Questions.{cache_after, after}
use Rattle.mip_rules_correspondent.specs.Transitions.{Transition, begun, noted}
use Rattle.mip_correspondent.specs.Showing.{left, Shows}

-- a step that is no call, where its answer was appended
pub shown : (step : Step) (now : ℕ) (cache : CacheSeen) (answers more : List Answer) (t : Transition) → is_call step ≡ false → more ≡ answers ++ answer_of step → Shows now cache answers t → Shows now (cache_after cache now step) more (noted step t)
unfolding after
shown step now cache answers more t quiet e s =
    subst (λ (l : List Answer). Shows now (cache_after cache now step) l (noted step t)) (sym e)
    (laws.shows-same answer_of now _ (left now (cache_after cache now step)) _ (noted step t)
    (ap (λ (call : Bool). record { last = if call then record { 0 = now } else record { 0 = now }; cache = cache_after cache now step }) quiet)
    (laws.shows-noted answer_of after step now (left now cache) answers t s))

-- a call begins that is not for the passing of time
pub shows_begun : (c : Call) (now : ℕ) (k : Known) → is_tick c ≡ false → Shows now k.cache [] (noted (Called c) (begun now k))
unfolding after
shows_begun c now k other =
    laws.shows-same answer_of now _ (left now k.cache) _ (noted (Called c) (begun now k))
    (ap (λ (tick : Bool). record { last = record { 0 = now }; cache = if tick then expired now k.cache else k.cache }) other)
    (laws.shows-noted answer_of after (Called c) now k [] (begun now k) (laws.shows-begun answer_of now k))

-- what it shows is said of the moment and of what is known then
pub shows-now : (now : ℕ) (cache : CacheSeen) (answers : List Answer) (t : Transition) → Shows now cache answers t → t.now ≡ now
shows-now now cache answers t s = laws.shows-now answer_of now (left now cache) answers t s

pub shows-known : (now : ℕ) (cache : CacheSeen) (answers : List Answer) (t : Transition) → Shows now cache answers t → t.known ≡ left now cache
shows-known now cache answers t s = laws.shows-known answer_of now (left now cache) answers t s

pub shows-answers : (now : ℕ) (cache : CacheSeen) (answers : List Answer) (t : Transition) → Shows now cache answers t → answers_of t.steps ≡ answers
shows-answers now cache answers t s = laws.shows-answers answer_of now (left now cache) answers t s
