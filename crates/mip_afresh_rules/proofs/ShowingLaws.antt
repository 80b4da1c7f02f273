-- How what a transition shows goes on with its steps.
use Rattle.std.proofs.Common.{◌≡◌, ℕ, Bool, false, List, [], ◌++◌, sym, ap, ◌∙◌}
use Rattle.std.specs.Prelude.{if◌then◌else◌, option_map}
use Rattle.mip_words.specs.declared.address.Address.{Address}
use Rattle.mip_entries.specs.declared.answer.Answer.{Answer}
use Rattle.mip_entries.proofs.TransitionLaws.{noted-now, noted-known}
use Rattle.mip_entries.proofs.ShowLaws.{answers-noted}
use Rattle.mip_bcache.specs.declared.row.Row.{Row}
use Rattle.mip_bcache.specs.Seen.{CacheSeen, standing_at, expired}
use Rattle.mip_rules_correspondent.specs.declared.identity.Identity.{Identity}
use Rattle.mip_rules_correspondent.specs.declared.known.Known.{Known}
use Rattle.mip_rules_correspondent.specs.Calls.{Call, is_tick}
use Rattle.mip_rules_correspondent.specs.Steps.{Step, Called, answer_of, answers_of}
use Rattle.mip_rules_correspondent.specs.Questions.{after, held_of}
use Rattle.mip_rules_correspondent.specs.Transitions.{Transition, begun, noted}
use Rattle.mip_rules_correspondent.specs.Doing.{handles, does, transition_of}
use Rattle.mip_afresh_rules.specs.Showing.{Shown}

-- a step whose answers were appended
pub shown : (step : Step) (now : ℕ) (old new : List Answer) → new ≡ old ++ answer_of step → (t : Transition) → Shown now old t → Shown now new (noted step t)
unfolding Shown
shown step now old new more t s = (
  noted-now after step t ∙ s.0,
  answers-noted answer_of after step t ∙ ap (λ (l : List Answer). l ++ answer_of step) s.1 ∙ sym more,
)

pub shown-now : (now : ℕ) (answers : List Answer) (t : Transition) → Shown now answers t → t.now ≡ now
unfolding Shown
shown-now now answers t s = s.0

pub shown-answers : (now : ℕ) (answers : List Answer) (t : Transition) → Shown now answers t → answers_of t.steps ≡ answers
unfolding Shown
shown-answers now answers t s = s.1

-- a call begins
pub shown_begun : (c : Call) (now : ℕ) (k : Known) (answers : List Answer) → answers ≡ [] → Shown now answers (noted (Called c) (begun now k))
unfolding Shown
shown_begun c now k answers none = (noted-now after (Called c) (begun now k), answers-noted answer_of after (Called c) (begun now k) ∙ sym none)

-- and leaves the cache as it is
pub called-cache : (c : Call) (now : ℕ) (k : Known) → is_tick c ≡ false → (noted (Called c) (begun now k)).known.cache ≡ k.cache
unfolding after
called-cache c now k other =
    ap (λ (l : Known). l.cache) (noted-known after (Called c) (begun now k))
    ∙ ap (λ (tick : Bool). if tick then expired now k.cache else k.cache) other

-- a call that is not for the passing of time has the answers that its rule leads to
pub ended : (me : Identity) (k : Known) (now : ℕ) (c : Call) (none answers : List Answer) → is_tick c ≡ false → none ≡ []
    → ((t : Transition) → t.known.cache ≡ k.cache → Shown now none t → Shown now answers (handles me c t)) → answers ≡ answers_of (transition_of me k now c).steps
unfolding does
ended me k now c none answers other empty rule =
    let t : Transition = noted (Called c) (begun now k) in
    sym (shown-answers now answers (handles me c t) (rule t (called-cache c now k other) (shown_begun c now k none empty)))

-- what is held as the call goes on is what was held before it
pub held-here : (k : Known) (now : ℕ) (home : Address) (answers : List Answer) (t : Transition) → t.known.cache ≡ k.cache → Shown now answers t → held_of k now home ≡ held_of t.known t.now home
held-here k now home answers t same shows =
    ap (λ (cache : CacheSeen). option_map (λ (r : Row). r.careof) (standing_at cache home.0 now)) (sym same)
    ∙ ap (λ (n : ℕ). held_of t.known n home) (sym (shown-now now answers t shows))
