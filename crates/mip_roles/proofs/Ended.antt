-- A mobile's call whose context shows the transition of the call ends with it.
use Rattle.std.proofs.Common.{◌≡◌, ◌≤◌, ℕ, List, [], true, refl, sym, ap, ◌∙◌, arith}
use Rattle.std.specs.Prelude.{Option, Some, None, is_some, Result, Ok, Err, IfOk, OnOk}
use Rattle.mip_words.specs.declared.memory.Memory.{Memory}
use Rattle.mip_entries.specs.declared.answer.Answer.{Answer}
use Rattle.mip_entries.proofs.TransitionLaws.{noted-now}
use Rattle.mip_entries.proofs.ShowLaws.{shows-answers}
use Rattle.mip_rules_mobile.specs.Calls.{Call}
use Rattle.mip_rules_mobile.specs.Steps.{Called, Parts, Notes, Drops, answer_of, answers_of}
use Rattle.mip_rules_mobile.specs.Known.{Known}
use Rattle.mip_rules_mobile.specs.Questions.{after}
use Rattle.mip_rules_mobile.specs.Transitions.{Transition, begun, noted}
use Rattle.mip_rules_mobile.specs.Doing.{handles, does, transition_of}
use Rattle.mip_rules_mobile.proofs.Walks.{every-call}
use Rattle.mip_rules_mobile.proofs.Calls.{call-last}
use Rattle.mip_mobile_calls.specs.Seen.{ContextSeen, Shows}
use Rattle.mip_roles.specs.Roles.{or_same}
use Rattle.mip_mobile_calls.proofs.Noted.{shows-known, shows-moment}

-- the transition of a call is at its moment
pub call-now : (k : Known) (now : ℕ) (c : Call) → (transition_of k now c).now ≡ now
call-now k now c =
    every-call c (λ (t : Transition). t.now ≡ now)
    (λ step t steady fits is. noted-now after step t ∙ is)
    (λ call t is. noted-now after (Parts call) t ∙ is)
    (λ entry t own is. noted-now after (Notes entry) t ∙ is)
    (λ step t ack fits led is. noted-now after step t ∙ is)
    (λ step t move fits is. noted-now after step t ∙ is)
    (λ number why t kind is. noted-now after (Drops number why) t ∙ is)
    (λ t is. noted-now after (Called c) t ∙ is)
    (begun now k) refl

pub ended-answers : (k : Known) (now : ℕ) (c : Call) (d : ContextSeen) (result : Result (List Answer) Memory) → Shows d (transition_of k now c) → IfOk result (λ a. a ≡ d.answers)
    → IfOk result (λ a. a ≡ answers_of (transition_of k now c).steps)
ended-answers k now c d (Ok a) shows is = is ∙ sym (shows-answers answer_of d.moment d.known d.answers (transition_of k now c) shows)
ended-answers k now c d (Err e) shows is = tt

pub ended-known : (k : Known) (now : ℕ) (c : Call) (d new : ContextSeen) (result : Result (List Answer) Memory) → Shows d (transition_of k now c) → OnOk result (new ≡ record d { answers = [] })
    → OnOk result (new.known ≡ (transition_of k now c).known)
ended-known k now c d new (Ok a) shows is = ap (λ (x : ContextSeen). x.known) is ∙ sym (shows-known d (transition_of k now c) shows)
ended-known k now c d new (Err e) shows is = tt

pub ended-calm : (k : Known) (now : ℕ) (c : Call) (d new : ContextSeen) (result : Result (List Answer) Memory) → Shows d (transition_of k now c) → OnOk result (new ≡ record d { answers = [] })
    → OnOk result ((new.moment ≡ now) × (new.known.last.0 ≡ now))
ended-calm k now c d new (Ok a) shows is = (
  ap (λ (x : ContextSeen). x.moment) is ∙ sym (shows-moment d (transition_of k now c) shows) ∙ call-now k now c,
  ap (λ (x : ContextSeen). x.known.last.0) is ∙ ap (λ (l : Known). l.last.0) (sym (shows-known d (transition_of k now c) shows)) ∙ call-last k now c,
)
ended-calm k now c d new (Err e) shows is = tt

-- a call that is something to a mobile, and was handled: its context shows the transition of the call
pub done-shows : {A : Type 0} (old d : ContextSeen) (k : Known) (now : ℕ) (done : Result A Memory) (o : Option Call) → is_some o ≡ true
    → ((c : Call) → Shows old (noted (Called c) (begun now k)))
    → ((t : Transition) → Shows old t → OnOk done (Shows d (or_same t (λ x. handles x t) o)))
    → (x : Call) × (o ≡ Some x) × OnOk done (Shows d (transition_of k now x))
unfolding does
done-shows old d k now done None is begins handled = absurd cc
done-shows old d k now done (Some x) is begins handled = (x, refl, handled (noted (Called x) (begun now k)) (begins x))

pub calm-after : {A : Type 0} (result : Result A Memory) (moment last now : ℕ) → OnOk result ((moment ≡ now) × (last ≡ now)) → OnOk result ((moment ≤ last) × (last ≤ now))
calm-after (Ok a) moment last now is = let m = is.0 in let l = is.1 in (omega arith, omega arith)
calm-after (Err e) moment last now is = tt
