-- What the correspondent part of a mobile answers: packets that a correspondent sends, and entries of a correspondent.
use Rattle.std.proofs.Common.{◌≡◌, ℕ, List, [], ◌∷◌, ◌++◌, true, refl}
use Rattle.std.specs.List.{AllByRecursion}
use Rattle.mip_entries.specs.declared.answer.Answer.{Answer}
use Rattle.mip_entries.specs.declared.answer.Answer.TheVariants.{Send, Note}
use Rattle.mip_rules_correspondent.specs.declared.identity.Identity.{Identity}
use Rattle.mip_rules_correspondent.specs.declared.known.Known as kept
use Rattle.mip_rules_correspondent.specs.Calls as parts
use Rattle.mip_rules_correspondent.specs.Steps.{Step, Called, Sends, Accepts, Denies, Drops, HandsUp, Idles, answer_of, answers_of}
use Rattle.mip_rules_correspondent.specs.Doing.{transition_of}
use Rattle.mip_rules_correspondent.specs.Sendings.{SendsOwn}
use Rattle.mip_rules_correspondent.specs.Wholes.{is_own}
use Rattle.mip_rules_correspondent.proofs.Sendings.{call-own}
use Rattle.mip_rules_mobile.specs.Calls.{Call}
use Rattle.mip_rules_mobile.specs.Fitting.{IsAsked, IsOfPart}

abbrev pub IsPartAnswer : Call → Identity → ℕ → Answer → Type 0
IsPartAnswer c me now (Send shield packet) = IsOfPart c me now packet
IsPartAnswer c me now (Note entry) = is_own entry ≡ true

module _ (c : Call) (me : Identity) (now : ℕ) where
  all-append : (xs ys : List Answer) → AllByRecursion (IsPartAnswer c me now) xs → AllByRecursion (IsPartAnswer c me now) ys → AllByRecursion (IsPartAnswer c me now) (xs ++ ys)
  all-append [] ys first second = second
  all-append (x ∷ xs) ys first second = (first.0, all-append xs ys first.1 second)

  module _ (call : parts.Call) (asked : IsAsked c call) where
    step-part : (step : Step) → SendsOwn me call now step → AllByRecursion (IsPartAnswer c me now) (answer_of step)
    step-part (Called other) own = tt
    step-part (Sends packet) own = (record { call = call; asked = asked; sending = own.0; is = own.1 }, tt)
    step-part (Accepts number home binding accepted) own = (refl, tt)
    step-part (Denies number status) own = (refl, tt)
    step-part (Drops number why) own = (own, tt)
    step-part (HandsUp number source destination proto payload) own = (refl, tt)
    step-part Idles own = (refl, tt)

    steps-part : (steps : List Step) → AllByRecursion (SendsOwn me call now) steps → AllByRecursion (IsPartAnswer c me now) (answers_of steps)
    steps-part [] all = tt
    steps-part (step ∷ steps) all = all-append (answer_of step) (answers_of steps) (step-part step all.0) (steps-part steps all.1)

pub part-answers : (c : Call) (me : Identity) (k : kept.Known) (now : ℕ) (call : parts.Call) → IsAsked c call → AllByRecursion (IsPartAnswer c me now) (answers_of (transition_of me k now call).steps)
part-answers c me k now call asked = steps-part c me now call asked (transition_of me k now call).steps (call-own me k now call)
