-- What a call gives out is whole.
use Rattle.std.proofs.Common.{ℕ, List, [], ◌∷◌, ◌++◌, refl, sym, subst}
use Rattle.std.specs.List.{AllByRecursion}
use Rattle.mip_entries.specs.declared.answer.Answer.{Answer}
use Rattle.mip_entries.proofs.ShowLaws.{answers-noted}
use Rattle.mip_rules_correspondent.specs.declared.identity.Identity.{Identity}
use Rattle.mip_rules_correspondent.specs.declared.known.Known.{Known}
use Rattle.mip_rules_correspondent.specs.Calls.{Call}
use Rattle.mip_rules_correspondent.specs.Steps.{Step, Called, Sends, Accepts, Denies, Drops, HandsUp, Idles, answer_of, answers_of}
use Rattle.mip_rules_correspondent.specs.Questions.{after}
use Rattle.mip_rules_correspondent.specs.Transitions.{Transition, begun, noted}
use Rattle.mip_rules_correspondent.specs.Doing.{transition_of}
use Rattle.mip_rules_correspondent.specs.Sendings.{SendsOwn}
use Rattle.mip_rules_correspondent.specs.Wholes.{IsWhole, is_own}
use Rattle.mip_rules_correspondent.proofs.Wholes.{sending-long}
use Rattle.mip_rules_correspondent.proofs.Walks.{every-call}

abbrev AreWhole : List Answer → Type 0
AreWhole answers = AllByRecursion (IsWhole is_own) answers

whole-append : (xs ys : List Answer) → AreWhole xs → AreWhole ys → AreWhole (xs ++ ys)
whole-append [] ys first second = second
whole-append (x ∷ xs) ys first second = (first.0, whole-append xs ys first.1 second)

whole-step : (me : Identity) (call : Call) (now : ℕ) (step : Step) → SendsOwn me call now step → AreWhole (answer_of step)
whole-step me c now (Called call) own = tt
whole-step me c now (Sends packet) own = (sending-long me c now own.0 packet own.1, tt)
whole-step me c now (Accepts number home binding accepted) own = (refl, tt)
whole-step me c now (Denies number status) own = (refl, tt)
whole-step me c now (Drops number why) own = (own, tt)
whole-step me c now (HandsUp number source destination proto payload) own = (refl, tt)
whole-step me c now Idles own = (refl, tt)

-- the answers so far are whole
abbrev GivesWhole : Transition → Type 0
GivesWhole t = AreWhole (answers_of t.steps)

whole-noted : (me : Identity) (c : Call) (step : Step) (t : Transition) → SendsOwn me c t.now step → GivesWhole t → GivesWhole (noted step t)
whole-noted me c step t own whole =
    subst AreWhole (sym (answers-noted answer_of after step t)) (whole-append (answers_of t.steps) (answer_of step) whole (whole-step me c t.now step own))

pub call-whole : (me : Identity) (k : Known) (now : ℕ) (c : Call) → GivesWhole (transition_of me k now c)
call-whole me k now c =
    every-call me c GivesWhole (λ step t silent own whole. whole-noted me c step t own whole) (λ t whole. whole-noted me c (Called c) t tt whole) (begun now k) tt
