-- What a call gives out is whole.
use Rattle.std.proofs.Common.{ℕ, List, [], ◌∷◌, ◌++◌, refl, sym, subst}
use Rattle.std.specs.List.{AllByRecursion}
use Rattle.mip_entries.specs.declared.answer.Answer.{Answer}
use Rattle.mip_entries.proofs.ShowLaws.{answers-noted}
use Rattle.mip_rules_agent.specs.declared.identity.Identity.{Identity}
use Rattle.mip_rules_agent.specs.Known.{Known}
use Rattle.mip_rules_agent.specs.Calls.{Call}
use Rattle.mip_rules_agent.specs.CallsLaws.{bytes_of}
use Rattle.mip_rules_agent.specs.Steps.{Step, Called, Sends, Registers, Claims, Releases, Denies, Drops, Rang, answer_of, answers_of}
use Rattle.mip_rules_agent.specs.Questions.{after}
use Rattle.mip_rules_agent.specs.Transitions.{Transition, begun, noted}
use Rattle.mip_rules_agent.specs.Doing.{transition_of}
use Rattle.mip_rules_agent.specs.Sendings.{SendsOwn}
use Rattle.mip_rules_agent.specs.Wholes.{IsWhole, is_own}
use Rattle.mip_rules_agent.proofs.Wholes.{sending-long}
use Rattle.mip_rules_agent.proofs.Walks.{every-call}

abbrev AreWhole : List Answer → Type 0
AreWhole answers = AllByRecursion (IsWhole is_own) answers

whole-append : (xs ys : List Answer) → AreWhole xs → AreWhole ys → AreWhole (xs ++ ys)
whole-append [] ys first second = second
whole-append (x ∷ xs) ys first second = (first.0, whole-append xs ys first.1 second)

whole-step : (me : Identity) (bytes : List ℕ) (step : Step) → SendsOwn me bytes step → AreWhole (answer_of step)
whole-step me bytes (Called call) own = tt
whole-step me bytes (Sends shield packet) own = (sending-long me bytes own.0 shield packet own.1, tt)
whole-step me bytes (Registers number home binding) own = (refl, tt)
whole-step me bytes (Claims home) own = (refl, tt)
whole-step me bytes (Releases home) own = (refl, tt)
whole-step me bytes (Denies number status) own = (refl, tt)
whole-step me bytes (Drops number why) own = (own, tt)
whole-step me bytes Rang own = tt

-- the answers so far are whole
abbrev GivesWhole : Transition → Type 0
GivesWhole t = AreWhole (answers_of t.steps)

whole-noted : (me : Identity) (bytes : List ℕ) (step : Step) (t : Transition) → SendsOwn me bytes step → GivesWhole t → GivesWhole (noted step t)
whole-noted me bytes step t own whole =
    subst AreWhole (sym (answers-noted answer_of after step t)) (whole-append (answers_of t.steps) (answer_of step) whole (whole-step me bytes step own))

pub call-whole : (me : Identity) (k : Known) (now : ℕ) (c : Call) → GivesWhole (transition_of me k now c)
call-whole me k now c =
    every-call me GivesWhole c (λ step t silent own whole. whole-noted me (bytes_of c) step t own whole)
    (λ t whole. whole-noted me (bytes_of c) (Called c) t tt whole) (begun now k) tt
