use Rattle.std.proofs.Common.{◌≡◌, ◌∙◌, sym, inl, inr, true, false}
use Rattle.mip_rules_correspondent.specs.Calls.{Take, Part}
use Rattle.mip_rules_correspondent.specs.Doing.{transition_of}
use Rattle.mip_rules_correspondent.specs.Taken.{IsUpdateTaken, IsUpdateParted}
use Rattle.mip_rules_correspondent.proofs.Taken.{taken_is, refreshed_none, sent_none, ticked_none}
use Rattle.mip_rules_correspondent.proofs.Parted.{parted_is}
use Rattle.mip_rules_correspondent.proofs.laws.what_is_accepted_was_taken.Goals as goal

pub returns-clause-taken : goal.returns-clause-taken
returns-clause-taken c = λ me k now number shield bytes some.
    let steps = (transition_of me k now (Take number shield bytes)).steps in
    let found = taken_is me k now number shield bytes in
    elim (found.1) as (λ _. IsUpdateTaken me k now number shield bytes steps) [
      | inl none ↦ absurd (let both : true ≡ false = sym some ∙ none in cc)
      | inr is ↦ is
    ]

pub returns-clause-parted : goal.returns-clause-parted
returns-clause-parted c = λ me k now number packet some.
    let steps = (transition_of me k now (Part number packet)).steps in
    let found = parted_is me k now number packet in
    elim (found.1) as (λ _. IsUpdateParted me k now number packet steps) [
      | inl none ↦ absurd (let both : true ≡ false = sym some ∙ none in cc)
      | inr is ↦ is
    ]

pub returns-clause-refreshed : goal.returns-clause-refreshed
returns-clause-refreshed c = λ me k now home. let t = refreshed_none me k now home in t.1

pub returns-clause-sent : goal.returns-clause-sent
returns-clause-sent c = λ me k now to proto payload. let t = sent_none me k now to proto payload in t.1

pub returns-clause-ticked : goal.returns-clause-ticked
returns-clause-ticked c = λ me k now. let t = ticked_none me k now in t.1
