-- The correspondent part of a mobile is what its past since the last restart leaves known.
use Rattle.std.proofs.Common.{◌≡◌, ℕ, List, [], ◌∷◌, refl, ap, ◌∙◌}
use Rattle.std.specs.Prelude.{fold, Option}
use Rattle.mip_words.specs.declared.address.Address.{Address}
use Rattle.mip_nonce.specs.Secrets.{Life}
use Rattle.mip_entries.specs.Stamped.{Stamped}
use Rattle.mip_rules_correspondent.specs.declared.known.Known as kept
use Rattle.mip_rules_correspondent.specs.Calls as parts
use Rattle.mip_rules_correspondent.specs.Transitions.{with_transition}
use Rattle.mip_rules_correspondent.specs.Questions as part_questions
use Rattle.mip_rules_correspondent.specs.Seen.{CorrespondentSeen, transition_at}
use Rattle.mip_rules_correspondent.proofs.Pasts as part_pasts
use Rattle.mip_rules_correspondent.proofs.Calls as part_calls
use Rattle.mip_rules_mobile.specs.Steps.{Step, Parts, Restarts}
use Rattle.mip_rules_mobile.specs.Known.{Known}
use Rattle.mip_rules_mobile.specs.HomeQuestions.{home_of, numbers_of}
use Rattle.mip_rules_mobile.specs.Questions.{part_room, part_after, after, fresh, known}
use Rattle.mip_rules_mobile.specs.PartLaws.{PartLife, part_of, part_goes_on, new_part, part_life}

-- a transition of the part leaves known what its past with the transition does
transition_known : (home : Address) (numbers : ℕ) (p : PartLife) (at : ℕ) (call : parts.Call)
    → (transition_at (part_of home numbers p) at call).known ≡ part_questions.known part_room numbers (with_transition p.past (transition_at (part_of home numbers p) at call))
transition_known home numbers p at call =
    let c = part_of home numbers p in
    part_pasts.stands-known part_room numbers (with_transition p.past (transition_at c at call)) (transition_at c at call).known
    (part_calls.call-stands part_room numbers p.past c.known at c.identity call (part_pasts.known-stands part_room numbers p.past c.known refl))

fresh_known : (numbers : ℕ) → part_questions.fresh part_room numbers ≡ part_questions.known part_room numbers []
unfolding part_questions.known
fresh_known numbers = refl

step_is : (home : Address) (numbers : ℕ) (p : PartLife) (at : ℕ) (step : Step) → part_after (part_of home numbers p) at step ≡ part_of home numbers (part_goes_on home numbers p at step)
step_is home numbers p at (Parts call) =
    ap (λ (k : kept.Known). let c : CorrespondentSeen = record { identity = record { own = home; secrets = p.secrets; room = part_room }; known = k } in c) (transition_known home numbers p at call)
step_is home numbers p at (Restarts secrets) =
    ap (λ (k : kept.Known). let c : CorrespondentSeen = record { identity = record { own = home; secrets = secrets; room = part_room }; known = k } in c)
    (ap (part_questions.fresh part_room) (part_pasts.known-numbers part_room numbers p.past) ∙ fresh_known numbers)
step_is home numbers p at _ = refl

after_part : (k : Known) (s : Stamped Step) → (let l : Known = after k s in l.part) ≡ part_after k.part s.at s.step
unfolding after
after_part k s = refl

lives_on : (home : Address) (numbers : ℕ) (k : Known) (p : PartLife) (past : List (Stamped Step)) → k.part ≡ part_of home numbers p
    → (fold after k past).part ≡ part_of home numbers (fold (λ (q : PartLife) (s : Stamped Step). part_goes_on home numbers q s.at s.step) p past)
lives_on home numbers k p [] is = is
lives_on home numbers k p (s ∷ past) is =
    lives_on home numbers (after k s) (part_goes_on home numbers p s.at s.step) past
    (after_part k s ∙ ap (λ (c : CorrespondentSeen). part_after c s.at s.step) is ∙ step_is home numbers p s.at s.step)

pub part_is : (home : Address) (declared : Option Address) (numbers : ℕ) (secrets : Life) (past : List (Stamped Step)) → (known home declared numbers secrets past).part ≡ part_of home numbers (part_life home numbers secrets past)
unfolding known part_life
part_is home declared numbers secrets past =
    lives_on home numbers (fresh home declared numbers secrets) (new_part secrets) past
    (ap (λ (k : kept.Known). let c : CorrespondentSeen = record { identity = record { own = home; secrets = secrets; room = part_room }; known = k } in c) (fresh_known numbers))

-- the part of a mobile with this home address and so many numbers
abbrev pub HasPart : (home : Address) (numbers : ℕ) → Known → Type 0
HasPart home numbers k = (p : PartLife) × (k.part ≡ part_of home numbers p)

pub part-kept : (home : Address) (numbers : ℕ) (k : Known) (s : Stamped Step) → HasPart home numbers k → HasPart home numbers (after k s)
part-kept home numbers k s is =
    (part_goes_on home numbers is.0 s.at s.step, after_part k s ∙ ap (λ (c : CorrespondentSeen). part_after c s.at s.step) is.1 ∙ step_is home numbers is.0 s.at s.step)

pub fresh-part : (home : Address) (declared : Option Address) (numbers : ℕ) (secrets : Life) → HasPart home numbers (fresh home declared numbers secrets)
fresh-part home declared numbers secrets =
    (new_part secrets, ap (λ (k : kept.Known). let c : CorrespondentSeen = record { identity = record { own = home; secrets = secrets; room = part_room }; known = k } in c) (fresh_known numbers))

pub part-numbers : (home : Address) (numbers : ℕ) (k : Known) → HasPart home numbers k → numbers_of k ≡ numbers
part-numbers home numbers k is = ap (λ (c : CorrespondentSeen). c.known.cache.numbers) is.1 ∙ part_pasts.known-numbers part_room numbers is.0.past

pub part-home : (home : Address) (numbers : ℕ) (k : Known) → HasPart home numbers k → home_of k ≡ home
part-home home numbers k is = ap (λ (c : CorrespondentSeen). c.identity.own) is.1
