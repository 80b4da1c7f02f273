-- A transition in which no update is accepted leaves the binding cache as it was.
use Rattle.std.proofs.Common.{◌≡◌, ℕ, List, [], ◌∷◌, inl, inr, true, refl, sym, ap, ◌∙◌}
use Rattle.std.specs.Prelude.{Bool, false, Option, ◌||◌, if◌then◌else◌}
use Rattle.std.specs.List.{list_any}
use Rattle.std.proofs.lemmas.List.Folds.{list_any-append}
use Rattle.mip_words.specs.declared.shield.Shield.{Shield}
use Rattle.mip_ipv6.specs.Packet.{Packet}
use Rattle.mip_reception.specs.Refusing.{refuses}
use Rattle.mip_bcache.specs.Seen.{CacheSeen, expired}
use Rattle.mip_entries.proofs.TransitionLaws.{noted-known, none-parts}
use Rattle.mip_rules_correspondent.specs.declared.identity.Identity.{Identity}
use Rattle.mip_rules_correspondent.specs.declared.known.Known.{Known}
use Rattle.mip_rules_correspondent.specs.Calls.{Call, Take, Part, is_tick}
use Rattle.mip_rules_correspondent.specs.Steps.{Step, Called, Sends, Accepts, answer_of, answers_of, is_call}
use Rattle.mip_rules_correspondent.specs.StepsLaws.{is_acceptance}
use Rattle.mip_rules_correspondent.specs.Questions.{cache_after, after}
use Rattle.mip_rules_correspondent.specs.Transitions.{Transition, begun, noted}
use Rattle.mip_rules_correspondent.specs.Doing.{does, transition_of}
use Rattle.mip_rules_correspondent.specs.Refusing.{is_refusal}
use Rattle.mip_rules_correspondent.specs.StepsLaws.{hands_over}
use Rattle.mip_rules_correspondent.proofs.Taken.{taken_is}
use Rattle.mip_rules_correspondent.proofs.Parted.{parted_is}
use Rattle.mip_rules_correspondent.proofs.Walks.{every-handles}

-- unless an update is accepted on the way from one transition to another, the cache is the same
abbrev pub Keeps : Transition → Transition → Type 0
Keeps t u = list_any is_acceptance u.steps ≡ false → u.known.cache ≡ t.known.cache

-- only an acceptance and a call for the passing of time change the cache
same-cache : (step : Step) (cache : CacheSeen) (at : ℕ) → is_call step ≡ false → is_acceptance step ≡ false → cache_after cache at step ≡ cache
same-cache (Called call) cache at silent none = absurd cc
same-cache (Sends packet) cache at silent none = refl
same-cache (Accepts number home binding accepted) cache at silent none = absurd cc
same-cache _ cache at silent none = refl

-- the cache behind a step
cache-noted : (step : Step) (t : Transition) → (noted step t).known.cache ≡ cache_after t.known.cache t.now step
unfolding after
cache-noted step t = ap (λ (k : Known). k.cache) (noted-known after step t)

keeps-noted : (t : Transition) (step : Step) (u : Transition) → (is_acceptance step ≡ false → cache_after u.known.cache u.now step ≡ u.known.cache) → Keeps t u → Keeps t (noted step u)
keeps-noted t step u same keeps none =
    let both = none-parts after is_acceptance step u none in
    cache-noted step u ∙ same both.1 ∙ keeps both.0

-- of a call that is not for the passing of time
pub keeps-call : (me : Identity) (c : Call) (t : Transition) → is_tick c ≡ false → Keeps t (does me c t)
unfolding does
keeps-call me c t other =
    every-handles me c (Keeps t) (λ step u silent own keeps. keeps-noted t step u (λ none. same-cache step u.known.cache u.now silent none) keeps) c refl (noted (Called c) t)
    (keeps-noted t (Called c) t (λ none. ap (λ (b : Bool). if b then expired t.now t.known.cache else t.known.cache) other) (λ none. refl))

-- a refusal is told, and nothing else tells of one
step-refuses : (step : Step) → list_any refuses (answer_of step) ≡ is_refusal step
step-refuses (Called call) = refl
step-refuses _ = refl

pub steps-refuse : (steps : List Step) → list_any refuses (answers_of steps) ≡ list_any is_refusal steps
steps-refuse [] = refl
steps-refuse (step ∷ steps) =
    list_any-append refuses (answer_of step) (answers_of steps)
    ∙ ap (λ (c : Bool). c || list_any refuses (answers_of steps)) (step-refuses step)
    ∙ ap (λ (c : Bool). is_refusal step || c) (steps-refuse steps)

-- where an update is accepted nothing is refused
none-accepted : (steps rest : List Step) (call : Call) (accepts : Step) → is_refusal accepts ≡ false → steps ≡ Called call ∷ accepts ∷ rest → list_any is_refusal rest ≡ false
    → list_any is_refusal steps ≡ true → list_any is_acceptance steps ≡ false
none-accepted steps rest call accepts silent is kept some =
    absurd (let none : list_any is_refusal steps ≡ false = ap (list_any is_refusal) is ∙ ap (λ (c : Bool). c || list_any is_refusal rest) silent ∙ kept in let both : true ≡ false = sym some ∙ none in cc)

refused-take : (me : Identity) (k : Known) (now number : ℕ) (shield : Option Shield) (bytes : List ℕ) → list_any is_refusal (transition_of me k now (Take number shield bytes)).steps ≡ true
    → list_any is_acceptance (transition_of me k now (Take number shield bytes)).steps ≡ false
refused-take me k now number shield bytes some =
    elim (taken_is me k now number shield bytes).1 as (λ _. list_any is_acceptance (transition_of me k now (Take number shield bytes)).steps ≡ false) [
      | inl none ↦ none
      | inr is ↦ none-accepted (transition_of me k now (Take number shield bytes)).steps is.rest _ _ refl is.steps_are is.kept some
    ]

refused-part : (me : Identity) (k : Known) (now number : ℕ) (p : Packet) → list_any is_refusal (transition_of me k now (Part number p)).steps ≡ true
    → list_any is_acceptance (transition_of me k now (Part number p)).steps ≡ false
refused-part me k now number p some =
    elim (parted_is me k now number p).1 as (λ _. list_any is_acceptance (transition_of me k now (Part number p)).steps ≡ false) [
      | inl none ↦ none
      | inr is ↦ none-accepted (transition_of me k now (Part number p)).steps is.rest _ _ refl is.steps_are is.kept some
    ]

-- a packet that is dropped, and one whose update is denied, leaves the cache as it was
pub refused-keeps : (me : Identity) (k : Known) (now : ℕ) (c : Call) → hands_over c ≡ true → list_any is_refusal (transition_of me k now c).steps ≡ true → (transition_of me k now c).known.cache ≡ k.cache
refused-keeps me k now (Take number shield bytes) over some = keeps-call me (Take number shield bytes) (begun now k) refl (refused-take me k now number shield bytes some)
refused-keeps me k now (Part number p) over some = keeps-call me (Part number p) (begun now k) refl (refused-part me k now number p some)
refused-keeps me k now other over some = absurd cc

-- so does a call whose answers tell of a refusal
pub refused-call : (me : Identity) (k : Known) (now : ℕ) (c : Call) → hands_over c ≡ true → list_any refuses (answers_of (transition_of me k now c).steps) ≡ true → (transition_of me k now c).known.cache ≡ k.cache
refused-call me k now c over some = refused-keeps me k now c over (sym (steps-refuse (transition_of me k now c).steps) ∙ some)
