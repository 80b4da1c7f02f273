-- A packet that a mobile drops, and an update that it denies, changes none of its tables.
use Rattle.std.proofs.Common.{◌≡◌, ℕ, List, [], ◌∷◌, Bool, true, false, refl, sym, ap, ◌∙◌, subst}
use Rattle.std.specs.Prelude.{Option, ◌||◌}
use Rattle.std.specs.List.{list_any}
use Rattle.std.proofs.lemmas.List.Folds.{list_any-append}
use Rattle.mip_words.specs.declared.shield.Shield.{Shield}
use Rattle.mip_outside.specs.declared.put.Put.{Put}
use Rattle.mip_outside.specs.declared.put.Put.TheVariants.{Sent, NoRoute, Oversize}
use Rattle.mip_entries.specs.declared.answer.Answer.{Answer}
use Rattle.mip_entries.specs.declared.answer.Answer.TheVariants.{Send, Note}
use Rattle.mip_rules_mobile.specs.Calls.{Call, Take}
use Rattle.mip_rules_mobile.specs.Steps.{Step, Notes, answer_of, answers_of}
use Rattle.mip_rules_mobile.specs.Known.{Known}
use Rattle.mip_rules_mobile.specs.Doing.{transition_of}
use Rattle.mip_rules_mobile.specs.Refusing.{is_refusal, tells_of_refusal, refuses, tables_of}
use Rattle.mip_rules_mobile.proofs.Refusals.{refused-keeps}
use Rattle.mip_transmission.specs.Putting.{after_put, Puts, PutsAll}

-- what the wire makes of a packet refuses nothing
refuses-put : (put : Put) (shield : Option Shield) (packet : List ℕ) → refuses (after_put put shield packet) ≡ refuses (Send shield packet)
refuses-put Sent shield packet = refl
refuses-put NoRoute shield packet = refl
refuses-put Oversize shield packet = refl

refuses-one : (gives : Put → Bool) (a b : Answer) → Puts gives a b → refuses b ≡ refuses a
refuses-one gives (Note entry) b is = ap refuses is
refuses-one gives (Send shield packet) b is = ap refuses is.2 ∙ refuses-put is.0 shield packet

refuses-all : (gives : Put → Bool) (asked bs : List Answer) → PutsAll gives asked bs → list_any refuses bs ≡ list_any refuses asked
refuses-all gives [] [] all = refl
refuses-all gives [] (b ∷ bs) all = absurd all
refuses-all gives (a ∷ asked) [] all = absurd all
refuses-all gives (a ∷ asked) (b ∷ bs) all =
    ap (λ (c : Bool). c || list_any refuses bs) (refuses-one gives a b all.0) ∙ ap (λ (c : Bool). refuses a || c) (refuses-all gives asked bs all.1)

-- a step that refuses is told
tells-or : (b : Bool) → (b || false) ≡ b
tells-or true = refl
tells-or false = refl

step-refuses : (step : Step) → list_any refuses (answer_of step) ≡ is_refusal step
step-refuses (Notes entry) = tells-or (tells_of_refusal entry)
step-refuses _ = refl

steps-refuse : (steps : List Step) → list_any refuses (answers_of steps) ≡ list_any is_refusal steps
steps-refuse [] = refl
steps-refuse (step ∷ steps) =
    list_any-append refuses (answer_of step) (answers_of steps)
    ∙ ap (λ (c : Bool). c || list_any refuses (answers_of steps)) (step-refuses step)
    ∙ ap (λ (c : Bool). is_refusal step || c) (steps-refuse steps)

pub refused-call : (gives : Put → Bool) (k : Known) (now : ℕ) (call : Call) (answers : List Answer) → PutsAll gives (answers_of (transition_of k now call).steps) answers
    → (number : ℕ) (shield : Option Shield) (packet : List ℕ) → call ≡ Take number shield packet → list_any refuses answers ≡ true → tables_of (transition_of k now call).known ≡ tables_of k
refused-call gives k now call answers all number shield packet is some =
    let own : List Step = (transition_of k now call).steps in
    let told : list_any is_refusal own ≡ true = sym (steps-refuse own) ∙ sym (refuses-all gives (answers_of own) answers all) ∙ some in
    subst (λ (c : Call). list_any is_refusal (transition_of k now c).steps ≡ true → tables_of (transition_of k now c).known ≡ tables_of k) (sym is) (refused-keeps k now number shield packet) told
