-- A claim that a call does not need may have any answer.
use Rattle.std.proofs.Common.{◌≡◌, ℕ, Bool, true, false, refl, sym, ap, ◌∙◌}
use Rattle.std.specs.Prelude.{if◌then◌else◌}
use Rattle.mip_words.specs.declared.address.Address.{Address}
use Rattle.mip_outside.specs.declared.claim.Claim.{Claim}
use Rattle.mip_outside.specs.Places.{Around, claim_in}
use Rattle.mip_rules_mobile.specs.declared.attachment.Attachment.{Attachment}
use Rattle.mip_rules_mobile.specs.declared.attachment.Attachment.TheVariants.{Detached, AtHome, Away}
use Rattle.mip_rules_mobile.specs.Calls as calls
use Rattle.mip_rules_mobile.specs.Steps.{Detaches, Called}
use Rattle.mip_rules_mobile.specs.Known.{Known}
use Rattle.mip_rules_mobile.specs.HomeQuestions.{home_of}
use Rattle.mip_rules_mobile.specs.Questions.{after}
use Rattle.mip_rules_mobile.specs.Transitions.{Transition, begun, noted}
use Rattle.mip_rules_mobile.specs.TrialRules.{each_row}
use Rattle.mip_rules_mobile.specs.MovingRules.{releases, unbinds, leaves, leaves_first, arrives, attaches, uses_prefix, address_under}
use Rattle.mip_rules_mobile.specs.Doing.{handles, does, transition_of}
use Rattle.mip_entries.proofs.TransitionLaws.{noted-known}
use Rattle.mip_mobile.specs.Placing.{attach_at, leave_at, AreAnswered}

leaves-fit : (h other : Claim) (t : Transition) → (t.known.standing ≡ AtHome → h ≡ other) → leaves h t ≡ leaves other t
unfolding leaves
leaves-fit h other t fit = ap (λ (u : Transition). noted Detaches (each_row unbinds u)) (by t.known.standing refl)
  where
    by : (s : Attachment) → t.known.standing ≡ s → releases s h t ≡ releases s other t
    by Detached is = refl
    by AtHome is = ap (λ (c : Claim). releases AtHome c t) (fit is)
    by (Away careof) is = refl

attaches-fit : (prefix : ℕ) (h other a right : Claim) (t : Transition) → (uses_prefix t.known.standing (home_of t.known) prefix ≡ false → (t.known.standing ≡ AtHome → h ≡ other) × (a ≡ right))
    → attaches prefix h a t ≡ attaches prefix other right t
unfolding attaches
attaches-fit prefix h other a right t fit = by (uses_prefix t.known.standing (home_of t.known) prefix) refl
  where
    first : (s : Attachment) → (t.known.standing ≡ AtHome → h ≡ other) → leaves_first s h t ≡ leaves_first s other t
    first Detached f = refl
    first AtHome f = leaves-fit h other t f
    first (Away careof) f = leaves-fit h other t f

    by : (uses : Bool) → uses_prefix t.known.standing (home_of t.known) prefix ≡ uses
        → (let u : Transition = (if uses then t else arrives prefix a (leaves_first t.known.standing h t)) in u) ≡ (let u : Transition = (if uses then t else arrives prefix right (leaves_first t.known.standing other t)) in u)
    by true is = refl
    by false is =
        let f = fit is in
        ap (λ (c : Claim). arrives prefix c (leaves_first t.known.standing h t)) f.1 ∙ ap (λ (u : Transition). arrives prefix right u) (first t.known.standing f.0)

-- the call itself changes neither where it stands nor its home
called-standing : (k : Known) (now : ℕ) (c : calls.Call) → (noted (Called c) (begun now k)).known.standing ≡ k.standing
unfolding after
called-standing k now c = ap (λ (l : Known). l.standing) (noted-known after (Called c) (begun now k))

called-home : (k : Known) (now : ℕ) (c : calls.Call) → home_of (noted (Called c) (begun now k)).known ≡ home_of k
unfolding after
called-home k now c = ap (λ (l : Known). home_of l) (noted-known after (Called c) (begun now k))

pub attach-transition : (around : Around) (k : Known) (now prefix : ℕ) (h a : Claim) → AreAnswered around k prefix h a
    → handles (calls.Attach prefix h a) (noted (Called (attach_at around (home_of k) prefix)) (begun now k)) ≡ transition_of k now (attach_at around (home_of k) prefix)
unfolding does
attach-transition around k now prefix h a answered =
    let call : calls.Call = attach_at around (home_of k) prefix in
    let t : Transition = noted (Called call) (begun now k) in
    let standing : t.known.standing ≡ k.standing = called-standing k now call in
    let home : home_of t.known ≡ home_of k = called-home k now call in
    attaches-fit prefix h (claim_in around (home_of k).0) a (claim_in around (address_under (home_of k) prefix).0) t (λ none.
    let f = answered (ap (λ (s : Attachment). uses_prefix s (home_of k) prefix) (sym standing) ∙ ap (λ (x : Address). uses_prefix t.known.standing x prefix) (sym home) ∙ none) in
    ((λ is. f.0 (sym standing ∙ is)), f.1))

pub leave-transition : (around : Around) (k : Known) (now : ℕ) (h : Claim) → (k.standing ≡ AtHome → h ≡ claim_in around (home_of k).0)
    → handles (calls.Leave h) (noted (Called (leave_at around (home_of k))) (begun now k)) ≡ transition_of k now (leave_at around (home_of k))
unfolding does
leave-transition around k now h answered =
    let call : calls.Call = leave_at around (home_of k) in
    let t : Transition = noted (Called call) (begun now k) in
    leaves-fit h (claim_in around (home_of k).0) t (λ is. answered (sym (called-standing k now call) ∙ is))
