-- What a mobile gives up as it leaves follows from where it stands and who holds its home address.
use Rattle.std.proofs.Common.{◌≡◌, ℕ, List, Bool, true, false, refl, ap}
use Rattle.std.specs.Prelude.{Option, Some, None, ◌==◌, if◌then◌else◌}
use Rattle.mip_words.specs.declared.address.Address.{Address}
use Rattle.mip_outside.specs.declared.claim.Claim.TheVariants.{Waiting, Taken}
use Rattle.mip_outside.specs.Places.{is_held, claim_of}
use Rattle.mip_entries.specs.declared.entry.Entry.{Entry}
use Rattle.mip_rules_mobile.specs.declared.attachment.Attachment.{Attachment}
use Rattle.mip_rules_mobile.specs.declared.attachment.Attachment.TheVariants.{Detached, AtHome, Away}
use Rattle.mip_rules_mobile.specs.HomeQuestions.{home_of}
use Rattle.mip_rules_mobile.specs.MovingRules.{releases}
use Rattle.mip_rules_mobile.specs.Steps.{Releases}
use Rattle.mip_rules_mobile.specs.Transitions.{Transition, noted}
use Rattle.mip_history.specs.ClaimsLaws.{is_free_for}
use Rattle.mip_history.specs.Questions.{holder_in}
use Rattle.mip_history.specs.Knowing.{other_than}
use Rattle.mip_past.specs.Asking.{leaves_by}
use Rattle.mip_past.specs.AsAsked.{home_claim, released}

at_home : (n : ℕ) (own : Address) (holder : Option ℕ) (t : Transition) → home_of t.known ≡ own
    → (if is_held (claim_of (other_than n holder) (own.0 == own.0)) then noted (Releases (home_of t.known)) t else t)
    ≡ released (if is_free_for holder n then Some own else None) t
at_home n own None t home = ap (λ (a : Address). noted (Releases a) t) home
at_home n own (Some who) t home = by (who == n)
  where
    waits : (b : Bool) → is_held (if b then Waiting else Taken who) ≡ false
    waits true = refl
    waits false = refl

    by : (b : Bool) → (if is_held (claim_of (if b then None else Some who) (own.0 == own.0)) then noted (Releases (home_of t.known)) t else t)
        ≡ released (if b then Some own else None) t
    by true = ap (λ (a : Address). noted (Releases a) t) home
    by false = ap (λ (b : Bool). if b then noted (Releases (home_of t.known)) t else t) (waits (own.0 == own.0))

pub leaves_is : (n : ℕ) (past : List Entry) (own : Address) (standing : Attachment) (t : Transition) → home_of t.known ≡ own
    → releases standing (home_claim past n own) t ≡ released (leaves_by n past own standing) t
leaves_is n past own Detached t home = refl
leaves_is n past own AtHome t home = at_home n own (holder_in past own.0) t home
leaves_is n past own (Away careof) t home = refl
