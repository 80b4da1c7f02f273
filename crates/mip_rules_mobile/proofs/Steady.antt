-- What stays the same along the steps that are steady: where the mobile stands, what its correspondent part is, and the
-- moment of the transition.
use Rattle.std.proofs.Common.{◌≡◌, ℕ, true, refl, ap, ◌∙◌, sym}
use Rattle.mip_entries.specs.declared.entry.Entry.{Entry}
use Rattle.mip_rules_correspondent.specs.Wholes.{is_own}
use Rattle.mip_entries.proofs.TransitionLaws.{noted-now, noted-known}
use Rattle.mip_words.specs.declared.address.Address.{Address}
use Rattle.mip_rules_correspondent.specs.declared.identity.Identity.{Identity}
use Rattle.mip_rules_mobile.specs.declared.attachment.Attachment.{Attachment}
use Rattle.mip_rules_correspondent.specs.Calls as parts
use Rattle.mip_rules_mobile.specs.Calls.{Call}
use Rattle.mip_rules_mobile.specs.Steps.{Step, Called, Parts, Notes, Sends, Unsends, Drops, Claims, Releases, FindsTaken, Arrives, Detaches, Restarts}
use Rattle.mip_rules_mobile.specs.Known.{Known}
use Rattle.mip_rules_mobile.specs.HomeQuestions.{standing_after}
use Rattle.mip_rules_mobile.specs.Questions.{after, part_after}
use Rattle.mip_rules_mobile.specs.Transitions.{Transition, noted}
use Rattle.mip_rules_mobile.specs.Fitting.{IsAt, Fits, Steady, kind_of}

-- every steady step may be taken that fits
abbrev pub Goes : Call → (Transition → Type 0) → Type 0
Goes c P = (step : Step) (t : Transition) → kind_of step ≡ Steady → Fits c t.now t.known step → P t → P (noted step t)

pub standing-noted : (step : Step) (t : Transition) → (noted step t).known.standing ≡ standing_after t.known step
unfolding after
standing-noted step t = ap (λ (k : Known). k.standing) (noted-known after step t)

pub identity-noted : (step : Step) (t : Transition) → (noted step t).known.part.identity ≡ (part_after t.known.part t.now step).identity
unfolding after
identity-noted step t = ap (λ (k : Known). k.part.identity) (noted-known after step t)

-- the mobile stands here, its correspondent part is this, and the moment is this
pub record Stays (s : Attachment) (me : Identity) (now : ℕ) (t : Transition) : Type 0 where
  pub standing : t.known.standing ≡ s
  pub identity : t.known.part.identity ≡ me
  pub moment : t.now ≡ now

steady-standing : (step : Step) (k : Known) → kind_of step ≡ Steady → standing_after k step ≡ k.standing
steady-standing (Called call) k is = absurd cc
steady-standing (Parts call) k is = absurd cc
steady-standing (Notes entry) k is = absurd cc
steady-standing (Sends sending) k is = refl
steady-standing (Unsends why) k is = refl
steady-standing (Drops number why) k is = refl
steady-standing (Claims address) k is = refl
steady-standing (Releases address) k is = refl
steady-standing (FindsTaken address holder) k is = absurd cc
steady-standing (Arrives address) k is = absurd cc
steady-standing Detaches k is = absurd cc
steady-standing (Restarts secrets) k is = absurd cc
steady-standing _ k is = refl

steady-identity : (step : Step) (k : Known) (at : ℕ) → kind_of step ≡ Steady → (part_after k.part at step).identity ≡ k.part.identity
steady-identity (Called call) k at is = absurd cc
steady-identity (Parts call) k at is = absurd cc
steady-identity (Notes entry) k at is = absurd cc
steady-identity (Sends sending) k at is = refl
steady-identity (Unsends why) k at is = refl
steady-identity (Drops number why) k at is = refl
steady-identity (Claims address) k at is = refl
steady-identity (Releases address) k at is = refl
steady-identity (FindsTaken address holder) k at is = refl
steady-identity (Arrives address) k at is = refl
steady-identity Detaches k at is = refl
steady-identity (Restarts secrets) k at is = absurd cc
steady-identity _ k at is = refl

pub stays-noted : (s : Attachment) (me : Identity) (now : ℕ) (step : Step) (t : Transition) → kind_of step ≡ Steady → Stays s me now t → Stays s me now (noted step t)
stays-noted s me now step t is stays = record {
  standing = standing-noted step t ∙ steady-standing step t.known is ∙ stays.standing;
  identity = identity-noted step t ∙ steady-identity step t.known t.now is ∙ stays.identity;
  moment = noted-now after step t ∙ stays.moment;
}

pub stays-told : (s : Attachment) (me : Identity) (now : ℕ) (entry : Entry) (t : Transition) → Stays s me now t → Stays s me now (noted (Notes entry) t)
stays-told s me now entry t stays = record {
  standing = standing-noted (Notes entry) t ∙ stays.standing;
  identity = identity-noted (Notes entry) t ∙ stays.identity;
  moment = noted-now after (Notes entry) t ∙ stays.moment;
}

-- a call of the correspondent part changes neither
pub stays-asked : (s : Attachment) (me : Identity) (now : ℕ) (call : parts.Call) (t : Transition) → Stays s me now t → Stays s me now (noted (Parts call) t)
stays-asked s me now call t stays = record {
  standing = standing-noted (Parts call) t ∙ stays.standing;
  identity = identity-noted (Parts call) t ∙ stays.identity;
  moment = noted-now after (Parts call) t ∙ stays.moment;
}

-- the correspondent part may be called
abbrev pub Askings : (Transition → Type 0) → Type 0
Askings P = (call : parts.Call) (t : Transition) → P t → P (noted (Parts call) t)

-- an entry of the correspondent part may be left
abbrev pub Notings : (Transition → Type 0) → Type 0
Notings P = (entry : Entry) (t : Transition) → is_own entry ≡ true → P t → P (noted (Notes entry) t)

-- so a walk over steady steps stays
pub staying : (c : Call) (s : Attachment) (me : Identity) (now : ℕ) → Goes c (Stays s me now)
staying c s me now step t is fits stays = stays-noted s me now step t is stays

pub stays-here : (t : Transition) → Stays t.known.standing t.known.part.identity t.now t
stays-here t = record { standing = refl; identity = refl; moment = refl }

-- where the mobile stood before a steady step it stands after it, with the same home address
pub at-noted : (s : Attachment) (home : Address) (step : Step) (t : Transition) → kind_of step ≡ Steady → IsAt t.known s home → IsAt (noted step t).known s home
at-noted s home step t is at = (
  standing-noted step t ∙ steady-standing step t.known is ∙ at.0,
  at.1 ∙ sym (ap (λ (i : Identity). i.own) (identity-noted step t ∙ steady-identity step t.known t.now is)),
)

pub at-stays : (s : Attachment) (home : Address) (t u : Transition) → Stays t.known.standing t.known.part.identity t.now u → IsAt t.known s home → IsAt u.known s home
at-stays s home t u stays at = (stays.standing ∙ at.0, at.1 ∙ sym (ap (λ (i : Identity). i.own) stays.identity))
