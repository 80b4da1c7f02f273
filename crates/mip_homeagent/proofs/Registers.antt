-- What changes the address that is registered for a home.
use Rattle.std.proofs.Common.{◌≡◌, ℕ, inl, inr, sym, ap, ◌∙◌, subst, true}
use Rattle.std.specs.Prelude.{Option, Some, None, IsSomeAnd}
use Rattle.mip_words.specs.Sequence.{is_after}
use Rattle.mip_words.specs.declared.address.Address.{Address}
use Rattle.mip_words.specs.declared.shield.Shield.{Shield}
use Rattle.mip_outside.specs.declared.claim.Claim.{Claim}
use Rattle.mip_reception.specs.declared.registration.Registration.{Registration}
use Rattle.mip_reception.specs.Registrations.{home_of}
use Rattle.mip_rules_agent.specs.declared.identity.Identity.{Identity}
use Rattle.mip_rules_agent.specs.declared.home_verdict.HomeVerdict.{HomeVerdict}
use Rattle.mip_rules_agent.specs.declared.home_verdict.HomeVerdict.TheVariants.{Accept}
use Rattle.mip_rules_agent.specs.Known.{Known}
use Rattle.mip_rules_agent.specs.Calls as calls
use Rattle.mip_rules_agent.specs.Questions.{careof_at, kept_of}
use Rattle.mip_rules_agent.specs.Verdicts.{verdict}
use Rattle.mip_rules_agent.specs.Rules.{bench}
use Rattle.mip_rules_agent.specs.Doing.{transition_of}
use Rattle.mip_rules_agent.specs.Soundness.{IsShielded}
use Rattle.mip_rules_agent.proofs.VerdictLaws.{sound}
use Rattle.mip_rules_agent.proofs.HomeLaws.{careof-changes}
use Rattle.mip_homeagent.specs.Registering.{IsOwnUpdate}

-- time that goes on changes what is registered at no moment
pub tick-careof : (me : Identity) (k : Known) (now : ℕ) (home : Address) (later : ℕ) → careof_at (transition_of me k now calls.Tick).known later home ≡ careof_at k later home
tick-careof me k now home later =
    elim (careof-changes me k now home calls.Tick later) as (λ _. careof_at (transition_of me k now calls.Tick).known later home ≡ careof_at k later home) [
      | inl same ↦ same
      | inr by ↦ absurd (let called = by.called in cc)
    ]

-- an accepted update is the home's own
own-update : (me : Identity) (k : Known) (now : ℕ) (shield : Option Shield) (claim : Claim) (r : Registration) (home careof : Address) (sequence granted : ℕ)
    → verdict (bench me k now r) shield claim r ≡ Accept home careof sequence granted → IsOwnUpdate k shield r home
own-update me k now shield claim r home careof sequence granted is =
    let s = sound (bench me k now r) shield claim r home careof sequence granted is in
    let f = s.fit in
    record {
      of_home = s.of_home;
      shielded = subst (λ (a : Address). IsShielded shield a) (sym s.of_home) f.shielded;
      newer = λ last kept. s.newer last (ap (kept_of k) (sym s.of_home) ∙ kept);
    }

pub own-of : (me : Identity) (k : Known) (now : ℕ) (shield : Option Shield) (claim : Claim) (o : Option Registration) (v : HomeVerdict) (home careof : Address) (sequence granted : ℕ)
    → IsSomeAnd o (λ r. v ≡ verdict (bench me k now r) shield claim r)
    → v ≡ Accept home careof sequence granted
    → IsSomeAnd o (λ r. IsOwnUpdate k shield r home)
own-of me k now shield claim (Some r) v home careof sequence granted found is = own-update me k now shield claim r home careof sequence granted (sym found ∙ is)
own-of me k now shield claim None v home careof sequence granted found is = absurd found
