-- What a home agent drops, it drops for a reason that stands in a `dropped` entry.
use Rattle.std.proofs.Common.{◌≡◌, ℕ, refl, true, not, ◌&&◌, ◌||◌}
use Rattle.std.proofs.lemmas.Bool.{cond_both}
use Rattle.std.specs.Prelude.{nat_lt, Option, Some, None}
use Rattle.mip_words.specs.Sequence.{is_after}
use Rattle.mip_words.specs.declared.shield.Shield.{Shield}
use Rattle.mip_outside.specs.declared.claim.Claim.{Claim}
use Rattle.mip_outside.specs.Places.{is_held}
use Rattle.mip_entries.specs.Reasons.{is_dropped_why}
use Rattle.mip_reception.specs.declared.registration.Registration.{Registration}
use Rattle.mip_reception.specs.Registrations.{home_of, deletes}
use Rattle.mip_rules_agent.specs.declared.bench.Bench.{Bench}
use Rattle.mip_rules_agent.specs.declared.home_verdict.HomeVerdict.{HomeVerdict}
use Rattle.mip_rules_agent.specs.declared.home_verdict.HomeVerdict.TheVariants.{Refuse, Deny, Accept}
use Rattle.mip_rules_agent.specs.Verdicts.{is_from, is_near, is_away, by_room, by_sequence, before_claim, with_claim, verdict}

-- an update that is refused in silence is so for such a reason
abbrev pub RefusesRight : HomeVerdict → Type 0
RefusesRight (Refuse why) = is_dropped_why why ≡ true
RefusesRight (Deny status last) = Unit {0}
RefusesRight (Accept home careof sequence granted) = Unit {0}

module _ (b : Bench) (shield : Option Shield) (claim : Claim) (r : Registration) where
  abbrev Q : Option HomeVerdict → Type 0
  Q before = RefusesRight (with_claim b r claim before)

  claim-right : RefusesRight (with_claim b r claim None)
  claim-right = cond_both (is_held claim) _ _ RefusesRight (λ held. tt) (λ other. tt)

  room-right : Q (by_room b r)
  room-right = cond_both (deletes r) _ _ Q (λ ends. tt) (λ stands. cond_both b.full _ _ Q (λ full. tt) (λ free. claim-right))

  sequence-right : (kept : Option ℕ) → Q (by_sequence b r kept)
  sequence-right None = room-right
  sequence-right (Some last) = cond_both (not (is_after r.sequence last)) _ _ Q (λ older. tt) (λ newer. room-right)

  pub verdict-right : RefusesRight (verdict b shield claim r)
  unfolding verdict before_claim
  verdict-right =
      cond_both (not r.for_agent) _ _ Q (λ other. refl) (λ agent.
      cond_both (not (is_from (home_of r) shield)) _ _ Q (λ bare. refl) (λ from.
      cond_both (not (is_near (home_of r) b.own) || nat_lt b.valid 4) _ _ Q (λ far. tt) (λ near.
      cond_both (not b.served) _ _ Q (λ unserved. tt) (λ served.
      cond_both (not (deletes r) && not (is_away b r)) _ _ Q (λ home. tt) (λ away. sequence-right b.kept)))))
