-- For how long an update is accepted.
use Rattle.std.proofs.Common.{◌≡◌, ℕ, ◌≤◌, List, Bool, true, false, refl, arith}
use Rattle.std.specs.Prelude.{◌*◌, ◌/◌, ◌==◌, min, Option, if◌then◌else◌}
use Rattle.std.specs.List.{list_any}
use Rattle.std.proofs.lemmas.Bool.{or_parts}
use Rattle.std.proofs.lemmas.Bool.Decides.{nat_tests}
use Rattle.std.proofs.Math.Nat.{min-le_left, min-le_right, le-min, mul-div-le}
use Rattle.mip_words.specs.declared.address.Address.{Address}
use Rattle.mip_words.specs.declared.shield.Shield.{Shield}
use Rattle.mip_outside.specs.declared.claim.Claim.{Claim}
use Rattle.mip_reception.specs.declared.registration.Registration.{Registration}
use Rattle.mip_reception.specs.Registrations.{home_of, careof_of, deletes}
use Rattle.mip_rules_agent.specs.declared.bench.Bench.{Bench}
use Rattle.mip_rules_agent.specs.declared.identity.Identity.{Identity}
use Rattle.mip_rules_agent.specs.declared.home_verdict.HomeVerdict.TheVariants.{Accept}
use Rattle.mip_rules_agent.specs.Known.{Known}
use Rattle.mip_rules_agent.specs.Calls.{Take}
use Rattle.mip_rules_agent.specs.StepsLaws.{is_registration}
use Rattle.mip_rules_agent.specs.Questions.{holds}
use Rattle.mip_rules_agent.specs.Verdicts.{granted_of, verdict}
use Rattle.mip_rules_agent.specs.Rules.{bench, claim_with}
use Rattle.mip_rules_agent.specs.Doing.{transition_of}
use Rattle.mip_rules_agent.specs.Granting.{IsBounded, IsGranted}
use Rattle.mip_rules_agent.proofs.VerdictLaws.{sound}
use Rattle.mip_rules_agent.proofs.Refusals.{some-update}

-- an update that ends no registration asks for some time
asks-some : (r : Registration) → deletes r ≡ false → 1 ≤ r.lifetime
asks-some r lasts =
    let some : (r.lifetime == 0) ≡ false = (or_parts (r.lifetime == 0) ((careof_of r).0 == (home_of r).0) lasts).0 in
    grind (arith, nat_tests)

bounded-time : (b : Bench) (r : Registration) (granted : ℕ) → 4 ≤ b.valid → granted ≡ granted_of b r → IsBounded b.valid r granted
bounded-time b r granted valid time = by (deletes r) refl time
  where
    by : (ends : Bool) → deletes r ≡ ends → granted ≡ (if ends then 0 else min (min r.lifetime 900) (b.valid / 4)) → IsBounded b.valid r granted
    by true ends is = record {
      hour = omega (arith, is);
      asked = omega (arith, is);
      within = omega (arith, is);
      none = λ _. is;
      some = λ lasts. absurd cc;
    }
    by false lasts is =
        let asked : min (min r.lifetime 900) (b.valid / 4) ≤ min r.lifetime 900 = min-le_left (min r.lifetime 900) (b.valid / 4) in
        let first : min r.lifetime 900 ≤ r.lifetime = min-le_left r.lifetime 900 in
        let hour : min r.lifetime 900 ≤ 900 = min-le_right r.lifetime 900 in
        let quarter : min (min r.lifetime 900) (b.valid / 4) ≤ b.valid / 4 = min-le_right (min r.lifetime 900) (b.valid / 4) in
        let whole : 4 * (b.valid / 4) ≤ b.valid = mul-div-le b.valid 4 in
        let one : 1 ≤ b.valid / 4 = omega (arith, valid) in
        let some : 1 ≤ min (min r.lifetime 900) (b.valid / 4) = le-min (le-min (asks-some r lasts) (omega arith)) one in
        record {
          hour = omega (arith, is, asked, hour);
          asked = omega (arith, is, asked, first);
          within = omega (arith, is, quarter, whole);
          none = λ ends. absurd cc;
          some = λ _. omega (arith, is, some);
        }

pub accepted-bounded : (b : Bench) (shield : Option Shield) (claim : Claim) (r : Registration) (home careof : Address) (sequence granted : ℕ) → verdict b shield claim r ≡ Accept home careof sequence granted
    → IsBounded b.valid r granted
accepted-bounded b shield claim r home careof sequence granted is =
    let so = sound b shield claim r home careof sequence granted is in bounded-time b r granted so.fit.valid so.of_time

pub granted-bounded : (me : Identity) (k : Known) (now number : ℕ) (shield : Option Shield) (bytes : List ℕ) (claim : Claim)
    → list_any is_registration (transition_of me k now (Take number shield bytes claim)).steps ≡ true
    → IsGranted me k now number shield bytes claim (transition_of me k now (Take number shield bytes claim)).steps
granted-bounded me k now number shield bytes claim some =
    let u = some-update me k now number shield bytes claim some in
    record {
      taken = u;
      bounded = accepted-bounded (bench me k now u.update) shield (claim_with (holds k (home_of u.update)) claim) u.update u.home u.careof u.sequence u.granted u.verdict_is;
    }
