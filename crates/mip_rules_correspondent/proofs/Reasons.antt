-- What a correspondent drops, it drops for a reason that stands in a `dropped` entry.
use Rattle.std.proofs.Common.{◌≡◌, ℕ, refl, List, true, not, ◌&&◌}
use Rattle.std.proofs.lemmas.Bool.{cond_both}
use Rattle.std.specs.Prelude.{◌==◌, Option, Some, None}
use Rattle.mip_words.specs.Addresses.{is_routable}
use Rattle.mip_words.specs.Sequence.{is_after}
use Rattle.mip_words.specs.declared.why.Why.{Why}
use Rattle.mip_mobhdr.specs.declared.indices.Indices.{Indices}
use Rattle.mip_nonce.specs.Window.{number_named}
use Rattle.mip_tokens.specs.Token.{is_authentic}
use Rattle.mip_tokens.specs.declared.kbm.Kbm.{Kbm}
use Rattle.mip_entries.specs.Reasons.{is_dropped_why}
use Rattle.mip_reception.specs.declared.registration.Registration.{Registration}
use Rattle.mip_reception.specs.Registrations.{home_of, careof_of, registered_of}
use Rattle.mip_rules_correspondent.specs.declared.verdict.Verdict.{Verdict}
use Rattle.mip_rules_correspondent.specs.declared.verdict.Verdict.TheVariants.{Refuse, Deny, Accept}
use Rattle.mip_rules_correspondent.specs.Verdicts.{Bench, by_room, by_sequence, kbm_of, by_numbers, careof_number, by_indices, verdict}
use Rattle.mip_rules_correspondent.specs.Rules.{other_why}

-- an update that is refused in silence is so for such a reason
abbrev pub RefusesRight : Verdict → Type 0
RefusesRight (Refuse why) = is_dropped_why why ≡ true
RefusesRight (Deny status last kbm) = Unit {0}
RefusesRight (Accept home number accepted granted kbm) = Unit {0}

room-right : (b : Bench) (r : Registration) (i : ℕ) (j : Option ℕ) (kbm : Kbm) → RefusesRight (by_room b r i j kbm)
room-right b r i j kbm = cond_both b.full _ _ RefusesRight (λ full. tt) (λ free. tt)

sequence-right : (b : Bench) (r : Registration) (i : ℕ) (j : Option ℕ) (kbm : Kbm) (floor : Option ℕ) → RefusesRight (by_sequence b r i j kbm floor)
sequence-right b r i j kbm None = room-right b r i j kbm
sequence-right b r i j kbm (Some last) = cond_both (not (is_after r.sequence last)) _ _ RefusesRight (λ older. tt) (λ newer. room-right b r i j kbm)

numbers-right : (b : Bench) (r : Registration) (message : List ℕ) (i : Option ℕ) (j : Option (Option ℕ)) → RefusesRight (by_numbers b r message i j)
numbers-right b r message None None = tt
numbers-right b r message None (Some j) = tt
numbers-right b r message (Some i) None = tt
numbers-right b r message (Some i) (Some j) =
    cond_both (not (is_authentic (kbm_of b r i j).0 (registered_of r) b.own message)) _ _ RefusesRight (λ other. refl) (λ authentic. sequence-right b r i j (kbm_of b r i j) b.floor)

indices-right : (b : Bench) (r : Registration) (message : List ℕ) (nonces : Option Indices) → RefusesRight (by_indices b r message nonces)
indices-right b r message None = refl
indices-right b r message (Some indices) = numbers-right b r message (number_named b.now indices.home) (careof_number b r indices)

pub verdict-right : (b : Bench) (r : Registration) (message : List ℕ) → RefusesRight (verdict b r message)
unfolding verdict
verdict-right b r message =
    cond_both r.for_agent _ _ RefusesRight (λ agent. tt) (λ correspondent.
    cond_both (not (is_routable (home_of r).0 && is_routable (careof_of r).0)) _ _ RefusesRight (λ unroutable. refl) (λ routable.
    cond_both (not r.authorized) _ _ RefusesRight (λ unauthorized. refl) (λ authorized. indices-right b r message r.nonces)))

abbrev IsRight : Why → Type 0
IsRight why = is_dropped_why why ≡ true

pub other_why-dropped : (proto : ℕ) → is_dropped_why (other_why proto) ≡ true
other_why-dropped proto = cond_both (proto == 58) _ _ IsRight (λ icmp. refl) (λ other. cond_both (proto == 59) _ _ IsRight (λ none. refl) (λ rest. refl))
