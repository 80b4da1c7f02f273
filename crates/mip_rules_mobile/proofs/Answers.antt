-- What is true of each step where it is taken is true of its answers.
use Rattle.std.proofs.Common.{◌≡◌, ℕ, List, [], ◌∷◌, Bool, true, false, refl, ap}
use Rattle.std.specs.Prelude.{None, ◌||◌}
use Rattle.std.specs.List.{AllByRecursion}
use Rattle.mip_entries.specs.declared.answer.Answer.{Answer}
use Rattle.mip_entries.specs.declared.answer.Answer.TheVariants.{Send, Note}
use Rattle.mip_entries.specs.declared.entry.Entry.{Entry}
use Rattle.mip_rules_correspondent.specs.Wholes as parts
use Rattle.mip_rules_mobile.specs.Calls.{Call}
use Rattle.mip_rules_mobile.specs.Sendings.{Sending, PeerUpdate, packet_of_sending, shield_of, update_packet}
use Rattle.mip_rules_mobile.specs.Steps.{Step, Called, Parts, Notes, Sends, Unsends, Drops, Claims, Releases, FindsTaken, Arrives, Detaches, Restarts, Registers, Unregisters, IsRefused, Resequences, Seeks, SeeksAgain, GivesUp, Finds, Chooses, Learns, Meets, Tries, Updates, Forgets, Binds, Unbinds, answer_of}
use Rattle.mip_rules_mobile.specs.Known.{Known}
use Rattle.mip_rules_mobile.specs.Questions.{after}
use Rattle.mip_rules_mobile.specs.Fitting.{IsSentBy, IsUpdateOf, Fits, EachFits}
use Rattle.mip_rules_mobile.specs.Answering.{EachAnswer, is_mobiles}

-- of a relation that holds for packets that are sent as they should be, for updates, and for entries of a mobile
module _ (R : Known → Answer → Type 0) (I : Known → Type 0) (c : Call) (now : ℕ)
    (kept : (k : Known) (step : Step) → I k → I (after k (record { at = now; step = step })))
    (entry : (k : Known) (e : Entry) → (is_mobiles e || parts.is_own e) ≡ true → R k (Note e))
    (sent : (k : Known) (x : Sending) → I k → IsSentBy c now k x → R k (Send (shield_of x) (packet_of_sending x)))
    (updated : (k : Known) (row : ℕ) (u : PeerUpdate) → I k → IsUpdateOf now k row u → R k (Send None (update_packet u))) where
  own-too : (e : Entry) → parts.is_own e ≡ true → (is_mobiles e || parts.is_own e) ≡ true
  own-too e is = by (is_mobiles e) (parts.is_own e) is
    where
      by : (a b : Bool) → b ≡ true → (a || b) ≡ true
      by true b is = refl
      by false b is = is

  step-answers : (k : Known) (step : Step) → I k → Fits c now k step → AllByRecursion (R k) (answer_of step)
  step-answers k (Called call) i fits = tt
  step-answers k (Parts call) i fits = tt
  step-answers k (Notes entry') i fits = (entry k entry' (own-too entry' fits), tt)
  step-answers k (Sends sending) i fits = (sent k sending i fits, tt)
  step-answers k (Unsends why) i fits = (entry k _ (ap (λ (b : Bool). b || false) fits), tt)
  step-answers k (Drops number why) i fits = (entry k _ fits, tt)
  step-answers k (Claims address) i fits = (entry k _ refl, tt)
  step-answers k (Releases address) i fits = (entry k _ refl, tt)
  step-answers k (FindsTaken address holder) i fits = (entry k _ refl, tt)
  step-answers k (Arrives address) i fits = (entry k _ refl, tt)
  step-answers k Detaches i fits = tt
  step-answers k (Restarts secrets) i fits = (entry k _ refl, tt)
  step-answers k (Registers agent end renew) i fits = (entry k _ refl, tt)
  step-answers k (Unregisters agent) i fits = (entry k _ refl, tt)
  step-answers k (IsRefused status) i fits = (entry k _ refl, tt)
  step-answers k (Resequences agent last) i fits = tt
  step-answers k Seeks i fits = tt
  step-answers k SeeksAgain i fits = tt
  step-answers k GivesUp i fits = tt
  step-answers k (Finds agents) i fits = tt
  step-answers k (Chooses agent) i fits = (entry k _ refl, tt)
  step-answers k (Learns valid preferred) i fits = (entry k _ refl, tt)
  step-answers k (Meets peer) i fits = tt
  step-answers k (Tries row change) i fits = tt
  step-answers k (Updates row update) i fits = (entry k _ refl, (updated k row update i fits, tt))
  step-answers k (Forgets row) i fits = tt
  step-answers k (Binds row peer end renew) i fits = (entry k _ refl, tt)
  step-answers k (Unbinds row peer) i fits = (entry k _ refl, tt)
  step-answers k _ i fits = tt

  pub each-answer : (k : Known) (steps : List Step) → I k → EachFits c now k steps → EachAnswer R now k steps
  each-answer k [] i each = tt
  each-answer k (step ∷ steps) i each =
      (step-answers k step i each.0, each-answer (after k (record { at = now; step = step })) steps (kept k step i) each.1)
