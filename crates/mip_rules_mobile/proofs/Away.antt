-- Away, a call by which the mobile stays where it stands sends no packet from the home address.
use Rattle.std.proofs.Common.{◌≡◌, ℕ, List, [], ◌∷◌, ◌++◌, refl, sym, ap, ◌∙◌, subst}
use Rattle.std.specs.Prelude.{true, false, Option, None, unwrap_or}
use Rattle.std.specs.List.{AllByRecursion}
use Rattle.mip_words.specs.declared.address.Address.{Address}
use Rattle.mip_nonce.specs.Secrets.{Life}
use Rattle.mip_entries.specs.declared.answer.Answer.{Answer}
use Rattle.mip_entries.specs.declared.answer.Answer.TheVariants.{Send, Note}
use Rattle.mip_entries.proofs.TransitionLaws.{noted-steps}
use Rattle.mip_entries.specs.Stamped.{Stamped}
use Rattle.mip_rules_mobile.specs.declared.attachment.Attachment.{Attachment}
use Rattle.mip_rules_mobile.specs.declared.attachment.Attachment.TheVariants.{Detached, AtHome, Away}
use Rattle.mip_rules_mobile.specs.Calls as calls
use Rattle.mip_rules_mobile.specs.Calls.{Call}
use Rattle.mip_rules_mobile.specs.Steps.{Step, Called, Parts, Notes, Sends, Unsends, Drops, Claims, Releases, FindsTaken, Arrives, Detaches, Restarts, Registers, Unregisters, IsRefused, Resequences, Seeks, SeeksAgain, GivesUp, Finds, Chooses, Learns, Meets, Tries, Updates, Forgets, Binds, answer_of, answers_of}
use Rattle.mip_rules_mobile.specs.Known.{Known}
use Rattle.mip_rules_mobile.specs.HomeQuestions.{home_of, standing_said}
use Rattle.mip_rules_mobile.specs.Questions.{after}
use Rattle.mip_rules_mobile.specs.Transitions.{Transition, begun, noted}
use Rattle.mip_rules_mobile.specs.Fitting.{kind_of, OfAck, Steady}
use Rattle.mip_rules_mobile.specs.MovingRules.{registers_if_away, restarts}
use Rattle.mip_rules_mobile.specs.Answering.{EachAnswer, LeavesRight, LeavesFrom, IsElsewhere, AreFrom, stays_put}
use Rattle.mip_rules_mobile.specs.PartLaws.{is_restart}
use Rattle.mip_rules_mobile.specs.Doing.{does, handles, transition_of}
use Rattle.mip_rules_mobile.proofs.Told.{home-kept}
use Rattle.mip_rules_mobile.proofs.Steady.{Goes, Askings, Notings, standing-noted}
use Rattle.mip_rules_mobile.proofs.HomeWalks.{Acks, every-registers}
use Rattle.mip_rules_mobile.proofs.Walks.{Dropping, every-staying}
use Rattle.mip_rules_mobile.proofs.Sources.{call-leaves}

-- a step that says nothing of where the mobile stands
abbrev Stays : Address → Step → Type 0
Stays home step = standing_said home step ≡ None

abbrev AllStay : Address → List Step → Type 0
AllStay home steps = AllByRecursion (Stays home) steps

steady-stays : (home : Address) (step : Step) → kind_of step ≡ Steady → Stays home step
steady-stays home (Called call) is = absurd cc
steady-stays home (Parts call) is = absurd cc
steady-stays home (Notes entry) is = absurd cc
steady-stays home (Sends sending) is = refl
steady-stays home (Unsends why) is = refl
steady-stays home (Drops number why) is = absurd cc
steady-stays home (Claims address) is = refl
steady-stays home (Releases address) is = refl
steady-stays home (FindsTaken address holder) is = absurd cc
steady-stays home (Arrives address) is = absurd cc
steady-stays home Detaches is = absurd cc
steady-stays home (Restarts secrets) is = absurd cc
steady-stays home (Registers agent end renew) is = absurd cc
steady-stays home (Unregisters agent) is = refl
steady-stays home (IsRefused status) is = refl
steady-stays home (Resequences agent last) is = refl
steady-stays home Seeks is = refl
steady-stays home SeeksAgain is = refl
steady-stays home GivesUp is = refl
steady-stays home (Finds agents) is = refl
steady-stays home (Chooses agent) is = refl
steady-stays home (Learns valid preferred) is = refl
steady-stays home (Meets peer) is = refl
steady-stays home (Tries row change) is = refl
steady-stays home (Updates row update) is = refl
steady-stays home (Forgets row) is = refl
steady-stays home (Binds row peer end renew) is = absurd cc
steady-stays home _ is = refl

ack-stays : (home : Address) (step : Step) → kind_of step ≡ OfAck → Stays home step
ack-stays home (Called call) is = absurd cc
ack-stays home (Parts call) is = absurd cc
ack-stays home (Notes entry) is = absurd cc
ack-stays home (Sends sending) is = absurd cc
ack-stays home (Unsends why) is = absurd cc
ack-stays home (Drops number why) is = absurd cc
ack-stays home (Claims address) is = absurd cc
ack-stays home (Releases address) is = absurd cc
ack-stays home (FindsTaken address holder) is = absurd cc
ack-stays home (Arrives address) is = absurd cc
ack-stays home Detaches is = absurd cc
ack-stays home (Restarts secrets) is = absurd cc
ack-stays home (Registers agent end renew) is = refl
ack-stays home (Unregisters agent) is = absurd cc
ack-stays home (IsRefused status) is = absurd cc
ack-stays home (Resequences agent last) is = absurd cc
ack-stays home Seeks is = absurd cc
ack-stays home SeeksAgain is = absurd cc
ack-stays home GivesUp is = absurd cc
ack-stays home (Finds agents) is = absurd cc
ack-stays home (Chooses agent) is = absurd cc
ack-stays home (Learns valid preferred) is = absurd cc
ack-stays home (Meets peer) is = absurd cc
ack-stays home (Tries row change) is = absurd cc
ack-stays home (Updates row update) is = absurd cc
ack-stays home (Forgets row) is = absurd cc
ack-stays home (Binds row peer end renew) is = refl
ack-stays home _ is = absurd cc

one-more : (home : Address) (steps : List Step) (step : Step) → AllStay home steps → Stays home step → AllStay home (steps ++ step ∷ [])
one-more home [] step all one = (one, tt)
one-more home (s ∷ steps) step all one = (all.0, one-more home steps step all.1 one)

-- the steps of a transition so far
abbrev Puts : Address → Transition → Type 0
Puts home t = AllStay home t.steps

puts-noted : (home : Address) (step : Step) (t : Transition) → Stays home step → Puts home t → Puts home (noted step t)
puts-noted home step t one all = subst (AllStay home) (sym (noted-steps after step t)) (one-more home t.steps step all one)

module _ (c : Call) (home : Address) where
  more : Goes c (Puts home)
  more step t steady fits p = puts-noted home step t (steady-stays home step steady) p

  asks : Askings (Puts home)
  asks call t p = puts-noted home (Parts call) t refl p

  notes : Notings (Puts home)
  notes entry t own p = puts-noted home (Notes entry) t refl p

  acks : Acks c (Puts home)
  acks step t ack fits led p = puts-noted home step t (ack-stays home step ack) p

  drops : Dropping (Puts home)
  drops number why t right p = puts-noted home (Drops number why) t refl p

  restart-stays : (secrets : Life) (t : Transition) → Puts home t → Puts home (restarts secrets t)
  unfolding restarts
  restart-stays secrets t p = by t.known.standing refl
    where
      first : Transition
      first = noted (Restarts secrets) t

      q : Puts home first
      q = puts-noted home (Restarts secrets) t refl p

      by : (s : Attachment) → t.known.standing ≡ s → Puts home (registers_if_away s first)
      by Detached here = q
      by AtHome here = q
      by (Away careof) here = every-registers c (Puts home) more careof first (standing-noted (Restarts secrets) t ∙ here) q

  every-stays : stays_put c ≡ true → (t : Transition) → Puts home t → Puts home (handles c t)
  every-stays stays t p = by c refl stays
    where
      staying : (d : Call) → c ≡ d → stays_put d ≡ true → is_restart d ≡ false → Puts home (handles d t)
      staying = every-staying c (Puts home) more asks notes acks drops t p

      by : (d : Call) → c ≡ d → stays_put d ≡ true → Puts home (handles d t)
      by (calls.Attach prefix of_home of_address) is never = absurd cc
      by (calls.Leave of_home) is never = absurd cc
      by (calls.Restart secrets) is sure = restart-stays secrets t p
      by (calls.Take number shield packet) is sure = staying (calls.Take number shield packet) is refl refl
      by calls.Tick is sure = staying calls.Tick is refl refl
      by (calls.Send to proto payload) is sure = staying (calls.Send to proto payload) is refl refl
      by (calls.Refresh other) is sure = staying (calls.Refresh other) is refl refl
      by calls.Ask is sure = staying calls.Ask is refl refl
      by (calls.Tunnel inner) is sure = staying (calls.Tunnel inner) is refl refl

call-stays : (k : Known) (now : ℕ) (c : Call) → stays_put c ≡ true → AllStay (home_of k) (transition_of k now c).steps
unfolding does
call-stays k now c stays = every-stays c (home_of k) stays (noted (Called c) (begun now k)) (puts-noted (home_of k) (Called c) (begun now k) refl tt)

-- a packet that leaves right leaves from the care-of address
from-answers : (k : Known) (careof : Address) → k.standing ≡ Away careof → (answers : List Answer) → AllByRecursion (LeavesRight k) answers → AreFrom careof answers
from-answers k careof here [] right = tt
from-answers k careof here (Note entry ∷ answers) right = (tt, from-answers k careof here answers right.1)
from-answers k careof here (Send shield packet ∷ answers) right =
    let leaves : LeavesFrom (Away careof) (home_of k) packet = subst (λ (s : Attachment). LeavesFrom s (home_of k) packet) here right.0 in
    (leaves.1, from-answers k careof here answers right.1)

both : (careof : Address) (first second : List Answer) → AreFrom careof first → AreFrom careof second → AreFrom careof (first ++ second)
both careof [] second one two = two
both careof (a ∷ first) second one two = (one.0, both careof first second one.1 two)

-- and it stands there from step to step
stands-on : (k : Known) (s : Stamped Step) (home careof : Address) → k.standing ≡ Away careof → home_of k ≡ home → Stays home s.step → (let l : Known = after k s in l.standing) ≡ Away careof
unfolding after
stands-on k s home careof here same stays = ap (λ (o : Option Attachment). unwrap_or o k.standing) (ap (λ (h : Address). standing_said h s.step) same ∙ stays) ∙ here

along : (now : ℕ) (home careof : Address) (k : Known) (steps : List Step) → k.standing ≡ Away careof → home_of k ≡ home → AllStay home steps → EachAnswer LeavesRight now k steps → AreFrom careof (answers_of steps)
along now home careof k [] here same stays each = tt
along now home careof k (step ∷ steps) here same stays each =
    let s : Stamped Step = record { at = now; step = step } in
    both careof (answer_of step) (answers_of steps) (from-answers k careof here (answer_of step) each.0)
    (along now home careof (after k s) steps (stands-on k s home careof here same stays.0) (home-kept k s ∙ same) stays.1 each.1)

pub away-call : (k : Known) (now : ℕ) (c : Call) (careof : Address) → k.standing ≡ Away careof → IsElsewhere k → stays_put c ≡ true → AreFrom careof (answers_of (transition_of k now c).steps)
away-call k now c careof here elsewhere stays =
    along now (home_of k) careof k (transition_of k now c).steps here refl (call-stays k now c stays) (call-leaves k now c elsewhere)
