-- What steady steps and moves keep, the rules of moving keep.
use Rattle.std.proofs.Common.{◌≡◌, ℕ, refl, ◌∙◌}
use Rattle.std.specs.Prelude.{Option, Some, None, Bool, true, false, if◌then◌else◌}
use Rattle.mip_words.specs.declared.address.Address.{Address}
use Rattle.mip_nonce.specs.Secrets.{Life}
use Rattle.mip_outside.specs.declared.claim.Claim.{Claim}
use Rattle.mip_outside.specs.declared.claim.Claim.TheVariants.{Held, Waiting, Taken}
use Rattle.mip_outside.specs.Places.{is_held}
use Rattle.mip_rules_mobile.specs.declared.attachment.Attachment.{Attachment}
use Rattle.mip_rules_mobile.specs.declared.attachment.Attachment.TheVariants.{Detached, AtHome, Away}
use Rattle.mip_rules_mobile.specs.Calls as calls
use Rattle.mip_rules_mobile.specs.Calls.{Call}
use Rattle.mip_rules_mobile.specs.Steps.{Step, Claims, Releases, FindsTaken, Arrives, Detaches, Restarts, Unbinds}
use Rattle.mip_rules_mobile.specs.HomeQuestions.{home_of, agent_of}
use Rattle.mip_rules_mobile.specs.RowQuestions.{peer_of_row, is_bound_row}
use Rattle.mip_rules_mobile.specs.Transitions.{Transition, noted}
use Rattle.mip_rules_mobile.specs.TrialRules.{each_row}
use Rattle.mip_rules_mobile.specs.HomeRules.{deregisters_at}
use Rattle.mip_rules_mobile.specs.MovingRules.{releases, unbinds_with, unbinds, leaves, settles_at, settles, arrives_by, address_under, arrives, uses_prefix, leaves_first, attaches, registers_if_away, restarts}
use Rattle.mip_rules_mobile.specs.Fitting.{Fits, OfMove, kind_of}
use Rattle.mip_rules_mobile.proofs.Steady.{Goes, standing-noted}
use Rattle.mip_rules_mobile.proofs.TrialWalks.{every-row}
use Rattle.mip_rules_mobile.proofs.HomeWalks.{every-registers, every-deregisters_at}

-- a step by which the mobile moves or restarts may be taken
abbrev pub Moves : Call → (Transition → Type 0) → Type 0
Moves c P = (step : Step) (t : Transition) → kind_of step ≡ OfMove → Fits c t.now t.known step → P t → P (noted step t)

module _ (c : Call) (P : Transition → Type 0) (more : Goes c P) where
  every-releases : (s : Attachment) (claim : Claim) (t : Transition) → P t → P (releases s claim t)
  every-releases Detached claim t p = p
  every-releases AtHome claim t p = by (is_held claim)
    where
      by : (held : Bool) → P (if held then noted (Releases (home_of t.known)) t else t)
      by true = more (Releases (home_of t.known)) t refl tt p
      by false = p
  every-releases (Away careof) claim t p = more (Releases careof) t refl tt p

  every-unbinds : (row : ℕ) (t : Transition) → P t → P (unbinds row t)
  every-unbinds row t p = by (is_bound_row t.known t.now row) (peer_of_row t.known row) refl
    where
      by : (bound : Bool) (peer : Option Address) → peer_of_row t.known row ≡ peer → P (unbinds_with bound peer row t)
      by bound None of = p
      by true (Some peer) of = more (Unbinds row peer) t refl of p
      by false (Some peer) of = p

  pub every-settles : (t : Transition) → P t → P (settles t)
  unfolding settles
  every-settles t p = by t.known.standing refl
    where
      home : (owes : Bool) → t.known.standing ≡ AtHome → P (if owes then deregisters_at (agent_of t.known t.now) t else t)
      home true here = every-deregisters_at c P more (agent_of t.known t.now) t here p
      home false here = p

      by : (s : Attachment) → t.known.standing ≡ s → P (settles_at s t)
      by Detached here = p
      by AtHome here = home t.known.owes here
      by (Away careof) here = every-registers c P more careof t here p

  module _ (moves : Moves c P) where
    pub every-leaves : (claim : Claim) (t : Transition) → P t → P (leaves claim t)
    unfolding leaves
    every-leaves claim t p =
        moves Detaches (each_row unbinds (releases t.known.standing claim t)) refl tt
        (every-row P unbinds every-unbinds (releases t.known.standing claim t) (every-releases t.known.standing claim t p))

    every-arrives : (prefix : ℕ) (claim : Claim) (t : Transition) → P t → P (arrives prefix claim t)
    unfolding arrives
    every-arrives prefix claim t p = by claim (address_under (home_of t.known) prefix)
      where
        by : (claim : Claim) (address : Address) → P (arrives_by claim address t)
        by Held address =
            every-settles (noted (Arrives address) (noted (Claims address) t))
            (moves (Arrives address) (noted (Claims address) t) refl tt (moves (Claims address) t refl tt p))
        by Waiting address = every-settles (noted (Arrives address) t) (moves (Arrives address) t refl tt p)
        by (Taken holder) address = moves (FindsTaken address holder) t refl tt p

    every-leaves_first : (s : Attachment) (claim : Claim) (t : Transition) → P t → P (leaves_first s claim t)
    every-leaves_first Detached claim t p = p
    every-leaves_first AtHome claim t p = every-leaves claim t p
    every-leaves_first (Away careof) claim t p = every-leaves claim t p

    pub every-attaches : (prefix : ℕ) (of_home of_address : Claim) (t : Transition) → P t → P (attaches prefix of_home of_address t)
    unfolding attaches
    every-attaches prefix of_home of_address t p = by (uses_prefix t.known.standing (home_of t.known) prefix)
      where
        by : (uses : Bool) → P (if uses then t else arrives prefix of_address (leaves_first t.known.standing of_home t))
        by true = p
        by false = every-arrives prefix of_address (leaves_first t.known.standing of_home t) (every-leaves_first t.known.standing of_home t p)

    pub every-restarts : (secrets : Life) → c ≡ calls.Restart secrets → (t : Transition) → P t → P (restarts secrets t)
    unfolding restarts
    every-restarts secrets asked t p = by t.known.standing refl
      where
        first : Transition
        first = noted (Restarts secrets) t

        q : P first
        q = moves (Restarts secrets) t refl asked p

        by : (s : Attachment) → t.known.standing ≡ s → P (registers_if_away s first)
        by Detached here = q
        by AtHome here = q
        by (Away careof) here = every-registers c P more careof first (standing-noted (Restarts secrets) t ∙ here) q
