-- A mobile that left keeps no address, registration, binding, timer or discovery; and the cookies of a life begin at 0.
use Rattle.std.proofs.Common.{◌≡◌, ℕ, List, [], ◌∷◌, refl, sym, ap, ◌∙◌, subst}
use Rattle.std.specs.Prelude.{Option, Some, None, map}
use Rattle.std.specs.List.{AllByRecursion}
use Rattle.mip_words.specs.declared.address.Address.{Address}
use Rattle.mip_nonce.specs.Secrets.{Life}
use Rattle.mip_outside.specs.declared.claim.Claim.{Claim}
use Rattle.mip_entries.proofs.TransitionLaws.{noted-known}
use Rattle.mip_words.specs.Constants.{initial_dhaad_timeout}
use Rattle.mip_rules_mobile.specs.declared.peer.Peer.{Peer}
use Rattle.mip_rules_mobile.specs.declared.attachment.Attachment.{Attachment}
use Rattle.mip_rules_mobile.specs.declared.attachment.Attachment.TheVariants.{Detached, AtHome, Away}
use Rattle.mip_rules_mobile.specs.Calls as calls
use Rattle.mip_rules_mobile.specs.Sendings.{RegistersHome, Discovers}
use Rattle.mip_rules_mobile.specs.Steps.{Step, Called, Sends, Detaches, Restarts, Seeks, Waits}
use Rattle.mip_rules_mobile.specs.Known.{Known}
use Rattle.mip_rules_mobile.specs.HomeQuestions.{home_of, next_to, target_of}
use Rattle.mip_rules_mobile.specs.RowQuestions.{unbound, cookies_after}
use Rattle.mip_rules_mobile.specs.TimerQuestions.{resending_home, seeking}
use Rattle.mip_rules_mobile.specs.Questions.{after, known}
use Rattle.mip_rules_mobile.specs.Transitions.{Transition, begun, noted}
use Rattle.mip_rules_mobile.specs.TrialRules.{each_row}
use Rattle.mip_rules_mobile.specs.HomeRules.{seeks, registers_with, wait_behind, registers_at, registers}
use Rattle.mip_rules_mobile.specs.MovingRules.{releases, unbinds, leaves, registers_if_away, restarts}
use Rattle.mip_rules_mobile.specs.Doing.{does, transition_of}
use Rattle.mip_rules_mobile.specs.Leaving.{IsUnbound, HasForgotten}

all-unbound : (peers : List Peer) → AllByRecursion IsUnbound (map unbound peers)
all-unbound [] = tt
all-unbound (p ∷ peers) = (refl, all-unbound peers)

-- once it uses no address
pub detached : (k : Known) (at : ℕ) → HasForgotten (after k (record { at = at; step = Detaches }))
unfolding after
detached k at = record { nowhere = refl; unregistered = refl; unbound = all-unbound k.peers; idle = refl; silent = refl }

-- once it was asked to leave
pub left : (k : Known) (now : ℕ) (of_home : Claim) → HasForgotten (transition_of k now (calls.Leave of_home)).known
unfolding does leaves
left k now of_home =
    let first = noted (Called (calls.Leave of_home)) (begun now k) in
    let last = each_row unbinds (releases first.known.standing of_home first) in
    subst HasForgotten (sym (noted-known after Detaches last)) (detached last.known last.now)

-- the first life
pub born : (home : Address) (declared : Option Address) (numbers : ℕ) (secrets : Life) → (known home declared numbers secrets []).cookies ≡ 0
unfolding known
born home declared numbers secrets = refl

cookies-noted : (step : Step) (t : Transition) → (noted step t).known.cookies ≡ cookies_after t.known step
unfolding after
cookies-noted step t = ap (λ (k : Known). k.cookies) (noted-known after step t)

-- a registration draws none
registers-draws : (careof : Address) (t : Transition) → (registers careof t).known.cookies ≡ t.known.cookies
unfolding registers registers_with seeks
registers-draws careof t = by (target_of t.known)
  where
    by : (agent : Option Address) → (let u : Transition = registers_at careof agent t in u.known.cookies) ≡ t.known.cookies
    by None =
        cookies-noted (Waits seeking initial_dhaad_timeout) (noted (Sends (Discovers (home_of t.known) careof t.known.discoveries)) (noted Seeks t))
        ∙ cookies-noted (Sends (Discovers (home_of t.known) careof t.known.discoveries)) (noted Seeks t)
        ∙ cookies-noted Seeks t
    by (Some agent) =
        let sends : Step = Sends (RegistersHome (home_of t.known) careof agent (next_to agent t.known.numberings)) in
        cookies-noted (Waits resending_home (wait_behind t.known.latest)) (noted sends t) ∙ cookies-noted sends t

-- each later life
pub restarted : (k : Known) (now : ℕ) (secrets : Life) → (transition_of k now (calls.Restart secrets)).known.cookies ≡ 0
unfolding does restarts
restarted k now secrets = by first.known.standing
  where
    first : Transition
    first = noted (Called (calls.Restart secrets)) (begun now k)

    next : Transition
    next = noted (Restarts secrets) first

    none : next.known.cookies ≡ 0
    none = cookies-noted (Restarts secrets) first

    by : (s : Attachment) → (let u : Transition = registers_if_away s next in u.known.cookies) ≡ 0
    by Detached = none
    by AtHome = none
    by (Away careof) = registers-draws careof next ∙ none
