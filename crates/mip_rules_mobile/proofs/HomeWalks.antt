-- What steady steps keep, sending a home registration or a request of agents keeps; and with the steps by which a binding is
-- acknowledged, an agent's answer does.
use Rattle.std.proofs.Common.{◌≡◌, ℕ, ◌<◌, refl, sym, ap, ◌∙◌, subst, arith}
use Rattle.std.proofs.lemmas.Bool.{eqb-true, eqb-false}
use Rattle.std.specs.Prelude.{◌*◌, ◌^◌, Option, Some, None, Bool, true, false, ◌==◌, ◌&&◌, not, if◌then◌else◌}
use Rattle.std.proofs.lemmas.Nat.{pow_pos}
use Rattle.mip_words.specs.declared.address.Address.{Address}
use Rattle.mip_discovery.specs.Retries.{DiscoverySeen, retried}
use Rattle.mip_reception.specs.Statuses.{accepts_it, sequence_out_of_window}
use Rattle.mip_rules_mobile.specs.declared.attachment.Attachment.{Attachment}
use Rattle.mip_rules_mobile.specs.declared.attachment.Attachment.TheVariants.{Detached, AtHome, Away}
use Rattle.mip_rules_mobile.specs.declared.home_update.HomeUpdate.{HomeUpdate}
use Rattle.mip_words.specs.Constants.{initial_bindack_timeout, lifetime_unit, initial_dhaad_timeout}
use Rattle.mip_rules_mobile.specs.Timing.{refresh_unit}
use Rattle.mip_rules_mobile.specs.Calls.{Call}
use Rattle.mip_rules_mobile.specs.Trials.{is_idle}
use Rattle.mip_rules_mobile.specs.Sendings.{RegistersHome, DeregistersHome, Discovers}
use Rattle.mip_rules_mobile.specs.Steps.{Step, Sends, Registers, Unregisters, IsRefused, Resequences, Seeks, SeeksAgain, GivesUp, Chooses, Waits, Stops}
use Rattle.mip_rules_mobile.specs.HomeQuestions.{home_of, next_to, target_of}
use Rattle.mip_rules_mobile.specs.DiscoveryQuestions.{next_found}
use Rattle.mip_rules_mobile.specs.RowQuestions.{trial_of, is_bound_row, is_touched_row}
use Rattle.mip_rules_mobile.specs.TimerQuestions.{resending_home, renewing_home, seeking, later}
use Rattle.mip_rules_mobile.specs.Transitions.{Transition, noted}
use Rattle.mip_rules_mobile.specs.HomeRules.{seeks, seeks_again_from, seeks_again_at, seeks_again, registers_with, deregisters_with, wait_behind, registers_at, registers, deregisters_at, resends_as, resends_home, starts_for, starts_bound, is_registered, starts_deletion, is_unregistered, turns_to, is_refused, is_behind, is_accepted, takes_home_ack}
use Rattle.mip_rules_mobile.specs.Trusting.{IsAnswered, IsAgreed, IsRegistered, IsUnregistered, IsDeclined, IsBehind}
use Rattle.mip_rules_mobile.specs.Resting.{IsLed, last_step}
use Rattle.mip_rules_mobile.specs.Fitting.{Fits, OfAck, is_detached, kind_of}
use Rattle.mip_rules_mobile.proofs.Trusts.{accepts-below, latest-stopped}
use Rattle.mip_rules_mobile.proofs.Steady.{Goes, standing-noted, at-noted}
use Rattle.mip_rules_mobile.proofs.TrialWalks.{every-row, every-starts}

-- a step by which a binding is acknowledged may be taken, behind what leads to it
abbrev pub Acks : Call → (Transition → Type 0) → Type 0
Acks c P = (step : Step) (t : Transition) → kind_of step ≡ OfAck → Fits c t.now t.known step → IsLed t.now t.known (last_step None t.steps) step → P t → P (noted step t)

positive-behind : (u : Option HomeUpdate) → 0 < wait_behind u
positive-behind None = omega arith
positive-behind (Some u) = omega arith

positive-power : (n : ℕ) → 0 < 3000 * 2 ^ n
positive-power n = omega (arith, pow_pos n)

module _ (c : Call) (P : Transition → Type 0) (more : Goes c P) where
  pub every-seeks : (careof : Address) (t : Transition) → t.known.standing ≡ Away careof → P t → P (seeks careof t)
  unfolding seeks
  every-seeks careof t here p =
      more (Waits seeking initial_dhaad_timeout) _ refl (omega arith, refl)
      (more (Sends (Discovers (home_of t.known) careof t.known.discoveries)) (noted Seeks t) refl (at-noted (Away careof) (home_of t.known) Seeks t refl (here, refl))
      (more Seeks t refl tt p))

  pub every-seeks_again : (t : Transition) → P t → P (seeks_again t)
  unfolding seeks_again
  every-seeks_again t p = by t.known.standing t.known.discovery refl
    where
      from : (careof : Address) (d : DiscoverySeen) (o : Option DiscoverySeen) → t.known.standing ≡ Away careof → retried t.now d ≡ o → P (seeks_again_from careof o d.identifier t)
      from careof d None here is = more GivesUp t refl tt p
      from careof d (Some e) here is =
          more (Waits seeking (initial_dhaad_timeout * 2 ^ e.retries)) _ refl (positive-power e.retries, refl)
          (more (Sends (Discovers (home_of t.known) careof d.identifier)) (noted SeeksAgain t) refl (at-noted (Away careof) (home_of t.known) SeeksAgain t refl (here, refl))
          (more SeeksAgain t refl tt p))

      by : (s : Attachment) (d : Option DiscoverySeen) → t.known.standing ≡ s → P (seeks_again_at s d t)
      by (Away careof) (Some d) here = from careof d (retried t.now d) here refl
      by (Away careof) None here = p
      by Detached d here = p
      by AtHome d here = p

  pub every-registers_with : (careof agent : Address) (wait : ℕ) (t : Transition) → t.known.standing ≡ Away careof → 0 < wait → P t → P (registers_with careof agent wait t)
  unfolding registers_with
  every-registers_with careof agent wait t here positive p =
      more (Waits resending_home wait) _ refl (positive, refl)
      (more (Sends (RegistersHome (home_of t.known) careof agent (next_to agent t.known.numberings))) t refl (here, refl) p)

  pub every-deregisters_with : (agent : Address) (wait : ℕ) (t : Transition) → t.known.standing ≡ AtHome → 0 < wait → P t → P (deregisters_with agent wait t)
  unfolding deregisters_with
  every-deregisters_with agent wait t here positive p =
      more (Waits resending_home wait) _ refl (positive, refl)
      (more (Sends (DeregistersHome (home_of t.known) agent (next_to agent t.known.numberings))) t refl (here, refl) p)

  pub every-registers : (careof : Address) (t : Transition) → t.known.standing ≡ Away careof → P t → P (registers careof t)
  unfolding registers
  every-registers careof t here p = by (target_of t.known)
    where
      by : (agent : Option Address) → P (registers_at careof agent t)
      by None = every-seeks careof t here p
      by (Some agent) = every-registers_with careof agent (wait_behind t.known.latest) t here (positive-behind t.known.latest) p

  pub every-deregisters_at : (agent : Option Address) (t : Transition) → t.known.standing ≡ AtHome → P t → P (deregisters_at agent t)
  every-deregisters_at None t here p = p
  every-deregisters_at (Some agent) t here p = every-deregisters_with agent initial_bindack_timeout t here (omega arith) p

  pub every-resends_home : (wait : ℕ) (t : Transition) → 0 < wait → P t → P (resends_home wait t)
  unfolding resends_home
  every-resends_home wait t positive p = by t.known.standing t.known.latest refl
    where
      home : (u : HomeUpdate) (deletes : Bool) → t.known.standing ≡ AtHome → P (if deletes then deregisters_with u.agent wait t else t)
      home u true here = every-deregisters_with u.agent wait t here positive p
      home u false here = p

      away : (careof : Address) (u : HomeUpdate) (deletes : Bool) → t.known.standing ≡ Away careof → P (if deletes then t else registers_with careof u.agent wait t)
      away careof u true here = p
      away careof u false here = every-registers_with careof u.agent wait t here positive p

      by : (s : Attachment) (u : Option HomeUpdate) → t.known.standing ≡ s → P (resends_as s u wait t)
      by Detached u here = p
      by AtHome None here = p
      by AtHome (Some u) here = home u u.deletes here
      by (Away careof) None here = p
      by (Away careof) (Some u) here = away careof u u.deletes here

  starting : (due : Bool) (row : ℕ) (t : Transition) → P t → P (starts_for due row t)
  starting true row t p = every-starts c P more row t p
  starting false row t p = p

  every-refused : (status : ℕ) (t : Transition) → IsDeclined c t.known.latest status → P t → P (is_refused status t)
  unfolding is_refused
  every-refused status t declined p = by t.known.standing (next_found t.known) refl
    where
      first : Transition
      first = noted (IsRefused status) t

      stops : P (noted (Stops renewing_home) (noted (Stops resending_home) first))
      stops = more (Stops renewing_home) (noted (Stops resending_home) first) refl refl
          (more (Stops resending_home) first refl refl (more (IsRefused status) t refl declined p))

      by : (s : Attachment) (agent : Option Address) → t.known.standing ≡ s → P (turns_to s agent first)
      by (Away careof) (Some agent) here =
          let one = at-noted (Away careof) (home_of t.known) (IsRefused status) t refl (here, refl) in
          let two = at-noted (Away careof) (home_of t.known) (Chooses agent) first refl one in
          every-registers_with careof agent initial_bindack_timeout (noted (Chooses agent) first) two.0 (omega arith)
          (more (Chooses agent) first refl tt (more (IsRefused status) t refl declined p))
      by (Away careof) None here = stops
      by Detached agent here = stops
      by AtHome agent here = stops

  every-unregistered : (u : HomeUpdate) (t : Transition) → IsUnregistered c t.known.latest u.agent → P t → P (is_unregistered u t)
  unfolding is_unregistered
  every-unregistered u t agreed p =
      every-row P starts_deletion (λ row v q. starting (is_touched_row v.known row) row v q)
      (noted (Unregisters u.agent) (noted (Stops resending_home) t))
      (more (Unregisters u.agent) (noted (Stops resending_home) t) refl (λ take. subst (λ (o : Option HomeUpdate). IsUnregistered c o u.agent) (sym (latest-stopped resending_home t)) agreed)
      (more (Stops resending_home) t refl refl p))

  every-behind : (u : HomeUpdate) (sequence : ℕ) (t : Transition) → IsBehind c t.known.latest u.agent sequence → P t → P (is_behind u sequence t)
  unfolding is_behind
  every-behind u sequence t answered p =
      every-resends_home initial_bindack_timeout (noted (Resequences u.agent sequence) t) (omega arith) (more (Resequences u.agent sequence) t refl answered p)

  module _ (acks : Acks c P) where
    every-registered : (u : HomeUpdate) (lifetime : ℕ) (t : Transition) → is_detached t.known.standing ≡ false
        → IsRegistered c t.known.latest u.agent (later u.at.0 (lifetime_unit * lifetime)) (later u.at.0 (refresh_unit * lifetime)) → P t → P (is_registered u lifetime t)
    unfolding is_registered
    every-registered u lifetime t there agreed p =
        every-row P starts_bound
        (λ row v q. starting (is_touched_row v.known row && (is_idle (trial_of v.known row) && not (is_bound_row v.known v.now row))) row v q)
        (noted (Registers u.agent (later u.at.0 (lifetime_unit * lifetime)) (later u.at.0 (refresh_unit * lifetime))) (noted (Stops resending_home) t))
        (acks (Registers u.agent (later u.at.0 (lifetime_unit * lifetime)) (later u.at.0 (refresh_unit * lifetime))) (noted (Stops resending_home) t) refl
        (ap is_detached (standing-noted (Stops resending_home) t) ∙ there, subst (λ (o : Option HomeUpdate). IsRegistered c o u.agent (later u.at.0 (lifetime_unit * lifetime)) (later u.at.0 (refresh_unit * lifetime))) (sym (latest-stopped resending_home t)) agreed) tt
        (more (Stops resending_home) t refl refl p))

    pub every-home_ack : (u : HomeUpdate) (status sequence lifetime : ℕ) (t : Transition) → is_detached t.known.standing ≡ false → IsAnswered c t.known.latest u status sequence lifetime → P t
        → P (takes_home_ack u status sequence lifetime t)
    unfolding takes_home_ack
    every-home_ack u status sequence lifetime t there answered p = by (accepts_it status) (status == sequence_out_of_window) refl refl
      where
        agreed : status < 128 → (deletes : Bool) → u.deletes ≡ deletes → IsAgreed c t.known.latest deletes u.agent
        agreed low deletes is =
            record { update = u; status = status; sequence = sequence; lifetime = lifetime; answered = answered; accepts = low; kind = is; to = refl }

        granted : status < 128 → (deletes none : Bool) → u.deletes ≡ deletes → (lifetime == 0) ≡ none → P (if deletes then is_unregistered u t else if none then is_refused status t else is_registered u lifetime t)
        granted low true none is has = every-unregistered u t (agreed low true is) p
        granted low false true is has = every-refused status t (u, sequence, lifetime, answered) p
        granted low false false is has =
            every-registered u lifetime t there (record { agreed = agreed low false is; some = λ none. eqb-false lifetime 0 has none; ends = refl; renews = refl }) p

        by : (accepted behind : Bool) → accepts_it status ≡ accepted → (status == sequence_out_of_window) ≡ behind
            → P (if accepted then is_accepted u status lifetime t else if behind then is_behind u sequence t else is_refused status t)
        by true behind low is = granted (accepts-below status low) u.deletes (lifetime == 0) refl refl
        by false true low is = every-behind u sequence t (u, lifetime, subst (λ (n : ℕ). IsAnswered c t.known.latest u n sequence lifetime) (eqb-true status 135 is) answered, refl) p
        by false false low is = every-refused status t (u, sequence, lifetime, answered) p
