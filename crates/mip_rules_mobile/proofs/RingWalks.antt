-- What steady steps keep, due work keeps, in a call that hands over no packet.
use Rattle.std.proofs.Common.{◌≡◌, ℕ, zero, suc, length, refl, sym, ap, ◌∙◌}
use Rattle.std.specs.Prelude.{Option, Some, None, Bool, true, false, if◌then◌else◌}
use Rattle.mip_words.specs.declared.address.Address.{Address}
use Rattle.mip_bulist.specs.declared.home_timer.HomeTimer.{HomeTimer}
use Rattle.mip_bulist.specs.declared.home_timer.HomeTimer.TheVariants as home_timers
use Rattle.mip_bulist.specs.declared.work.Work.{Work}
use Rattle.mip_bulist.specs.declared.work.Work.TheVariants.{Resend, Renew, End, Home}
use Rattle.mip_bulist.specs.Timers.{due_work}
use Rattle.mip_rules_mobile.specs.declared.attachment.Attachment.{Attachment}
use Rattle.mip_rules_mobile.specs.declared.attachment.Attachment.TheVariants.{Detached, AtHome, Away}
use Rattle.mip_rules_mobile.specs.declared.registered.Registered.{Registered}
use Rattle.mip_rules_mobile.specs.Calls as calls
use Rattle.mip_rules_mobile.specs.Calls.{Call}
use Rattle.mip_rules_mobile.specs.Coming.{is_take}
use Rattle.mip_rules_mobile.specs.Trials.{Rest, is_bound}
use Rattle.mip_rules_mobile.specs.Steps.{Unregisters, Tries, Unbinds, Rings}
use Rattle.mip_rules_mobile.specs.RowQuestions.{peer_of_row, trial_of}
use Rattle.mip_rules_mobile.specs.TimerQuestions.{moment}
use Rattle.mip_rules_mobile.specs.Transitions.{Transition, noted}
use Rattle.mip_rules_mobile.specs.RingingRules.{registers_if_away, ends_home, ends_at, ends_row, rings_home, does_work, rings, rings_on, ticks, ticks_all}
use Rattle.mip_rules_mobile.proofs.Steady.{Goes}
use Rattle.mip_rules_mobile.proofs.TrialWalks.{every-starts, every-resends_row, doubled-positive}
use Rattle.mip_rules_mobile.proofs.HomeWalks.{every-registers, every-resends_home, every-seeks_again}

module _ (c : Call) (P : Transition → Type 0) (more : Goes c P) (other : is_take c ≡ false) where
  every-registers_if_away : (t : Transition) → P t → P (registers_if_away t.known.standing t)
  every-registers_if_away t p = by t.known.standing refl
    where
      by : (s : Attachment) → t.known.standing ≡ s → P (registers_if_away s t)
      by Detached here = p
      by AtHome here = p
      by (Away careof) here = every-registers c P more careof t here p

  every-ends_home : (r : Option Registered) (t : Transition) → P t → P (ends_home r t)
  every-ends_home None t p = p
  every-ends_home (Some r) t p = more (Unregisters r.agent) t refl (λ take. absurd (let both : true ≡ false = sym take ∙ other in cc)) p

  every-ends_row : (row : ℕ) (t : Transition) → P t → P (ends_row row t)
  unfolding ends_row
  every-ends_row row t p = by (peer_of_row t.known row) refl
    where
      resting : (bound : Bool) (u : Transition) → P u → P (if bound then noted (Tries row Rest) u else u)
      resting true u q = more (Tries row Rest) u refl tt q
      resting false u q = q

      by : (peer : Option Address) → peer_of_row t.known row ≡ peer → P (ends_at peer row t)
      by None of = p
      by (Some peer) of =
          let u = noted (Unbinds row peer) t in
          resting (is_bound (trial_of u.known row)) u (more (Unbinds row peer) t refl of p)

  every-rings_home : (timer : HomeTimer) (t : Transition) → P t → P (rings_home timer t)
  every-rings_home home_timers.Resend t p = every-resends_home c P more _ t (doubled-positive t.known.wait) p
  every-rings_home home_timers.Renew t p = every-registers_if_away t p
  every-rings_home home_timers.End t p = every-ends_home t.known.registered t p
  every-rings_home home_timers.Discover t p = every-seeks_again c P more t p

  pub every-work : (work : Work) (t : Transition) → P t → P (does_work work t)
  every-work (Resend row) t p = every-resends_row c P more row t p
  every-work (Renew row) t p = every-starts c P more row t p
  every-work (End row) t p = every-ends_row row t p
  every-work (Home timer) t p = every-rings_home timer t p

module _ (c : Call) (P : Transition → Type 0) (more : Goes c P) (tick : c ≡ calls.Tick) where
  pub every-rings : (work : Work) (t : Transition) → P t → P (rings work t)
  unfolding rings
  every-rings work t p = every-work c P more (ap is_take tick) work (noted (Rings work) t) (more (Rings work) t refl tick p)

  pub every-ticks : (n : ℕ) (t : Transition) → P t → P (ticks n t)
  unfolding ticks
  every-ticks zero t p = p
  every-ticks (suc n) t p = by (λ u q. every-ticks n u q) (due_work (moment t.now) t.known.list.timers)
    where
      by : ((u : Transition) → P u → P (ticks n u)) → (work : Option Work) → P (rings_on (ticks n) work t)
      by again None = p
      by again (Some work) = again (rings work t) (every-rings work t p)

  pub every-ticks_all : (t : Transition) → P t → P (ticks_all t)
  unfolding ticks_all
  every-ticks_all t p = every-ticks (length t.known.list.timers) t p
