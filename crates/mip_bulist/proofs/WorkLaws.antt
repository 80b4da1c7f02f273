-- Two works of one number are the same.
use Rattle.std.proofs.Common.{◌≡◌, ℕ, refl, sym, ◌∙◌, ap, arith}
use Rattle.std.specs.Prelude.{◌==◌, if◌then◌else◌}
use Rattle.mip_bulist.specs.declared.home_timer.HomeTimer.{HomeTimer}
use Rattle.mip_bulist.specs.declared.home_timer.HomeTimer.TheVariants as home_timers
use Rattle.mip_bulist.specs.declared.work.Work.{Work}
use Rattle.mip_bulist.specs.declared.work.Work.TheVariants.{Resend, Renew, End, Home}
use Rattle.mip_bulist.specs.Timers.{timer_place_of, number_of}

-- the timer of the home registration at a place
timer_at : ℕ → HomeTimer
timer_at place = if place == 0 then home_timers.Resend else if place == 1 then home_timers.Renew else if place == 2 then home_timers.End else home_timers.Discover

at_its_place : (timer : HomeTimer) → timer_at (timer_place_of timer) ≡ timer
unfolding timer_at
at_its_place home_timers.Resend = refl
at_its_place home_timers.Renew = refl
at_its_place home_timers.End = refl
at_its_place home_timers.Discover = refl

one_timer : (a b : HomeTimer) → timer_place_of a ≡ timer_place_of b → a ≡ b
one_timer a b e = sym (at_its_place a) ∙ ap timer_at e ∙ at_its_place b

pub one_work : (a b : Work) → number_of a ≡ number_of b → a ≡ b
one_work (Resend x) (Resend y) e = let same : x ≡ y = omega arith in ap Resend same
one_work (Resend x) (Renew y) e = let no : ⊥ = omega arith in absurd no
one_work (Resend x) (End y) e = let no : ⊥ = omega arith in absurd no
one_work (Resend x) (Home y) e = let no : ⊥ = omega arith in absurd no
one_work (Renew x) (Resend y) e = let no : ⊥ = omega arith in absurd no
one_work (Renew x) (Renew y) e = let same : x ≡ y = omega arith in ap Renew same
one_work (Renew x) (End y) e = let no : ⊥ = omega arith in absurd no
one_work (Renew x) (Home y) e = let no : ⊥ = omega arith in absurd no
one_work (End x) (Resend y) e = let no : ⊥ = omega arith in absurd no
one_work (End x) (Renew y) e = let no : ⊥ = omega arith in absurd no
one_work (End x) (End y) e = let same : x ≡ y = omega arith in ap End same
one_work (End x) (Home y) e = let no : ⊥ = omega arith in absurd no
one_work (Home x) (Resend y) e = let no : ⊥ = omega arith in absurd no
one_work (Home x) (Renew y) e = let no : ⊥ = omega arith in absurd no
one_work (Home x) (End y) e = let no : ⊥ = omega arith in absurd no
one_work (Home x) (Home y) e = let same : timer_place_of x ≡ timer_place_of y = omega arith in ap Home (one_timer x y same)
