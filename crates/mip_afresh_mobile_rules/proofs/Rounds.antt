-- Rules that go round by round.
use Rattle.std.proofs.Common.{◌≡◌, ℕ, zero, suc, ◌+◌, ◌-◌, ◌<◌, ◌≤◌, List, [], ◌∷◌, ◌++◌, refl, sym, ap, ◌∙◌, arith}
use Rattle.std.specs.Prelude.{Option, Some, None}
use Rattle.mip_bulist.specs.Timers.{due_work}
use Rattle.mip_bulist.specs.declared.work.Work.{Work}
use Rattle.mip_entries.specs.declared.answer.Answer.{Answer}
use Rattle.mip_rules_mobile.specs.Transitions.{Transition}
use Rattle.mip_rules_mobile.specs.TimerQuestions.{moment}
use Rattle.mip_rules_mobile.specs.OutRules.{passes_on, passes_all}
use Rattle.mip_rules_mobile.specs.TrialRules.{each_from}
use Rattle.mip_rules_mobile.specs.RingingRules.{rings, rings_on, ticks}

-- one answer more is passed on last
pub passes-more : (answers : List Answer) (a : Answer) (t : Transition) → passes_all (answers ++ a ∷ []) t ≡ passes_on a (passes_all answers t)
unfolding passes_all
passes-more [] a t = refl
passes-more (b ∷ answers) a t = passes-more answers a (passes_on b t)

-- a rule for each of the rows from one on, row by row
pub each-step : (rule : ℕ → Transition → Transition) (row : ℕ) (t : Transition) → row < 16 → each_from rule (16 - row) row t ≡ each_from rule (16 - (row + 1)) (row + 1) (rule row t)
each-step rule row t below =
    let more : 16 - row ≡ suc (16 - (row + 1)) = omega (arith, below) in
    ap (λ (n : ℕ). each_from rule n row t) more

pub each-done : (rule : ℕ → Transition → Transition) (row : ℕ) (t : Transition) → 16 ≤ row → each_from rule (16 - row) row t ≡ t
each-done rule row t done =
    let none : 16 - row ≡ zero = omega (arith, done) in
    ap (λ (n : ℕ). each_from rule n row t) none

-- a round in which work is due
pub ticks-step : (n round : ℕ) (work : Work) (t : Transition) → round < n → Some work ≡ due_work (moment t.now) t.known.list.timers
    → ticks (n - round) t ≡ ticks (n - (round + 1)) (rings work t)
unfolding ticks
ticks-step n round work t below due =
    let more : n - round ≡ suc (n - (round + 1)) = omega (arith, below) in
    ap (λ (m : ℕ). ticks m t) more ∙ ap (λ (o : Option Work). rings_on (ticks (n - (round + 1))) o t) (sym due)

-- where none is due nothing is done
pub ticks-idle : (n : ℕ) (t : Transition) → None ≡ due_work (moment t.now) t.known.list.timers → ticks n t ≡ t
unfolding ticks
ticks-idle zero t due = refl
ticks-idle (suc n) t due = ap (λ (o : Option Work). rings_on (ticks n) o t) (sym due)

pub ticks-done : (n round : ℕ) (t : Transition) → n ≤ round → ticks (n - round) t ≡ t
unfolding ticks
ticks-done n round t done =
    let none : n - round ≡ zero = omega (arith, done) in
    ap (λ (m : ℕ). ticks m t) none
