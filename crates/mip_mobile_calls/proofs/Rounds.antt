-- Rules that are done again and again.
use Rattle.std.proofs.Common.{◌≡◌, ℕ, zero, suc, ◌+◌, refl, sym, ap, ◌∙◌, arith}
use Rattle.std.specs.Prelude.{Bool, true, false, not, nat_lt, if◌then◌else◌, Option, Some, None, is_some, List, [], ◌∷◌}
use Rattle.mip_words.specs.declared.moment.Moment.{Moment}
use Rattle.mip_bulist.specs.declared.timer.Timer.{Timer}
use Rattle.mip_bulist.specs.declared.work.Work.{Work}
use Rattle.mip_bulist.specs.Timers.{due_work, first_due}
use Rattle.mip_rules_mobile.specs.TimerQuestions.{moment}
use Rattle.mip_rules_mobile.specs.Transitions.{Transition}
use Rattle.mip_rules_mobile.specs.TrialRules.{each_from}
use Rattle.mip_rules_mobile.specs.RingingRules.{rings, rings_on, ticks}
use Rattle.mip_mobile_calls.specs.Rounds.{rings_once}

-- a rule for one row more is the rule for the row behind the others
each-more : (rule : ℕ → Transition → Transition) (n r : ℕ) (t : Transition) → each_from rule (suc n) r t ≡ rule (n + r) (each_from rule n r t)
each-more rule zero r t = let e : r ≡ zero + r = omega arith in ap (λ (k : ℕ). rule k t) e
each-more rule (suc n) r t =
    let e : n + (r + 1) ≡ suc n + r = omega arith in
    each-more rule n (r + 1) (rule r t) ∙ ap (λ (k : ℕ). rule k (each_from rule n (r + 1) (rule r t))) e

pub each-next : (rule : ℕ → Transition → Transition) (n : ℕ) (t : Transition) → each_from rule (n + 1) 0 t ≡ rule n (each_from rule n 0 t)
each-next rule n t =
    let more : n + 1 ≡ suc n = omega arith in
    let last : n + 0 ≡ n = omega arith in
    ap (λ (k : ℕ). each_from rule k 0 t) more ∙ each-more rule n 0 t ∙ ap (λ (k : ℕ). rule k (each_from rule n 0 t)) last

pub ticks-none : (t : Transition) → ticks 0 t ≡ t
unfolding ticks
ticks-none t = refl

-- after as many rounds as may be, one more
tick-more : (n : ℕ) (t : Transition) → ticks (suc n) t ≡ rings_once (ticks n t)
unfolding ticks
tick-more zero t = by (due_work (moment t.now) t.known.list.timers)
  where
    by : (work : Option Work) → rings_on (ticks 0) work t ≡ rings_on (λ u. u) work t
    by None = refl
    by (Some work) = ticks-none (rings work t)
tick-more (suc n) t = by (λ u. tick-more n u) (due_work (moment t.now) t.known.list.timers) refl
  where
    by : ((u : Transition) → ticks (suc n) u ≡ rings_once (ticks n u)) → (work : Option Work) → due_work (moment t.now) t.known.list.timers ≡ work
        → rings_on (ticks (suc n)) work t ≡ rings_once (rings_on (ticks n) work t)
    by more None is = ap (λ (w : Option Work). rings_on (λ u. u) w t) (sym is)
    by more (Some work) is = more (rings work t)

pub tick-next : (n : ℕ) (t : Transition) → ticks (n + 1) t ≡ rings_once (ticks n t)
tick-next n t = let more : n + 1 ≡ suc n = omega arith in ap (λ (k : ℕ). ticks k t) more ∙ tick-more n t

pub same-work : (a b : Work) → Some a ≡ Some b → a ≡ b
same-work a b is = cc

pub not-none : (a : Work) (P : Type 0) → None ≡ Some a → P
not-none a P is = absurd cc

-- the first timer's moment tells whether its work is due
pub due-some : (now : ℕ) (ts : List Timer) (due : Moment) → first_due ts ≡ Some due → is_some (due_work (moment now) ts) ≡ not (nat_lt now due.0)
due-some now [] due is = absurd cc
due-some now (t ∷ ts) due is = by (nat_lt now t.due.0) ∙ ap (λ (m : Moment). not (nat_lt now m.0)) cc
  where
    by : (b : Bool) → is_some (let w : Option Work = (if b then None else Some t.work) in w) ≡ not b
    by true = refl
    by false = refl

pub due-none : (now : ℕ) (ts : List Timer) → first_due ts ≡ None → is_some (due_work (moment now) ts) ≡ false
due-none now [] is = refl
due-none now (t ∷ ts) is = absurd cc

pub some-work : (o : Option Work) → is_some o ≡ true → (work : Work) × (o ≡ Some work)
some-work None is = absurd cc
some-work (Some work) is = (work, refl)

pub is-none : (o : Option Work) → is_some o ≡ false → o ≡ None
is-none None is = refl
is-none (Some work) is = absurd cc
