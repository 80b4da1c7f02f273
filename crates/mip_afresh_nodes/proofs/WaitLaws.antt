-- A wait goes on as long as work is due by its target.
use Rattle.std.proofs.Common.{◌≡◌, ℕ, zero, suc, ◌+◌, ◌-◌, ◌<◌, Bool, true, false, refl, sym, ap, ◌∙◌, subst, arith}
use Rattle.std.specs.Prelude.{Option, Some, None, length, max, nat_lt, if◌then◌else◌, ◌&&◌, ◌==◌}
use Rattle.mip_entries.specs.declared.entry.Entry.TheVariants.{At}
use Rattle.mip_history.specs.Setup.{Setup}
use Rattle.mip_history.specs.Runs.{Run, note}
use Rattle.mip_history.specs.Knowing.{now_in}
use Rattle.mip_history.specs.Waiting.{Waiting, due_of, earliest, comes_to, works, works_on, works_until}
use Rattle.mip_afresh.specs.Tellings.{TellingSeen, with_run}
use Rattle.mip_afresh_nodes.specs.Waits.{due_by, waiting, HasCome}

rests : (more : Waiting → Waiting) (s : Setup) (target : ℕ) (o : Option ℕ) (w : Waiting) → due_by o target ≡ None → works_on more s target o w ≡ w
rests more s target None w e = refl
rests more s target (Some due) w e = by (nat_lt target due) e
  where
    by : (b : Bool) → ◌≡◌ {A = Option ℕ} (if b then None else Some due) None → (if b then w else more (works s due w)) ≡ w
    by true e = refl
    by false e = absurd cc

goes : (more : Waiting → Waiting) (s : Setup) (target d : ℕ) (o : Option ℕ) (w : Waiting) → due_by o target ≡ Some d → works_on more s target o w ≡ more (works s d w)
goes more s target d None w e = absurd cc
goes more s target d (Some due) w e = by (nat_lt target due) e
  where
    by : (b : Bool) → ◌≡◌ {A = Option ℕ} (if b then None else Some due) (Some d) → (if b then w else more (works s due w)) ≡ more (works s d w)
    by true e = absurd cc
    by false e = (let same : due ≡ d = cc in ap (λ (x : ℕ). more (works s x w)) same)

pub wait_rests : (s : Setup) (target n : ℕ) (w : Waiting) → due_by (earliest (due_of s w.run) (length s.hosts)) target ≡ None → works_until s target n w ≡ w
unfolding works_until
wait_rests s target zero w e = refl
wait_rests s target (suc n) w e = rests (works_until s target n) s target (earliest (due_of s w.run) (length s.hosts)) w e

pub wait_goes : (s : Setup) (target n d : ℕ) (w : Waiting) → due_by (earliest (due_of s w.run) (length s.hosts)) target ≡ Some d → works_until s target (suc n) w ≡ works_until s target n (works s d w)
unfolding works_until
wait_goes s target n d w e = goes (works_until s target n) s target d (earliest (due_of s w.run) (length s.hosts)) w e

pub wait_ends : (s : Setup) (target : ℕ) (w : Waiting) → works_until s target zero w ≡ w
unfolding works_until
wait_ends s target w = refl

-- an `at` stands in the event once a moment has come
come_told : (s : Setup) (moment : ℕ) (run : Run) (told : Bool) → (comes_to s moment (record { run = run; told = told })).told ≡ true
come_told s moment run false = refl
come_told s moment run true = by (now_in s run == moment)
  where
    w : Waiting
    w = record { run = run; told = true }

    by : (b : Bool) → (let c : Waiting = (if b then w else record { run = note (At (record { 0 = moment })) run; told = true }) in c.told) ≡ true
    by true = refl
    by false = refl

-- and so it does once work was done
pub worked : (s : Setup) (due : ℕ) (w : Waiting) (run : Run) → run ≡ (works s due w).run → ◌≡◌ {A = Waiting} (works s due w) (record { run = run; told = true })
worked s due w run e =
    ap (λ (b : Bool). let x : Waiting = record { run = (works s due w).run; told = b } in x) (come_told s (max (now_in s w.run) due) w.run w.told)
    ∙ ap (λ (r : Run). let x : Waiting = record { run = r; told = true } in x) (sym e)

-- a wait that has come to this
pub has_come : (old new : TellingSeen) (told : Bool) (w : Waiting) → new.setup ≡ old.setup → waiting new told ≡ w → HasCome old new told w
has_come old new told w same e = record {
  run = ap (λ (s : Setup). let t : TellingSeen = record { setup = s; run = new.run } in t) same ∙ ap (λ (x : Waiting). with_run x.run old) e;
  tells = ap (λ (x : Waiting). x.told) e;
}
