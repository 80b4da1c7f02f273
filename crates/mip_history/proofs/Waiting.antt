-- Time goes on by what is waited, and what is due meanwhile keeps the run.
use Rattle.std.proofs.Common.{◌≡◌, ℕ, zero, suc, ◌+◌, ◌≤◌, List, [], ◌∷◌, ◌++◌, Bool, true, false, length, ltb, refl, sym, ap, ◌∙◌, subst, arith}
use Rattle.std.specs.Prelude.{max, Option, Some, None, unwrap_or, ◌==◌, ◌&&◌, if◌then◌else◌}
use Rattle.std.specs.List.{AllByRecursion}
use Rattle.std.proofs.lemmas.List.Sums.{fold-append}
use Rattle.std.proofs.lemmas.Bool.{and_parts, eqb-true, ltb-false}
use Rattle.mip_words.proofs.EachLaws.{each-append}
use Rattle.mip_entries.specs.declared.entry.Entry.{Entry}
use Rattle.mip_entries.specs.declared.entry.Entry.TheVariants as entries
use Rattle.mip_entries.specs.Stamped.{Stamped}
use Rattle.mip_rules_correspondent.specs.Steps.{Step}
use Rattle.mip_history.specs.Setup.{Setup}
use Rattle.mip_history.specs.Runs.{Run, note, past_at}
use Rattle.mip_history.specs.Questions.{moment_says, moment_in, restarts, life_in}
use Rattle.mip_history.specs.Calls.{Tick}
use Rattle.mip_history.specs.Knowing.{now_in, secrets_in}
use Rattle.mip_history.specs.KnowingLaws.{part_in}
use Rattle.mip_history.specs.Nodes.{acts}
use Rattle.mip_history.specs.Waiting.{Waiting, due_of, earliest, comes_to, is_due, ticks_one, ticked, works, works_on, works_until}
use Rattle.mip_history.specs.Bound.{Lived, lived, accepted_by}
use Rattle.mip_history.proofs.Runs.{Meets, IsPast, IsRun, Goes, goes_then}
use Rattle.mip_history.proofs.Acting.{stays, acts_calmly}

-- a run comes to a moment
pub record Comes (s : Setup) (before after : Run) (at : ℕ) : Type 0 where
  pub run : IsRun s after
  pub moment : moment_in s.start after.past ≡ at
  pub life : (n : ℕ) → life_in after.past n ≡ life_in before.past n

-- and is not beyond one
pub record IsWithin (s : Setup) (before after : Run) (target : ℕ) : Type 0 where
  pub run : IsRun s after
  pub early : moment_in s.start after.past ≤ target
  pub life : (n : ℕ) → life_in after.past n ≡ life_in before.past n

all_later : (at later : ℕ) (past : List (Stamped Step)) → at ≤ later → AllByRecursion (λ t. t.at ≤ at) past → AllByRecursion (λ t. t.at ≤ later) past
all_later at later [] p all = tt
all_later at later (t ∷ past) p all = (let e = all.0 in omega arith, all_later at later past p all.1)

pub at_comes : (s : Setup) (run : Run) (m : ℕ) → IsRun s run → moment_in s.start run.past ≤ m → Comes s run (note (entries.At (record { 0 = m })) run) m
unfolding accepted_by
at_comes s run m is later = record {
  run = record {
    nodes = is.nodes;
    agents = is.agents;
    mobiles = is.mobiles;
    kept = each-append (Meets s) [] run.past (e ∷ []) is.kept (later, tt);
    pasts = λ n mine. goes_later n (past_at run n) (is.pasts n mine);
    parts = λ n home agent host. let q = is.parts n home agent host in record {
      secrets = q.secrets ∙ ap (λ (l : ℕ). secrets_in s n l) (sym (life n));
      past = goes_later n (part_in s run n home).past q.past;
    };
  };
  moment = moment;
  life = life;
}
  where
    e : Entry
    e = entries.At (record { 0 = m })

    moment : moment_in s.start (run.past ++ e ∷ []) ≡ m
    moment = fold-append (λ (at : ℕ) (x : Entry). unwrap_or (moment_says x) at) s.start run.past (e ∷ [])

    life : (n : ℕ) → life_in (run.past ++ e ∷ []) n ≡ life_in run.past n
    life n = fold-append (restarts n) 0 run.past (e ∷ [])

    goes_later : (n : ℕ) (steps : List (Stamped Step)) → IsPast s run.past steps n → IsPast s (run.past ++ e ∷ []) steps n
    goes_later n steps p = record {
      accepted = p.accepted ∙ sym (ap (λ (l : Lived). l.accepted) (fold-append (lived n) (record { at = s.start; accepted = [] }) run.past (e ∷ [])));
      rises = p.rises;
      early = subst (λ (at : ℕ). AllByRecursion (λ t. t.at ≤ at) steps) (sym moment) (all_later (moment_in s.start run.past) m steps later p.early);
    }

pub comes_goes : (s : Setup) (m : ℕ) (w : Waiting) → IsRun s w.run → now_in s w.run ≤ m → Comes s w.run (comes_to s m w).run m
comes_goes s m w is later = by (w.told && (now_in s w.run == m)) refl
  where
    by : (b : Bool) → (w.told && (now_in s w.run == m)) ≡ b → Comes s w.run (let x : Waiting = (if b then w else record { run = note (entries.At (record { 0 = m })) w.run; told = true }) in x.run) m
    by true e = record { run = is; moment = eqb-true (now_in s w.run) m (and_parts w.told (now_in s w.run == m) e).1; life = λ n. refl }
    by false e = at_comes s w.run m is later

-- nodes with work due do it
ticks_one_goes : (s : Setup) (n : ℕ) (run : Run) → IsRun s run → Goes s run (ticks_one s n run)
ticks_one_goes s n run is = by (is_due (due_of s run n) (now_in s run))
  where
    by : (b : Bool) → Goes s run (if b then acts s n Tick run else run)
    by true = acts_calmly s n Tick run is refl
    by false = stays s run is

pub ticked_goes : (s : Setup) (n : ℕ) (run : Run) → IsRun s run → Goes s run (ticked s n run)
unfolding ticked
ticked_goes s zero run is = stays s run is
ticked_goes s (suc n) run is =
    let before = ticked_goes s n run is in
    goes_then s run (ticked s n run) _ before (ticks_one_goes s n (ticked s n run) before.run)

-- the work of one moment
max_within : (a b t : ℕ) → a ≤ t → b ≤ t → max a b ≤ t
max_within a b t p q = omega arith

pub max_later : (a b : ℕ) → a ≤ max a b
max_later a b = omega arith

pub works_within : (s : Setup) (due target : ℕ) (w : Waiting) → IsRun s w.run → now_in s w.run ≤ target → due ≤ target → IsWithin s w.run (works s due w).run target
works_within s due target w is early by_then =
    let m = max (now_in s w.run) due in
    let come = comes_goes s m w is (max_later (now_in s w.run) due) in
    let done = ticked_goes s (length s.hosts) (comes_to s m w).run come.run in
    record {
      run = done.run;
      early = subst (λ (at : ℕ). at ≤ target) (sym (done.moment ∙ come.moment)) (max_within (now_in s w.run) due target early by_then);
      life = λ n. done.life n ∙ come.life n;
    }

-- and of every moment until the last
module _ (s : Setup) (target : ℕ) (more : Waiting → Waiting) (keeps : (w : Waiting) → IsRun s w.run → now_in s w.run ≤ target → IsWithin s w.run (more w).run target) where
  works_on_within : (o : Option ℕ) (w : Waiting) → IsRun s w.run → now_in s w.run ≤ target → IsWithin s w.run (works_on more s target o w).run target
  works_on_within None w is early = record { run = is; early = early; life = λ n. refl }
  works_on_within (Some due) w is early = by (ltb target due) refl
    where
      by : (b : Bool) → ltb target due ≡ b → IsWithin s w.run (let x : Waiting = (if b then w else more (works s due w)) in x.run) target
      by true e = record { run = is; early = early; life = λ n. refl }
      by false e =
          let one = works_within s due target w is early (ltb-false target due e) in
          let next = keeps (works s due w) one.run one.early in
          record { run = next.run; early = next.early; life = λ m. next.life m ∙ one.life m }

pub works_until_within : (s : Setup) (target n : ℕ) (w : Waiting) → IsRun s w.run → now_in s w.run ≤ target → IsWithin s w.run (works_until s target n w).run target
unfolding works_until
works_until_within s target zero w is early = record { run = is; early = early; life = λ n. refl }
works_until_within s target (suc n) w is early =
    works_on_within s target (works_until s target n) (works_until_within s target n) (earliest (due_of s w.run) (length s.hosts)) w is early
