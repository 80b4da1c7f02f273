-- Time goes on, and work that is due is done.
use Rattle.std.proofs.Common.{◌≡◌, ℕ, zero, suc, ◌+◌, ◌-◌, ◌<◌, length, Bool, true, false, refl, sym, ap, ◌∙◌, subst, arith}
use Rattle.std.proofs.Math.Path.{fun_ext}
use Rattle.std.specs.Prelude.{Option, Some, None, not, nat_lt, max, option_map, slice_get, if◌then◌else◌, ◌&&◌, ◌==◌}
use Rattle.std.specs.Option.{option_map_or}
use Rattle.mip_words.specs.declared.address.Address.{Address}
use Rattle.mip_words.specs.declared.moment.Moment.{Moment}
use Rattle.mip_entries.specs.declared.entry.Entry.TheVariants.{At}
use Rattle.mip_history.specs.Setup.{Setup, Host, Kind}
use Rattle.mip_history.specs.Setup.Kind.{Correspondent as OfCorrespondent, Agent as OfAgent, Mobile as OfMobile}
use Rattle.mip_history.specs.Runs.{Run, note}
use Rattle.mip_history.specs.Calls.{Tick}
use Rattle.mip_history.specs.Knowing.{now_in}
use Rattle.mip_history.specs.Nodes.{acts}
use Rattle.mip_history.specs.Waiting.{due_by_kind, due_by_host, due_of, earliest, is_due, Waiting, comes_to, ticks_one, works, works_on, works_until, waited}
use Rattle.mip_engine.specs.Nodes.{NodeSeen}
use Rattle.mip_engine.specs.Roles.{due_of as role_due}
use Rattle.mip_engine.specs.Engines.{EngineSeen, with_entry, at_moment}
use Rattle.mip_engine.specs.Standing.{IsAt, node_in}
use Rattle.mip_engine.proofs.NumberLaws.{numbered_apart}
use Rattle.mip_engine.proofs.QuietLaws.{asked-same, hears-same, nodes-same, history-same, moment-push}

-- a moment comes
pub at_come : (e : EngineSeen) (s : Setup) (run : Run) (moment : Moment) → IsAt e s run → IsAt (with_entry (At moment) (at_moment moment.0 e)) s (note (At moment) run)
at_come e s run moment at = record {
  seed = at.seed;
  asked = at.asked ∙ sym (asked-same s run.past (At moment) (record { holder = λ a. refl; declared = λ by. refl }));
  hears = at.hears ∙ sym (hears-same run.past (At moment) (λ o l. refl));
  posts = at.posts;
  flying = at.flying;
  spots = at.spots;
  firsts = at.firsts;
  nodes = nodes-same e s run (At moment) (record { life = λ n count. refl; spot = λ n. refl }) at;
  count = at.count;
  pasts = at.pasts;
  agent_pasts = at.agent_pasts;
  mobile_pasts = at.mobile_pasts;
  outsiders = at.outsiders;
  numbers = at.numbers;
  now = sym (moment-push s.start run.past (At moment));
  history = history-same e s run (At moment) at;
  numbered = numbered_apart run.posts run.past (At moment) refl at.numbered;
}

-- when a node has work due
abbrev pub due_at : EngineSeen → ℕ → Option ℕ
due_at e n = option_map_or (λ (c : NodeSeen). role_due c.role) (slice_get e.nodes n) None

pub due_is : (e : EngineSeen) (s : Setup) (run : Run) → IsAt e s run → (n : ℕ) → due_at e n ≡ due_of s run n
due_is e s run at n = ap (λ (o : Option NodeSeen). option_map_or (λ (c : NodeSeen). role_due c.role) o None) (at.nodes n) ∙ by (slice_get s.hosts n)
  where
    kind_is : (own : Address) (kind : Kind) → role_due (node_in s run n (record { address = own; kind = kind })).role ≡ due_by_kind s run n own kind
    kind_is own (OfCorrespondent room) = refl
    kind_is own (OfAgent preference life room serves) = refl
    kind_is own (OfMobile agent) = refl

    by : (o : Option Host) → option_map_or (λ (c : NodeSeen). role_due c.role) (option_map (node_in s run n) o) None ≡ due_by_host s run n o
    by None = refl
    by (Some host) = kind_is host.address host.kind

pub earliest_is : (e : EngineSeen) (s : Setup) (run : Run) → IsAt e s run → earliest (due_at e) (length e.nodes) ≡ earliest (due_of s run) (length s.hosts)
earliest_is e s run at =
    ap (λ (f : ℕ → Option ℕ). earliest f (length e.nodes)) (fun_ext (due_is e s run at)) ∙ ap (earliest (due_of s run)) at.count

-- an `at` stands in the event once a moment has come
pub come_told : (s : Setup) (moment : ℕ) (run : Run) (told : Bool) → (comes_to s moment (record { run = run; told = told })).told ≡ true
come_told s moment run false = refl
come_told s moment run true = by (now_in s run == moment)
  where
    w : Waiting
    w = record { run = run; told = true }

    by : (b : Bool) → (let c : Waiting = (if b then w else record { run = note (At (record { 0 = moment })) run; told = true }) in c.told) ≡ true
    by true = refl
    by false = refl

-- a waiting run as work is done next, or not
pub next_none : (more : Waiting → Waiting) (s : Setup) (target : ℕ) (due : Option ℕ) (w : Waiting) → is_due due target ≡ false → works_on more s target due w ≡ w
next_none more s target None w idle = refl
next_none more s target (Some due) w idle = by (nat_lt target due) idle
  where
    by : (b : Bool) → not b ≡ false → (if b then w else more (works s due w)) ≡ w
    by true idle = refl
    by false idle = absurd cc

pub next_some : (more : Waiting → Waiting) (s : Setup) (target : ℕ) (due : Option ℕ) (w : Waiting) → is_due due target ≡ true → works_on more s target due w ≡ more (works_on (λ v. v) s target due w)
next_some more s target None w is = absurd cc
next_some more s target (Some due) w is = by (nat_lt target due) is
  where
    by : (b : Bool) → not b ≡ true → (if b then w else more (works s due w)) ≡ more (if b then w else works s due w)
    by true is = absurd cc
    by false is = refl

pub next_told : (s : Setup) (target : ℕ) (due : Option ℕ) (w : Waiting) → is_due due target ≡ true → (works_on (λ v. v) s target due w).told ≡ true
next_told s target None w is = absurd cc
next_told s target (Some due) w is = by (nat_lt target due) is
  where
    by : (b : Bool) → not b ≡ true → (let v : Waiting = (if b then w else works s due w) in v.told) ≡ true
    by true is = absurd cc
    by false is = come_told s (max (now_in s w.run) due) w.run w.told

abbrev next_due : Setup → Run → Option ℕ
next_due s run = earliest (due_of s run) (length s.hosts)

-- with so many rounds left, what remains to be done leads to this
pub record Leads (e : EngineSeen) (s : Setup) (target left : ℕ) (told : Bool) (end : Waiting) : Type 0 where
  pub run : Run
  pub stands : IsAt e s run
  pub ends : works_until s target left (record { run = run; told = told }) ≡ end

pub begins : (e : EngineSeen) (s : Setup) (run : Run) (target rounds : ℕ) → IsAt e s run → Leads e s target rounds false (works_until s target rounds (record { run = run; told = false }))
begins e s run target rounds at = record { run = run; stands = at; ends = refl }

-- no round is left
pub ended : (e : EngineSeen) (s : Setup) (target : ℕ) (told : Bool) (end : Waiting) → (l : Leads e s target zero told end) → (let w : Waiting = record { run = l.run; told = told } in w) ≡ end
unfolding works_until
ended e s target told end l = l.ends

-- no work is due
pub idles : (e : EngineSeen) (s : Setup) (target left : ℕ) (told : Bool) (end : Waiting) (l : Leads e s target (suc left) told end) → is_due (next_due s l.run) target ≡ false
    → (let w : Waiting = record { run = l.run; told = told } in w) ≡ end
unfolding works_until
idles e s target left told end l idle = sym (next_none (works_until s target left) s target (next_due s l.run) (record { run = l.run; told = told }) idle) ∙ l.ends

-- one round more
pub goes_on : (e after : EngineSeen) (s : Setup) (target left : ℕ) (told : Bool) (end : Waiting) (l : Leads e s target (suc left) told end) → is_due (next_due s l.run) target ≡ true
    → IsAt after s (works_on (λ v. v) s target (next_due s l.run) (record { run = l.run; told = told })).run → Leads after s target left true end
unfolding works_until
goes_on e after s target left told end l is at = record {
  run = next.run;
  stands = at;
  ends = ap (λ (b : Bool). works_until s target left (record { run = next.run; told = b })) (sym (next_told s target (next_due s l.run) now is))
      ∙ sym (next_some (works_until s target left) s target (next_due s l.run) now is) ∙ l.ends;
}
  where
    now : Waiting
    now = record { run = l.run; told = told }

    next : Waiting
    next = works_on (λ v. v) s target (next_due s l.run) now

-- an `at` is left unless one stands there
module _ (e : EngineSeen) (s : Setup) (run : Run) (at : IsAt e s run) (moment : ℕ) (told : Bool) where
  abbrev come : Bool → Waiting
  come b = if b then (record { run = run; told = told }) else record { run = note (At (record { 0 = moment })) run; told = true }

  come_by : (b : Bool) → (told && (e.moment == moment)) ≡ b → (come b).run ≡ (comes_to s moment (record { run = run; told = told })).run
  come_by b is = ap (λ (x : Bool). let w : Waiting = come x in w.run) (sym is ∙ ap (λ (now : ℕ). told && (now == moment)) at.now)

  pub come_stays : (told && (e.moment == moment)) ≡ true → IsAt e s (comes_to s moment (record { run = run; told = told })).run
  come_stays is = subst (λ (r : Run). IsAt e s r) (come_by true is) at

  pub come_passes : (told && (e.moment == moment)) ≡ false → IsAt (with_entry (At (record { 0 = moment })) (at_moment moment e)) s (comes_to s moment (record { run = run; told = told })).run
  come_passes is = subst (λ (r : Run). IsAt (with_entry (At (record { 0 = moment })) (at_moment moment e)) s r) (come_by false is) (at_come e s run (record { 0 = moment }) at)

-- a node does its work where it is due
pub is_due_is : (e : EngineSeen) (s : Setup) (run : Run) → IsAt e s run → (n : ℕ) (due : Option Moment) (now : Moment) → option_map (λ (m : Moment). m.0) due ≡ due_at e n → now.0 ≡ e.moment
    → is_due (option_map (λ (m : Moment). m.0) due) now.0 ≡ is_due (due_of s run n) (now_in s run)
is_due_is e s run at n due now due_same now_same =
    ap (λ (o : Option ℕ). is_due o now.0) (due_same ∙ due_is e s run at n) ∙ ap (is_due (due_of s run n)) (now_same ∙ at.now)

pub ticks_by : (s : Setup) (n : ℕ) (run : Run) (b : Bool) → is_due (due_of s run n) (now_in s run) ≡ b → (if b then acts s n Tick run else run) ≡ ticks_one s n run
ticks_by s n run b is = ap (λ (x : Bool). if x then acts s n Tick run else run) (sym is)

-- a run that has come to a moment
abbrev pub run_come : Setup → ℕ → Run → Bool → Run
run_come s moment run told = let w = comes_to s moment (record { run = run; told = told }) in w.run

-- the last moment comes
abbrev ends_at : Setup → Run → (target rounds : ℕ) → Run
ends_at s run target rounds = let w = comes_to s target (works_until s target rounds (record { run = run; told = false })) in w.run

pub waited_is : (s : Setup) (run : Run) (ms target rounds : ℕ) (told : Bool) → target ≡ now_in s run + ms → rounds ≡ suc ms
    → (let w = works_until s target rounds (record { run = run; told = false }) in told ≡ w.told)
    → (let w = works_until s target rounds (record { run = run; told = false }) in run_come s target w.run told) ≡ waited s run ms
unfolding waited
waited_is s run ms target rounds told target_is rounds_is told_is =
    let w = works_until s target rounds (record { run = run; told = false }) in
    ap (λ (b : Bool). run_come s target w.run b) told_is
    ∙ ap (λ (t : ℕ). ends_at s run t rounds) target_is ∙ ap (λ (r : ℕ). ends_at s run (now_in s run + ms) r) rounds_is

abbrev pub next_run : Setup → (target : ℕ) → Option ℕ → Run → Bool → Run
next_run s target due run told = let w = works_on (λ v. v) s target due (record { run = run; told = told }) in w.run

-- the rounds of a wait, one after another
module _ (e after : EngineSeen) (s : Setup) (target rounds round : ℕ) (told : Bool) (end : Waiting) where
  one_left : round < rounds → Leads e s target (rounds - round) told end → Leads e s target (suc (rounds - (round + 1))) told end
  one_left inside l = let is : rounds - round ≡ suc (rounds - (round + 1)) = omega (arith, inside) in subst (λ (k : ℕ). Leads e s target k told end) is l

  pub round_more : round < rounds → Leads e s target (rounds - round) told end
      → ((run : Run) → IsAt e s run → true ≡ is_due (earliest (due_of s run) (length s.hosts)) target)
      → ((run : Run) → IsAt e s run → IsAt after s (next_run s target (earliest (due_of s run) (length s.hosts)) run told))
      → Leads after s target (rounds - (round + 1)) true end
  round_more inside leads more next =
      let l = one_left inside leads in
      goes_on e after s target (rounds - (round + 1)) told end l (sym (more l.run l.stands)) (next l.run l.stands)

  pub round_none : round < rounds → Leads e s target (rounds - round) told end
      → ((run : Run) → IsAt e s run → false ≡ is_due (earliest (due_of s run) (length s.hosts)) target)
      → ((run : Run) → IsAt e s run → IsAt after s (next_run s target (earliest (due_of s run) (length s.hosts)) run told))
      → (told ≡ end.told) × IsAt after s end.run
  round_none inside leads more next =
      let l = one_left inside leads in
      let w : Waiting = record { run = l.run; told = told } in
      let idle = sym (more l.run l.stands) in
      let is = idles e s target (rounds - (round + 1)) told end l idle in
      let still = subst (λ (v : Waiting). IsAt after s v.run) (next_none (λ v. v) s target (earliest (due_of s l.run) (length s.hosts)) w idle) (next l.run l.stands) in
      (ap (λ (v : Waiting). v.told) is, subst (λ (v : Waiting). IsAt after s v.run) is still)

  pub round_last : rounds - round ≡ 0 → Leads e s target (rounds - round) told end → (told ≡ end.told) × IsAt e s end.run
  round_last none leads =
      let l = subst (λ (k : ℕ). Leads e s target k told end) none leads in
      let is = ended e s target told end l in
      (ap (λ (v : Waiting). v.told) is, subst (λ (v : Waiting). IsAt e s v.run) is l.stands)
