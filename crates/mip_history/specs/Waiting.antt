-- Time goes on, and what is due meanwhile is done at its moment. RFC 6275 sections 10.3.1, 11.7.1, 11.7.2 and 11.8
use Rattle.std.specs.Prelude.{ℕ, zero, suc, ◌+◌, max, min, Bool, true, false, not, ◌&&◌, ◌==◌, nat_lt, if◌then◌else◌, length, Option, Some, None, option_map, slice_get}
use Rattle.mip_words.specs.declared.address.Address.{Address}
use Rattle.mip_entries.specs.declared.entry.Entry.TheVariants.{At}
use Rattle.mip_bulist.specs.Timers.{first_due}
use Rattle.mip_history.specs.Setup.{Setup, Host, Kind}
use Rattle.mip_history.specs.Setup.Kind.{Correspondent, Agent, Mobile}
use Rattle.mip_history.specs.Runs.{Run, note}
use Rattle.mip_history.specs.Calls.{Tick}
use Rattle.mip_history.specs.Knowing.{now_in, agent_known_in, mobile_known_in}
use Rattle.mip_history.specs.Nodes.{acts}

-- when a node has work due: an agent the end of a registration, a mobile whatever its timers are set for
abbrev pub due_by_kind : Setup → Run → ℕ → Address → Kind → Option ℕ
due_by_kind s run n own (Correspondent room) = None
due_by_kind s run n own (Agent preference life room serves) = option_map (λ e. e.end.0) (slice_get (agent_known_in run n serves).ends 0)
due_by_kind s run n own (Mobile agent) = option_map (λ m. m.0) (first_due (mobile_known_in s run n own agent).list.timers)

abbrev pub due_by_host : Setup → Run → ℕ → Option Host → Option ℕ
due_by_host s run n None = None
due_by_host s run n (Some host) = due_by_kind s run n host.address host.kind

abbrev pub due_of : Setup → Run → ℕ → Option ℕ
due_of s run n = due_by_host s run n (slice_get s.hosts n)

abbrev pub sooner : Option ℕ → Option ℕ → Option ℕ
sooner None b = b
sooner (Some a) None = Some a
sooner (Some a) (Some b) = Some (min a b)

-- the earliest of the first so many moments
abbrev pub earliest : (ℕ → Option ℕ) → ℕ → Option ℕ
earliest due zero = None
earliest due (suc n) = sooner (earliest due n) (due n)

-- a run in an event that waits, and whether an `at` stands in this event at the present moment
pub record Waiting : Type 0 where
  pub run : Run
  pub told : Bool

-- the moment is this one from here on
abbrev pub comes_to : Setup → ℕ → Waiting → Waiting
comes_to s moment w =
    if w.told && (now_in s w.run == moment) then w
    else record { run = note (At (record { 0 = moment })) w.run; told = true }

abbrev pub is_due : Option ℕ → ℕ → Bool
is_due None now = false
is_due (Some due) now = not (nat_lt now due)

-- a node with work due by now does it
abbrev pub ticks_one : Setup → ℕ → Run → Run
ticks_one s n run = if is_due (due_of s run n) (now_in s run) then acts s n Tick run else run

-- so do the first so many nodes, in order of declaration
unfoldable pub ticked : Setup → ℕ → Run → Run
ticked s zero run = run
ticked s (suc n) run = ticks_one s n (ticked s n run)

-- what is due is done at its moment, or now if that has passed
abbrev pub works : Setup → ℕ → Waiting → Waiting
works s due w = let come = comes_to s (max (now_in s w.run) due) w in record { run = ticked s (length s.hosts) come.run; told = come.told }

abbrev pub works_on : (Waiting → Waiting) → Setup → (target : ℕ) → Option ℕ → Waiting → Waiting
works_on more s target None w = w
works_on more s target (Some due) w = if nat_lt target due then w else more (works s due w)

-- as long as work is due by the target, the earliest is done next; so many moments at most
unfoldable pub works_until : Setup → (target : ℕ) → ℕ → Waiting → Waiting
works_until s target zero w = w
works_until s target (suc n) w = works_on (works_until s target n) s target (earliest (due_of s w.run) (length s.hosts)) w

-- so many milliseconds pass
unfoldable pub waited : Setup → Run → ℕ → Run
waited s run ms =
    (comes_to s (now_in s run + ms) (works_until s (now_in s run + ms) (suc ms) (record { run = run; told = false }))).run
