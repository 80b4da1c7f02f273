-- The first place at which two histories differ.
use Rattle.std.specs.Prelude.{◌≡◌, ◌≢◌, ⊤, ℕ, ◌+◌, List, take, Bool, true, false, None, Some, Result, Ok, Err}
use Rattle.std.specs.declared.option.Option.{Option}
use Rattle.mip_entries.specs.declared.entry.Entry.{Entry}
use Rattle.mip_audit.specs.declared.history_fault.HistoryFault.{HistoryFault}
use Rattle.mip_audit.specs.declared.history_fault.HistoryFault.TheVariants as faults

-- the entries before this place are the same in both, and with it they are not
pub record DifferAtPlace (place : ℕ) (given permitted : List Entry) : Type 0 where
  pub before : take place given ≡ take place permitted
  pub there : take (place + 1) given ≢ take (place + 1) permitted

-- no place, or the first at which they differ
abbrev pub IsFirstPlace : Option ℕ → List Entry → List Entry → Type 0
IsFirstPlace None given permitted = given ≡ permitted
IsFirstPlace (Some place) given permitted = DifferAtPlace place given permitted

-- an audit answers that a history is the permitted one, or where it differs first; want of memory says nothing
abbrev pub JudgesHistory : {X : Type 0} → Result X HistoryFault → List Entry → List Entry → Type 0
JudgesHistory (Ok _) given permitted = given ≡ permitted
JudgesHistory (Err (faults.Differs place)) given permitted = DifferAtPlace place given permitted
JudgesHistory (Err faults.Memory) given permitted = ⊤

-- whether two entries are the same
pub record Tells (same : Bool) (a b : Entry) : Type 0 where
  pub yes : same ≡ true → a ≡ b
  pub no : same ≡ false → a ≢ b

-- whether an entry is the one that is there
abbrev pub TellsAny : Bool → Entry → Option Entry → Type 0
TellsAny same a None = same ≡ false
TellsAny same a (Some b) = Tells same a b
