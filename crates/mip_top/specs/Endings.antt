-- How a run ends, whatever its words ask for: what its status tells of calls that failed, and what it leaves alone.
use Rattle.std.specs.Prelude.{◌≡◌, ◌≢◌, ℕ, ◌≤◌, List, true, false}
use Rattle.std.specs.declared.option.Option.{Option}
use Rattle.std.specs.Io.KnownBytes.{IsAtEnd}
use Rattle.mip_commands.specs.declared.command.Command.{Command}
use Rattle.mip_outside.specs.Cause.{Rose}
use Rattle.mip_replies.specs.Told.{IsStatus}
use Rattle.mip_top.specs.Answers.{takes_nothing, serves}

-- the objects that a run is given: its source and what that has left, what its sink holds, its clock, its link, and how many calls of each had failed
pub record Objects (S C L : Type 0) : Type 0 where
  pub source : S
  pub left : Option (List ℕ)
  pub source_faults : ℕ
  pub held : Option (List ℕ)
  pub sink_faults : ℕ
  pub clock : C
  pub link : L
  pub link_faults : ℕ

abbrev pub objects : {S C L : Type 0} → S → Option (List ℕ) → ℕ → Option (List ℕ) → ℕ → C → L → ℕ → Objects S C L
objects source left source_faults held sink_faults clock link link_faults = record {
  source = source;
  left = left;
  source_faults = source_faults;
  held = held;
  sink_faults = sink_faults;
  clock = clock;
  link = link;
  link_faults = link_faults;
}

-- a run of a command ended with this status
pub record Ends {S C L : Type 0} (command : Option Command) (status : ℕ) (old new : Objects S C L) : Type 0 where
  pub statuses : IsStatus status
  -- what is made of a seed takes nothing from the source, and no words that are no form do
  pub untouched : takes_nothing command ≡ true → new.source ≡ old.source
  pub at_end : takes_nothing command ≡ false → status ≡ 0 → IsAtEnd new.left
  pub read_fault : status ≡ 3 → Rose old.source_faults new.source_faults
  pub read_fault_text : status ≡ 3 → new.held ≡ old.held
  pub write_fault : status ≡ 4 → Rose old.sink_faults new.sink_faults
  pub link_fault : status ≡ 7 → Rose old.link_faults new.link_faults
  pub link_fault_served : serves command ≡ false → status ≢ 7
  pub source_faults : old.source_faults ≤ new.source_faults
  pub sink_faults : old.sink_faults ≤ new.sink_faults
  pub link_faults : old.link_faults ≤ new.link_faults
  -- only a node or a hub has to do with the clock and the link
  pub clock : serves command ≡ false → new.clock ≡ old.clock
  pub link : serves command ≡ false → new.link ≡ old.link
