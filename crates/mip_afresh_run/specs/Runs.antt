-- The run of a schedule behind its first events.
use Rattle.std.specs.Prelude.{◌≡◌, ◌≤◌, ℕ, length, take}
use Rattle.mip_schedule.specs.Contents.{Content}
use Rattle.mip_history.specs.Setup.{setup_of}
use Rattle.mip_history.specs.Permitted.{run_of}
use Rattle.mip_afresh.specs.Tellings.{TellingSeen}

pub record RunSeen : Type 0 where
  pub telling : TellingSeen
  -- how many events have happened
  pub next : ℕ

-- what a schedule declares, and what its first so many events lead to
abbrev pub behind : Content → ℕ → TellingSeen
behind c count = record { setup = setup_of c; run = run_of (setup_of c) (take count c.events) }

pub record IsRunOf (r : RunSeen) (c : Content) : Type 0 where
  pub is : r.telling ≡ behind c r.next
  pub within : r.next ≤ length c.events
