-- The work that an agent has ahead: the ends of its registrations. RFC 6275 section 10.3.1
use Rattle.std.specs.Prelude.{ℕ, List, [], fold, ◌==◌, if◌then◌else◌}
use Rattle.mip_entries.specs.declared.entry.Entry.{Entry}
use Rattle.mip_entries.specs.declared.entry.Entry.TheVariants as entries
use Rattle.mip_rules_agent.specs.declared.ending.Ending.{Ending}
use Rattle.mip_rules_agent.specs.Questions.{ends_with, later_ends}
use Rattle.mip_past.specs.declared.past.Past.{Past}
use Rattle.mip_past.specs.Asking.{moment_at}

-- the ends that agent n set, behind an entry: that of a registration takes the place of the one before it for its home, a
-- deregistration has none, and a restart begins anew
abbrev pub ends_told : ℕ → List Ending → Entry → List Ending
ends_told n es (entries.Home node home careof sequence end) = if n == node.0 then ends_with home (record { careof = careof; sequence = sequence; end = end }) es else es
ends_told n es (entries.Restarted node) = if n == node.0 then [] else es
ends_told n es _ = es

-- those that lie ahead of a moment, by the moment, ties in the order in which they were set
abbrev pub due_work_in : (now : ℕ) → List Entry → ℕ → List Ending
due_work_in now past n = later_ends now (fold (ends_told n) [] past)

abbrev pub due_work_at : Past → ℕ → List Ending
due_work_at p n = due_work_in (moment_at p) p.entries.now n
