use Rattle.std.proofs.Common.{◌≡◌, ℕ, List, ◌++◌, drop}
use Rattle.mip_trace.specs.Lines.{trace_text}
use Rattle.mip_audit.specs.Differences.{difference_from}
use Rattle.mip_audit.proofs.entries.meet_entries.Given as goal

abbrev pub invariant-loop-entry : goal.invariant-loop-entry
invariant-loop-entry l =
    (more : List ℕ) → difference_from l.fn.comparison (trace_text l.names l.entries ++ more) ≡ difference_from l.comparison (trace_text l.names (drop l.entry-index l.entries) ++ more)
