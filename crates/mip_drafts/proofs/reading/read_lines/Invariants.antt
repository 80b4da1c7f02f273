use Rattle.std.proofs.Common.{◌≡◌, ◌+◌, ◌≤◌, length}
use Rattle.mip_lines.specs.Cutting.{rows_of}
use Rattle.mip_drafts.specs.Walk.{walk}
use Rattle.mip_drafts.proofs.reading.read_lines.Given as goal

abbrev pub invariant-loop-row : goal.invariant-loop-row
invariant-loop-row g l = record {
  so_far : walk g.D.Draft.onto l.draft l.at.line (rows_of l.at.rest.now) ≡ walk g.D.Draft.onto l.initial.draft l.first.line (rows_of l.first.rest.now);
  short : l.at.line + length l.at.rest.now ≤ l.first.line + length l.first.rest.now;
}

abbrev pub decreases-loop-row : goal.decreases-loop-row
decreases-loop-row g l = length l.at.rest.now
