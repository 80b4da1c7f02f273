use Rattle.std.proofs.Common.{sym, length, arith}
use Rattle.std.proofs.lemmas.Bool.{eqb-true}
use Rattle.mip_lines.specs.Cutting.{texts}
use Rattle.mip_lines.proofs.TextRows.{not_zero}
use Rattle.mip_drafts.proofs.WalkLaws.{goes_on, stops, ends, left_over}
use Rattle.mip_drafts.proofs.reading.read_lines.Goals as goal

pub returns-in-Err : goal.returns-in-Err
returns-in-Err g c =
    let next = rw c.in-Some.is at c.in_ok-row.ensures in
    stops g.D.Draft.onto c.loop-row.draft c.add_line.new.draft c.loop-row.at.line c.loop-row.at.rest.now (texts c.in-Some.row.items) c.in-Some.next.rest.now c.in-Err.fault _
    next.rows (rw c.deref.ensures.value at c.in-Err.ensures) c.loop-row.invariant.so_far

pub loop-row-preserved : goal.loop-row-preserved
loop-row-preserved g c =
    let next = rw c.in-Some.is at c.in_ok-row.ensures in
    record {
      so_far = goes_on g.D.Draft.onto c.loop-row.draft c.add_line.new.draft c.loop-row.at.line c.in-Some.next.line c.loop-row.at.rest.now (texts c.in-Some.row.items) c.in-Some.next.rest.now _
          next.rows next.line (rw c.deref.ensures.value at c.in-Ok.ensures) c.loop-row.invariant.so_far;
      short = omega (arith, next.line, next.shorter, c.loop-row.invariant.short);
    }

pub returns-then-is_empty : goal.returns-then-is_empty
returns-then-is_empty g c =
    let end = rw c.in_default.is at c.in_ok-row.ensures in
    ends g.D.Draft.onto c.loop-row.draft c.loop-row.at.line c.loop-row.at.rest.now _ end (eqb-true (length c.loop-row.at.rest.now) 0 (sym c.if-is_empty.ensures)) c.loop-row.invariant.so_far

pub returns-else-is_empty : goal.returns-else-is_empty
returns-else-is_empty g c =
    let end = rw c.in_default.is at c.in_ok-row.ensures in
    rw c.bad.ensures (left_over g.D.Draft.onto c.loop-row.draft c.loop-row.at.line c.loop-row.at.rest.now _ end (not_zero (length c.loop-row.at.rest.now) (sym c.if-is_empty.ensures)) c.loop-row.invariant.so_far)
