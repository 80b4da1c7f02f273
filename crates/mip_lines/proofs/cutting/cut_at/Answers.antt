use Rattle.std.proofs.Common.{sym}
use Rattle.std.proofs.lemmas.List.{drop-drop}
use Rattle.mip_lines.proofs.Parts.{parts_none, parts_some}
use Rattle.mip_lines.proofs.cutting.cut_at.Goals as goal

pub returns-in_default-clause-parts : goal.returns-in_default-clause-parts
returns-in_default-clause-parts c = parts_none c.args.byte c.args.bytes.now (sym c.in_default.ensures)

pub returns-clause-parts : goal.returns-clause-parts
returns-clause-parts c =
    rw (c.split_at.ensures.front, c.split_at-2.ensures.back, c.split_at.ensures.back, drop-drop 1 c.in-Some.place c.args.bytes.now)
    (parts_some c.args.byte c.args.bytes.now c.in-Some.place (sym c.in-Some.ensures)).1
