use Rattle.std.proofs.Common.{sym}
use Rattle.mip_rows.proofs.WhyLaws.{among_found}
use Rattle.mip_rows.proofs.why_words.why_among.Goals as goal

pub returns-in-Some : goal.returns-in-Some
returns-in-Some c = among_found c.args.some.now c.args.field.now c.in-Some.place c.at.result c.at.ensures (sym c.in-Some.ensures)
