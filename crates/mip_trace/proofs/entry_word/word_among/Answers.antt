use Rattle.std.proofs.Common.{sym}
use Rattle.mip_trace.proofs.WordLaws.{among_found}
use Rattle.mip_trace.proofs.entry_word.word_among.Goals as goal

pub returns-in-Some : goal.returns-in-Some
returns-in-Some c = among_found c.args.words.now c.args.field.now c.in-Some.place c.at.result c.at.ensures (sym c.in-Some.ensures)
