use Rattle.std.proofs.Common.{◌≡◌, ◌++◌, take, map}
use Rattle.mip_lines.specs.Lines.{lines_text}
use Rattle.mip_make.specs.Counting.{kept_line}
use Rattle.mip_make.proofs.tally.put_words.Given as goal

abbrev pub invariant-loop-word : goal.invariant-loop-word
invariant-loop-word l = l.out ≡ l.initial.out ++ lines_text (map (kept_line l.counts) (take l.word-index l.words))
