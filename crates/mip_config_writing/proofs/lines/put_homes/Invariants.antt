use Rattle.std.proofs.Common.{◌≡◌, ◌++◌, take}
use Rattle.std.specs.Prelude.{map}
use Rattle.mip_lines.specs.Lines.{lines_text}
use Rattle.mip_config_writing.specs.Spelling.{serve_text}
use Rattle.mip_config_writing.proofs.lines.put_homes.Given as goal

abbrev pub invariant-loop-home : goal.invariant-loop-home
invariant-loop-home l = l.out ≡ l.fn.out ++ lines_text (map serve_text (take l.home-index l.homes))
