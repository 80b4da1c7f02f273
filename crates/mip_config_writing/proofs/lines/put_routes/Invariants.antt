use Rattle.std.proofs.Common.{◌≡◌, ◌++◌, take}
use Rattle.std.specs.Prelude.{map}
use Rattle.mip_lines.specs.Lines.{lines_text}
use Rattle.mip_config_writing.specs.Spelling.{route_text}
use Rattle.mip_config_writing.proofs.lines.put_routes.Given as goal

abbrev pub invariant-loop-place : goal.invariant-loop-place
invariant-loop-place l = l.out ≡ l.fn.out ++ lines_text (map route_text (take l.place l.routes))
