use Rattle.std.proofs.Common.{◌≡◌, ◌++◌, take}
use Rattle.std.specs.Prelude.{map}
use Rattle.mip_lines.specs.Lines.{lines_text}
use Rattle.mip_config_writing.specs.Spelling.{payload_text}
use Rattle.mip_config_writing.proofs.lines.put_payloads.Given as goal

abbrev pub invariant-loop-payload : goal.invariant-loop-payload
invariant-loop-payload l = l.out ≡ l.fn.out ++ lines_text (map payload_text (take l.payload-index l.payloads))
