use Rattle.std.proofs.Common.{arith}
use Rattle.mip_schedule.proofs.WritingLaws.{declaration_more}
use Rattle.mip_schedule.proofs.declaration_writing.put_declarations.Goals as goal

pub loop-i-preserved : goal.loop-i-preserved
loop-i-preserved c = declaration_more c.args.ds.now c.loop-i.i _ c.args.out.now c.loop-i.out c.put_declaration.new.out (omega arith) c.loop-i.invariant c.in_ok-put_declaration.ensures
