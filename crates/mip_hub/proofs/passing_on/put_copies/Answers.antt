use Rattle.std.proofs.Common.{sym, append-nil}
use Rattle.mip_hub.proofs.CallLaws.{texts_more}
use Rattle.mip_hub.specs.Passing.{to_text}
use Rattle.mip_hub.proofs.passing_on.put_copies.Goals as goal

pub loop-told-init : goal.loop-told-init
loop-told-init c = sym (append-nil c.args.out.now)

pub loop-told-preserved : goal.loop-told-preserved
loop-told-preserved c = texts_more (to_text c.args.number) c.loop-told._told c.args.port c.args.out.now c.loop-told.out c.put_to.new.out c.loop-told.invariant c.in_ok-put_to.ensures
