use Rattle.std.proofs.Common.{arith, ◌++◌, length-append}
use Rattle.std.proofs.lemmas.Result.{err_from_is_err_and}
use Rattle.mip_outside.proofs.Known.{prepend_more}
use Rattle.mip_replies.proofs.reading.read_input.Goals as goal

pub returns-in_err-count-clause-some : goal.returns-in_err-count-clause-some
returns-in_err-count-clause-some g c =
    let p = err_from_is_err_and c.from_residual.result c.from_residual.ensures.1 in
    let part = c.in_err-count.ensures.some in
    let before = c.loop-buffer.bytes in
    rw p.1 (before ++ part.0, simp length-append (omega (arith, part.1)), prepend_more _ _ _ before part.0 c.loop-buffer.invariant.read part.2)
