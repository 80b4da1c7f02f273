use Rattle.std.proofs.lemmas.Result.{err_from_is_err_and}
use Rattle.mip_mobile_calls.proofs.Fails.{says-nothing}
use Rattle.mip_mobile_calls.proofs.acknowledged.registered.Goals as goal

pub returns-in_err-register : goal.returns-in_err-register
returns-in_err-register c = λ t shows.
    let p = err_from_is_err_and c.from_residual.result c.from_residual.ensures.1 in says-nothing _ c.from_residual.result p.0 p.1
