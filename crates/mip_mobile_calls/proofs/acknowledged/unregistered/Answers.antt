use Rattle.std.proofs.lemmas.Result.{err_from_is_err_and}
use Rattle.mip_mobile_calls.proofs.Fails.{says-nothing}
use Rattle.mip_mobile_calls.proofs.acknowledged.unregistered.Goals as goal

pub returns-in_err-unregister : goal.returns-in_err-unregister
returns-in_err-unregister c = λ t shows.
    let p = err_from_is_err_and c.from_residual.result c.from_residual.ensures.1 in says-nothing _ c.from_residual.result p.0 p.1
