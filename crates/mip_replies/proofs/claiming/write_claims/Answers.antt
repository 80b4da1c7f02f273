use Rattle.std.proofs.Common.{◌∙◌}
use Rattle.std.proofs.lemmas.Result.{err_from_is_err_and}
use Rattle.mip_outside.specs.declared.put_fault.PutFault.TheVariants.{Failed}
use Rattle.mip_schedule.specs.Schedules.{content}
use Rattle.mip_replay.specs.Permitted.{permitted}
use Rattle.mip_replies.proofs.ClaimsTold.{claims_front, claims_part, fault_on, on_err, part_on}
use Rattle.mip_replies.proofs.claiming.write_claims.Goals as goal

pub returns-clause-front : goal.returns-clause-front
returns-clause-front g c =
    on_err _ _ c.write_end.result
    (claims_front _ _ _ c.args.schedule.declarations c.as_slice.result.now (permitted (content c.args.schedule)) c.args.ask c.write_adverts.new.claims
    (c.as_slice.ensures ∙ c.in_ok-declarations.ensures.declared)
    c.in_ok-declarations.ensures.stands c.in_ok-declarations.ensures.ok)
    c.write_end.ensures.front

pub returns-clause-part : goal.returns-clause-part
returns-clause-part g c = λ failed.
    claims_part _ _ _ c.args.schedule.declarations c.as_slice.result.now (permitted (content c.args.schedule)) c.args.ask c.write_adverts.new.claims
    (c.as_slice.ensures ∙ c.in_ok-declarations.ensures.declared)
    c.in_ok-declarations.ensures.stands c.in_ok-declarations.ensures.ok (c.write_end.ensures.part failed)

pub returns-in_err-declarations-clause-part : goal.returns-in_err-declarations-clause-part
returns-in_err-declarations-clause-part g c = λ failed.
    let p = err_from_is_err_and c.from_residual.result c.from_residual.ensures.1 in
    part_on _ _ _ _ (c.in_err-declarations.ensures.part (fault_on c.from_residual.result c.in_err-declarations.field-0.0 p.0 Failed p.1 p.2 failed))
