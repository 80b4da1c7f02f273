use Rattle.std.proofs.Common.{arith, inr, sym, refl, [], map, string_bytes}
use Rattle.mip_outside.proofs.Known.{prepend_none}
use Rattle.mip_commands.specs.Commands.{command_of}
use Rattle.mip_replies.specs.Setup.{setup_of}
use Rattle.mip_top.specs.Serving.{Outside, outside}
use Rattle.mip_top.proofs.AuditedLaws.{audited_of, audited}
use Rattle.mip_top.proofs.Bound.{if_told}
use Rattle.mip_top.proofs.Endings.{ends_early}
use Rattle.mip_top.proofs.ObeyedLaws.{idle, whole, stopped, always}
use Rattle.mip_top.proofs.top.mip.Goals as goal

pub returns-in-Ok-clause-obeyed : goal.returns-in-Ok-clause-obeyed
returns-in-Ok-clause-obeyed g c =
    let o = c.obey.ensures.obeyed in
    rw (sym c.in-Ok.ensures.command) (whole c.in-Ok.command o.0 _ _ _ _ _ o.1)

pub returns-in-Ok-clause-obeyed_of_some : goal.returns-in-Ok-clause-obeyed_of_some
returns-in-Ok-clause-obeyed_of_some g c =
    let o = c.obey.ensures.obeyed in (
      o.0,
      o.1.most,
      o.1.taken,
      rw (sym c.in-Ok.ensures.command) o.1.obeys,
      rw (sym c.in-Ok.ensures.command) (audited_of c.each_audit_is_right.ensures c.in-Ok.command o.0 _ _ _ o.1.obeys),
    )

pub returns-in-Ok-clause-ends : goal.returns-in-Ok-clause-ends
returns-in-Ok-clause-ends g c = rw (sym c.in-Ok.ensures.command) c.obey.ensures.ends

pub returns-in-Err-clause-ends : goal.returns-in-Err-clause-ends
returns-in-Err-clause-ends g c = ends_early (command_of (map string_bytes c.args.words.now)) 5 _ refl

pub returns-in-Err-clause-obeyed : goal.returns-in-Err-clause-obeyed
returns-in-Err-clause-obeyed g c = always _ _ _ _ _ (record { fault = inr refl; unwritten = refl; idle = idle _ _ })

pub returns-in-Err-clause-obeyed_of_some : goal.returns-in-Err-clause-obeyed_of_some
returns-in-Err-clause-obeyed_of_some g c =
    let obeys = stopped _ [] _ _ _ (record { fault = inr refl; unwritten = refl; idle = idle _ _ }) in
    ([], omega arith, prepend_none _ _ refl, obeys, audited_of c.each_audit_is_right.ensures _ [] _ _ _ obeys)

pub returns-in-Ok-clause-bound : goal.returns-in-Ok-clause-bound
returns-in-Ok-clause-bound g c = if_told _ (λ text x read. c.each_is_bound.ensures x)

pub returns-in-Ok-clause-repeats : goal.returns-in-Ok-clause-repeats
returns-in-Ok-clause-repeats g c = if_told _ c.each_repeat_is_late.ensures

pub returns-in-Ok-clause-homes : goal.returns-in-Ok-clause-homes
returns-in-Ok-clause-homes g c = if_told _ (λ text x read. c.each_home_is_sent.ensures x)

pub returns-in-Ok-clause-refused : goal.returns-in-Ok-clause-refused
returns-in-Ok-clause-refused g c = if_told _ (λ text x read. c.refused_packets_leave_the_tables.ensures (setup_of x))

pub returns-in-Ok-clause-marked : goal.returns-in-Ok-clause-marked
returns-in-Ok-clause-marked g c = if_told _ c.each_acceptance_is_marked.ensures

pub returns-in-Ok-clause-delivered : goal.returns-in-Ok-clause-delivered
returns-in-Ok-clause-delivered g c = if_told _ c.each_delivery_arrives.ensures

pub returns-in-Err-clause-bound : goal.returns-in-Err-clause-bound
returns-in-Err-clause-bound g c = if_told _ (λ text x read. c.each_is_bound.ensures x)

pub returns-in-Err-clause-repeats : goal.returns-in-Err-clause-repeats
returns-in-Err-clause-repeats g c = if_told _ c.each_repeat_is_late.ensures

pub returns-in-Err-clause-homes : goal.returns-in-Err-clause-homes
returns-in-Err-clause-homes g c = if_told _ (λ text x read. c.each_home_is_sent.ensures x)

pub returns-in-Err-clause-refused : goal.returns-in-Err-clause-refused
returns-in-Err-clause-refused g c = if_told _ (λ text x read. c.refused_packets_leave_the_tables.ensures (setup_of x))

pub returns-in-Err-clause-marked : goal.returns-in-Err-clause-marked
returns-in-Err-clause-marked g c = if_told _ c.each_acceptance_is_marked.ensures

pub returns-in-Err-clause-delivered : goal.returns-in-Err-clause-delivered
returns-in-Err-clause-delivered g c = if_told _ c.each_delivery_arrives.ensures

pub returns-in-Ok-clause-audited : goal.returns-in-Ok-clause-audited
returns-in-Ok-clause-audited g c =
    let o = c.obey.ensures.obeyed in
    rw (sym c.in-Ok.ensures.command) (audited c.each_audit_is_right.ensures c.in-Ok.command (g.S.Source.left c.args.source.now) _ _ _ (whole c.in-Ok.command o.0 _ _ _ _ _ o.1))

pub returns-in-Err-clause-audited : goal.returns-in-Err-clause-audited
returns-in-Err-clause-audited g c =
    let command = command_of (map string_bytes c.args.words.now) in
    let left = g.S.Source.left c.args.source.now in
    let o : Outside =
    outside (g.K.Sink.held c.args.sink.now) (g.C.Clock.ahead c.args.clock.now) (g.L.Link.coming c.args.link.now) (g.L.Link.sent c.args.link.now) (g.L.Link.port c.args.link.now) (g.L.Link.calls c.args.link.now) in
    audited c.each_audit_is_right.ensures command left 5 o o (always command 5 left o o (record { fault = inr refl; unwritten = refl; idle = idle _ _ }))
