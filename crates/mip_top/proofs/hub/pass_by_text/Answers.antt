use Rattle.std.proofs.Common.{rules, inr, refl, arith}
use Rattle.std.specs.Prelude.{Some}
use Rattle.mip_commands.specs.declared.command.Command.TheVariants.{Hub}
use Rattle.mip_top.proofs.ObeyedLaws.{idle, long_obeyed, hub_ran, hub_refused, stopped}
use Rattle.mip_top.proofs.hub.pass_by_text.Goals as goal

pub returns-then-text-gt-LIMIT-clause-obeys : goal.returns-then-text-gt-LIMIT-clause-obeys
returns-then-text-gt-LIMIT-clause-obeys g c = λ ahead. long_obeyed (Hub c.args.turns) c.args.text.now _ _ _ refl (omega (arith, c.if-text-gt-LIMIT.true)) (idle _ _) c.tell.ensures.told

pub returns-in-Ok-clause-obeys : goal.returns-in-Ok-clause-obeys
returns-in-Ok-clause-obeys g c = λ ahead. hub_ran c.args.turns c.args.text.now _ _ _ _ (omega (arith, c.if-text-gt-LIMIT.false)) c.in-Ok.ensures (c.pass_by_config.ensures.served ahead)

pub returns-in-Err-Bad-clause-obeys : goal.returns-in-Err-Bad-clause-obeys
returns-in-Err-Bad-clause-obeys g c = λ ahead. hub_refused c.args.turns c.args.text.now c.in-Err-Bad.line c.in-Err-Bad.why _ _ _ (omega (arith, c.if-text-gt-LIMIT.false)) (search rules) (idle _ _) c.tell_bad.ensures.told

pub returns-in-Err-Memory-clause-obeys : goal.returns-in-Err-Memory-clause-obeys
returns-in-Err-Memory-clause-obeys g c = λ ahead. stopped (Some (Hub c.args.turns)) c.args.text.now _ _ _ (record { fault = inr refl; unwritten = refl; idle = idle _ _ })
