use Rattle.std.proofs.Common.{◌≡◌, sym, ◌∙◌, arith}
use Rattle.std.specs.Prelude.{not, nat_lt, is_some}
use Rattle.std.proofs.lemmas.Bool.Decides.{nat_tests}
use Rattle.mip_bulist.specs.Timers.{due_work}
use Rattle.mip_rules_mobile.specs.TimerQuestions.{moment}
use Rattle.mip_mobile_calls.proofs.Rounds.{due-some, due-none}
use Rattle.mip_mobile_calls.proofs.ringing.is_due.Goals as goal

pub returns-in-Some : goal.returns-in-Some
returns-in-Some c =
    let d = c.args.context.now in
    let due : is_some (due_work (moment d.moment) d.known.list.timers) ≡ not (nat_lt d.moment c.in-Some.due.0) =
    due-some d.moment d.known.list.timers c.in-Some.due (sym c.due.ensures ∙ c.in-Some.is) in
    let now : c.moment.result.0 ≡ d.moment = c.moment.ensures.value in
    grind (arith, nat_tests, due, now)

pub returns-in-None : goal.returns-in-None
returns-in-None c =
    let d = c.args.context.now in
    sym (due-none d.moment d.known.list.timers (sym c.due.ensures ∙ c.in-None.is))
