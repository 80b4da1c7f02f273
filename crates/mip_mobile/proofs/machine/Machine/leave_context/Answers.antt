use Rattle.std.proofs.Common.{ℕ, subst}
use Rattle.std.specs.Prelude.{OnOk}
use Rattle.mip_rules_mobile.specs.Calls as calls
use Rattle.mip_rules_mobile.specs.Steps.{Called}
use Rattle.mip_rules_mobile.specs.Known.{Known}
use Rattle.mip_rules_mobile.specs.HomeQuestions.{home_of}
use Rattle.mip_rules_mobile.specs.Transitions.{Transition, begun, noted}
use Rattle.mip_mobile_calls.specs.Seen.{Shows}
use Rattle.mip_mobile.specs.Placing.{leave_at}
use Rattle.mip_mobile.specs.Handling.{moment_of}
use Rattle.mip_mobile.proofs.Placed.{leave-transition}
use Rattle.mip_mobile.proofs.machine.Machine.leave_context.Goals as goal

pub returns-clause-shows : goal.returns-clause-shows
returns-clause-shows g c = λ around answered.
    let k : Known = c.args.self.now.context.known in
    let now : ℕ = moment_of (g.C.Clock.last c.begin.new.self.clock) c.args.self.now.context.moment in
    let call : calls.Call = leave_at around (home_of k) in
    subst (λ (u : Transition). OnOk c.leave.result (Shows c.leave.new.context u)) (leave-transition around k now c.args.of_home answered)
    (c.leave.ensures (noted (Called call) (begun now k)) (c.in_ok-begin.ensures.shows call))
