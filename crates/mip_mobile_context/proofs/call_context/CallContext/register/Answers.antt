use Rattle.std.proofs.Common.{ap, ◌∙◌}
use Rattle.mip_bulist.specs.Lists.{ListSeen}
use Rattle.mip_rules_mobile.specs.Questions.{after}
use Rattle.mip_rules_mobile.specs.Steps.{Registers}
use Rattle.mip_mobile_state.specs.Seen.{seen}
use Rattle.mip_mobile_context.proofs.Noted.{shown}
use Rattle.std.specs.Prelude.{Some}
use Rattle.mip_bulist.specs.Timers.{with_timer}
use Rattle.mip_rules_mobile.specs.TimerQuestions.{ending_home}
use Rattle.mip_mobile_context.proofs.call_context.CallContext.register.Goals as goal

pub returns : goal.returns
unfolding after
returns c = λ t shows.
    shown (Registers c.args.agent c.args.end c.args.renew) c.args.self.now c.self.inside.moment.0 (seen c.self.inside.known) _ c.self.inside.answers c.push.new.self t c.self.view_is c.in_ok-push.ensures.ok (ap (λ (l : ListSeen). record (seen c.self.inside.known) { registered = Some (record { agent = c.args.agent; end = c.args.end }); list = l }) (c.set-2.ensures ∙ ap (λ (l : ListSeen). record { rows = l.rows; timers = with_timer c.args.end ending_home l.timers }) c.set.ensures)) shows
