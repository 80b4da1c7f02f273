use Rattle.std.proofs.Common.{sym, ap, ◌∙◌, ℕ}
use Rattle.std.proofs.lemmas.List.{append-nil}
use Rattle.mip_bulist.specs.Lists.{ListSeen}
use Rattle.mip_rules_mobile.specs.Questions.{after}
use Rattle.mip_rules_mobile.specs.Steps.{Waits}
use Rattle.mip_mobile_state.specs.Seen.{seen}
use Rattle.mip_mobile_context.proofs.Noted.{shown}
use Rattle.mip_bulist.specs.declared.work.Work.TheVariants.{Home}
use Rattle.mip_bulist.specs.Timers.{with_timer}
use Rattle.mip_rules_mobile.specs.TimerQuestions.{later}
use Rattle.mip_mobile_context.proofs.call_context.CallContext.wait_home.Goals as goal

pub returns : goal.returns
unfolding after
returns c = λ t shows.
    shown (Waits (Home c.args.timer) c.args.wait) c.args.self.now c.self.inside.moment.0 (seen c.self.inside.known) _ c.self.inside.answers c.self.inside.answers t c.self.view_is (sym (append-nil c.self.inside.answers)) (ap (λ (l : ListSeen). record (seen c.self.inside.known) { wait = c.wait_set_by-self-inside.result; list = l }) c.set.ensures ∙ ap (λ (w : ℕ). record (seen c.self.inside.known) { wait = w; list = record { rows = c.self.inside.known.list.rows; timers = with_timer (later c.self.inside.moment.0 c.args.wait) (Home c.args.timer) c.self.inside.known.list.timers } }) c.wait_set_by-self-inside.ensures) shows
