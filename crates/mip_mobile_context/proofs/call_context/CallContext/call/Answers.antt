use Rattle.std.proofs.Common.{ap, [], refl}
use Rattle.mip_entries.proofs.ShowLaws.{shows-begun}
use Rattle.mip_rules_mobile.specs.Questions.{after}
use Rattle.mip_rules_mobile.specs.Steps.{Called, answer_of}
use Rattle.mip_rules_mobile.specs.Transitions.{begun}
use Rattle.mip_mobile_context.specs.Seen.{ContextSeen}
use Rattle.mip_mobile_context.proofs.Noted.{shown}
use Rattle.mip_mobile_context.proofs.call_context.CallContext.call.Goals as goal

pub returns-clause-shows : goal.returns-clause-shows
unfolding after
returns-clause-shows c = λ call.
    shown (Called call) (record { moment = c.args.now.0; known = c.args.self.now.known; answers = [] }) c.args.now.0 c.args.self.now.known _ [] c.in_ok-self-inside.field-0
    (begun c.args.now.0 c.args.self.now.known) refl c.in_ok-self-inside.ensures (ap (λ (d : ContextSeen). record d.known { last = c.args.now }) c.self.view_is)
    (shows-begun answer_of c.args.now.0 c.args.self.now.known)
