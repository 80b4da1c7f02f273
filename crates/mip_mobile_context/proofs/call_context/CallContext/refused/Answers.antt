use Rattle.std.proofs.Common.{refl}
use Rattle.mip_rules_mobile.specs.Questions.{after}
use Rattle.mip_rules_mobile.specs.Steps.{IsRefused}
use Rattle.mip_mobile_state.specs.Seen.{seen}
use Rattle.mip_mobile_context.proofs.Noted.{shown}
use Rattle.mip_mobile_context.proofs.call_context.CallContext.refused.Goals as goal

pub returns-clause-shows : goal.returns-clause-shows
unfolding after
returns-clause-shows c = λ t shows.
    shown (IsRefused c.args.status) c.args.self.now c.self.inside.moment.0 (seen c.self.inside.known) (seen c.self.inside.known) c.self.inside.answers c.push.new.self t c.self.view_is c.in_ok-push.ensures.ok refl shows
