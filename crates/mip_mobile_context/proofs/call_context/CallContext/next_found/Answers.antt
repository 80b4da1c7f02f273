use Rattle.std.proofs.Common.{◌+◌, ◌<◌, subst}
use Rattle.std.specs.Prelude.{IfSome, ◌^◌}
use Rattle.mip_mobile_context.specs.Seen.{ContextSeen}
use Rattle.mip_mobile_context.proofs.call_context.CallContext.next_found.Goals as goal

pub returns-clause-within : goal.returns-clause-within
returns-clause-within c = subst (λ (d : ContextSeen). IfSome c.at.result (λ _. d.known.tried + 1 < 2 ^ 64)) c.self.view_is c.at.ensures.small
