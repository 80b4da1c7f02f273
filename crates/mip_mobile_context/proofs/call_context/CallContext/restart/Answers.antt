use Rattle.std.proofs.Common.{◌∙◌, ap}
use Rattle.mip_words.specs.declared.address.Address.{Address}
use Rattle.mip_rules_mobile.specs.Questions.{after, fresh}
use Rattle.mip_rules_mobile.specs.Steps.{Restarts}
use Rattle.mip_mobile_state.specs.Seen.{seen}
use Rattle.mip_mobile_context.proofs.Noted.{shown}
use Rattle.mip_mobile_context.proofs.call_context.CallContext.restart.Goals as goal

pub returns : goal.returns
unfolding after
returns c = λ t shows.
    shown (Restarts c.args.secrets) c.args.self.now c.self.inside.moment.0 (seen c.self.inside.known) _ c.self.inside.answers c.push.new.self t c.self.view_is c.in_ok-push.ensures.ok
    (c.in_ok-self-inside.ensures.known
    ∙ ap (λ (h : Address). record (fresh h c.self.inside.known.declared c.self.inside.known.part.known.cache.numbers c.args.secrets) { last = c.self.inside.known.last; standing = c.self.inside.known.standing }) c.self.invariant.own) shows
