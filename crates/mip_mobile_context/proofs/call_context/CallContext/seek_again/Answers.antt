use Rattle.std.proofs.Common.{sym, ap, ◌∙◌}
use Rattle.std.proofs.lemmas.List.{append-nil}
use Rattle.mip_rules_mobile.specs.Questions.{after}
use Rattle.mip_rules_mobile.specs.Steps.{SeeksAgain}
use Rattle.mip_mobile_state.specs.Seen.{seen}
use Rattle.mip_mobile_context.proofs.Noted.{shown}
use Rattle.std.specs.Prelude.{Option, option_and_then}
use Rattle.mip_discovery.specs.Retries.{DiscoverySeen, retried}
use Rattle.mip_mobile_context.proofs.call_context.CallContext.seek_again.Goals as goal

pub returns : goal.returns
unfolding after
returns c = λ t shows.
    shown (SeeksAgain) c.args.self.now c.self.inside.moment.0 (seen c.self.inside.known) _ c.self.inside.answers c.self.inside.answers t c.self.view_is (sym (append-nil c.self.inside.answers)) (ap (λ (d : Option DiscoverySeen). record (seen c.self.inside.known) { discovery = d }) (c.again-self-inside.ensures ∙ ap (λ (d : Option DiscoverySeen). option_and_then (retried c.self.inside.moment.0) d) c.take-discovery.ensures.value)) shows
