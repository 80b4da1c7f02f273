use Rattle.std.proofs.Common.{sym, ap}
use Rattle.std.proofs.lemmas.List.{append-nil}
use Rattle.mip_rules_mobile.specs.Questions.{after}
use Rattle.mip_rules_mobile.specs.Steps.{Seeks}
use Rattle.mip_mobile_state.specs.Seen.{seen}
use Rattle.mip_mobile_context.proofs.Noted.{shown}
use Rattle.std.specs.Prelude.{Some, ◌+◌, ◌%◌}
use Rattle.mip_discovery.specs.Retries.{DiscoverySeen}
use Rattle.mip_mobile_context.proofs.call_context.CallContext.seek.Goals as goal

pub returns : goal.returns
unfolding after
returns c = λ t shows.
    shown (Seeks) c.args.self.now c.self.inside.moment.0 (seen c.self.inside.known) _ c.self.inside.answers c.self.inside.answers t c.self.view_is (sym (append-nil c.self.inside.answers)) (ap (λ (d : DiscoverySeen). record (seen c.self.inside.known) { discovery = Some d; discoveries = (c.self.inside.known.discoveries + 1) % 65536 }) c.start.ensures) shows
