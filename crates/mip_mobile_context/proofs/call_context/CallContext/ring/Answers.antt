use Rattle.std.proofs.Common.{sym, ap}
use Rattle.std.proofs.lemmas.List.{append-nil}
use Rattle.mip_bulist.specs.Lists.{ListSeen}
use Rattle.mip_rules_mobile.specs.Questions.{after}
use Rattle.mip_rules_mobile.specs.Steps.{Rings}
use Rattle.mip_mobile_state.specs.Seen.{seen}
use Rattle.mip_mobile_context.proofs.Noted.{shown}
use Rattle.mip_mobile_context.proofs.call_context.CallContext.ring.Goals as goal

pub returns-clause-shows : goal.returns-clause-shows
unfolding after
returns-clause-shows c = λ work t is shows.
    shown (Rings work) c.args.self.now c.self.inside.moment.0 (seen c.self.inside.known) _ c.self.inside.answers c.self.inside.answers t c.self.view_is (sym (append-nil c.self.inside.answers)) (ap (λ (l : ListSeen). record (seen c.self.inside.known) { list = l }) c.pop.ensures.list) shows
