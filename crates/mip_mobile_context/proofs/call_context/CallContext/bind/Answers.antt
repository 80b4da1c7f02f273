use Rattle.std.proofs.Common.{ap, ◌∙◌, List}
use Rattle.mip_bulist.specs.Lists.{ListSeen}
use Rattle.mip_bulist.specs.Timers.{with_timer}
use Rattle.mip_bulist.specs.declared.work.Work.TheVariants as works
use Rattle.mip_rules_mobile.specs.declared.peer.Peer.{Peer}
use Rattle.mip_rules_mobile.specs.RowQuestions.{with_peer, bound_until}
use Rattle.mip_rules_mobile.specs.Questions.{after}
use Rattle.mip_rules_mobile.specs.Steps.{Binds}
use Rattle.mip_mobile_state.specs.Seen.{seen}
use Rattle.mip_mobile_context.proofs.Noted.{shown}
use Rattle.mip_mobile_context.proofs.call_context.CallContext.bind.Goals as goal

pub returns : goal.returns
unfolding after
returns c = λ t shows.
    shown (Binds c.args.at.row c.args.at.peer c.args.end c.args.renew) c.args.self.now c.self.inside.moment.0 (seen c.self.inside.known) _ c.self.inside.answers c.push.new.self t c.self.view_is c.in_ok-push.ensures.ok
    (ap (λ (p : List Peer). record (seen c.self.inside.known) { list = c.set-2.new.self; peers = p }) c.bind.ensures
    ∙ ap (λ (l : ListSeen). record (seen c.self.inside.known) { list = l; peers = with_peer c.args.at.row (bound_until c.args.end) c.self.inside.known.peers })
    (c.set-2.ensures ∙ ap (λ (l : ListSeen). record { rows = l.rows; timers = with_timer c.args.end (works.End c.args.at.row) l.timers }) c.set.ensures)) shows
