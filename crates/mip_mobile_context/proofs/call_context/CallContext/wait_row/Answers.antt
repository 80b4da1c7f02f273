use Rattle.std.proofs.Common.{sym, ap, ◌∙◌, List}
use Rattle.std.proofs.lemmas.List.{append-nil}
use Rattle.mip_bulist.specs.Lists.{ListSeen}
use Rattle.mip_bulist.specs.declared.work.Work.TheVariants as works
use Rattle.mip_rules_mobile.specs.declared.peer.Peer.{Peer}
use Rattle.mip_rules_mobile.specs.RowQuestions.{with_peer, waiting}
use Rattle.mip_rules_mobile.specs.Questions.{after}
use Rattle.mip_rules_mobile.specs.Steps.{Waits}
use Rattle.mip_mobile_state.specs.Seen.{seen}
use Rattle.mip_mobile_context.proofs.Noted.{shown}
use Rattle.mip_mobile_context.proofs.call_context.CallContext.wait_row.Goals as goal

pub returns : goal.returns
unfolding after
returns c = λ t shows.
    shown (Waits (works.Resend c.args.at.row) c.args.wait) c.args.self.now c.self.inside.moment.0 (seen c.self.inside.known) _ c.self.inside.answers c.self.inside.answers t c.self.view_is (sym (append-nil c.self.inside.answers))
    (ap (λ (p : List Peer). record (seen c.self.inside.known) { list = c.set.new.self; peers = p }) c.wait.ensures
    ∙ ap (λ (l : ListSeen). record (seen c.self.inside.known) { list = l; peers = with_peer c.args.at.row (waiting c.args.wait) c.self.inside.known.peers }) c.set.ensures) shows
