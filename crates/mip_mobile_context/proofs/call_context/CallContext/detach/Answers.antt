use Rattle.std.proofs.Common.{sym, ap, ◌∙◌, subst, List, []}
use Rattle.std.proofs.lemmas.List.{append-nil}
use Rattle.std.specs.Prelude.{None}
use Rattle.mip_bulist.specs.Lists.{ListSeen}
use Rattle.mip_bulist.specs.Rows.{all_rested}
use Rattle.mip_rules_mobile.specs.declared.peer.Peer.{Peer}
use Rattle.mip_rules_mobile.specs.declared.attachment.Attachment.TheVariants.{Detached}
use Rattle.mip_rules_mobile.specs.Questions.{after}
use Rattle.mip_rules_mobile.specs.Steps.{Detaches}
use Rattle.mip_mobile_state.specs.Seen.{seen}
use Rattle.mip_mobile_state.specs.Mine.{AreMine}
use Rattle.mip_mobile_state.specs.Early.{AreEarly}
use Rattle.mip_mobile_context.proofs.Noted.{shown}
use Rattle.mip_mobile_state.proofs.Rows.{mine-rested}
use Rattle.mip_mobile_state.proofs.Early.{early-rested}
use Rattle.mip_mobile_context.proofs.call_context.CallContext.detach.Goals as goal

pub invariant_of-self : goal.invariant_of-self
invariant_of-self c = record {
  own = c.self.invariant.own;
  early = c.self.invariant.early;
  later = c.self.invariant.later;
  home = c.self.invariant.home;
  mine = subst (λ (l : ListSeen). AreMine l.rows) (sym c.rest_all.ensures) (mine-rested c.self.inside.known.list.rows c.self.invariant.mine);
  sent = subst (λ (l : ListSeen). AreEarly l.rows) (sym c.rest_all.ensures) (early-rested c.self.inside.known.list.rows c.self.invariant.sent);
  registered = c.self.invariant.registered;
}

pub returns : goal.returns
unfolding after
returns c = λ t shows.
    shown Detaches c.args.self.now c.self.inside.moment.0 (seen c.self.inside.known) _ c.self.inside.answers c.self.inside.answers t c.self.view_is (sym (append-nil c.self.inside.answers))
    (ap (λ (l : ListSeen). record (seen c.self.inside.known) { standing = Detached; registered = None; discovery = None; list = l; peers = c.unbind_all.new.peers }) c.rest_all.ensures
    ∙ ap (λ (p : List Peer). record (seen c.self.inside.known) { standing = Detached; registered = None; discovery = None; list = record { rows = all_rested c.self.inside.known.list.rows; timers = [] }; peers = p }) c.unbind_all.ensures) shows
