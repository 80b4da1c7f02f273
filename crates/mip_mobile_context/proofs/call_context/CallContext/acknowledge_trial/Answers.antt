use Rattle.std.proofs.Common.{sym, ap, subst}
use Rattle.std.proofs.lemmas.List.{append-nil}
use Rattle.mip_bulist.specs.Lists.{ListSeen}
use Rattle.mip_rules_mobile.specs.Trials.{Acknowledge}
use Rattle.mip_rules_mobile.specs.Questions.{after}
use Rattle.mip_rules_mobile.specs.Steps.{Tries}
use Rattle.mip_mobile_state.specs.Seen.{seen}
use Rattle.mip_mobile_state.specs.Mine.{AreMine}
use Rattle.mip_mobile_state.specs.Early.{AreEarly}
use Rattle.mip_mobile_context.proofs.Noted.{shown}
use Rattle.mip_mobile_state.proofs.Rows.{mine-changed}
use Rattle.mip_mobile_state.proofs.Early.{early-changed}
use Rattle.mip_mobile_context.proofs.call_context.CallContext.acknowledge_trial.Goals as goal

pub invariant_of-self : goal.invariant_of-self
invariant_of-self c = record {
  own = c.self.invariant.own;
  early = c.self.invariant.early;
  later = c.self.invariant.later;
  home = c.self.invariant.home;
  mine = subst (λ (l : ListSeen). AreMine l.rows) (sym (c.acknowledge.ensures (record { 0 = c.self.inside.moment.0 }))) (mine-changed c.self.inside.known.list.rows c.args.row (record { 0 = c.self.inside.moment.0 }) (Acknowledge c.args.sequence c.args.granted) c.self.invariant.mine);
  sent = subst (λ (l : ListSeen). AreEarly l.rows) (sym (c.acknowledge.ensures (record { 0 = c.self.inside.moment.0 }))) (early-changed c.self.inside.known.list.rows c.args.row (record { 0 = c.self.inside.moment.0 }) (Acknowledge c.args.sequence c.args.granted) c.self.invariant.early c.self.invariant.sent);
  registered = c.self.invariant.registered;
}

pub returns : goal.returns
unfolding after
returns c = λ t shows.
    shown (Tries c.args.row (Acknowledge c.args.sequence c.args.granted)) c.args.self.now c.self.inside.moment.0 (seen c.self.inside.known) _ c.self.inside.answers c.self.inside.answers t c.self.view_is (sym (append-nil c.self.inside.answers)) (ap (λ (l : ListSeen). record (seen c.self.inside.known) { list = l }) (c.acknowledge.ensures (record { 0 = c.self.inside.moment.0 }))) shows
