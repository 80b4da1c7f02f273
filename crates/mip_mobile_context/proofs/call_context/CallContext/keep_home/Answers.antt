use Rattle.std.proofs.Common.{sym, ap, subst}
use Rattle.std.proofs.lemmas.List.{append-nil}
use Rattle.mip_bulist.specs.Lists.{ListSeen}
use Rattle.mip_entries.specs.Shows.{ShowsBy}
use Rattle.mip_rules_mobile.specs.Trials.{HomeTest}
use Rattle.mip_rules_mobile.specs.Questions.{after}
use Rattle.mip_rules_mobile.specs.Steps.{Tries, answer_of}
use Rattle.mip_mobile_context.specs.Seen.{ContextSeen}
use Rattle.mip_mobile_state.specs.Seen.{seen}
use Rattle.mip_mobile_state.specs.Mine.{AreMine}
use Rattle.mip_mobile_state.specs.Early.{AreEarly}
use Rattle.mip_mobile_context.proofs.Noted.{shown}
use Rattle.mip_mobile_state.proofs.Rows.{mine-changed}
use Rattle.mip_mobile_state.proofs.Early.{early-changed}
use Rattle.mip_rules_mobile.specs.Transitions.{noted}
use Rattle.mip_mobile_context.proofs.call_context.CallContext.keep_home.Goals as goal

pub invariant_of-self : goal.invariant_of-self
invariant_of-self c = record {
  own = c.self.invariant.own;
  early = c.self.invariant.early;
  later = c.self.invariant.later;
  home = c.self.invariant.home;
  mine = subst (λ (l : ListSeen). AreMine l.rows) (sym c.keep_home_test.ensures) (mine-changed c.self.inside.known.list.rows c.args.row c.self.inside.moment (HomeTest c.args.test.now.peer c.args.test.now.cookie (record { index = c.args.test.now.index; token = c.args.test.now.token; at = c.self.inside.moment })) c.self.invariant.mine);
  sent = subst (λ (l : ListSeen). AreEarly l.rows) (sym c.keep_home_test.ensures) (early-changed c.self.inside.known.list.rows c.args.row c.self.inside.moment (HomeTest c.args.test.now.peer c.args.test.now.cookie (record { index = c.args.test.now.index; token = c.args.test.now.token; at = c.self.inside.moment })) c.self.invariant.early c.self.invariant.sent);
  registered = c.self.invariant.registered;
}

pub returns : goal.returns
unfolding after
returns c = λ t shows.
    subst (λ (d : ContextSeen). ShowsBy answer_of c.self.inside.moment.0 (record (seen c.self.inside.known) { list = c.keep_home_test.new.list }) c.self.inside.answers (noted (Tries c.args.row (HomeTest c.args.test.now.peer c.args.test.now.cookie (record { index = c.args.test.now.index; token = c.args.test.now.token; at = record { 0 = d.moment } }))) t)) c.self.view_is
    (shown (Tries c.args.row (HomeTest c.args.test.now.peer c.args.test.now.cookie (record { index = c.args.test.now.index; token = c.args.test.now.token; at = c.self.inside.moment }))) c.args.self.now c.self.inside.moment.0 (seen c.self.inside.known) _ c.self.inside.answers c.self.inside.answers t c.self.view_is (sym (append-nil c.self.inside.answers)) (ap (λ (l : ListSeen). record (seen c.self.inside.known) { list = l }) c.keep_home_test.ensures) shows)
