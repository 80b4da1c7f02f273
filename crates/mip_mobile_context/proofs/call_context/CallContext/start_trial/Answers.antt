use Rattle.std.proofs.Common.{sym, ap, ◌∙◌, ℕ, ◌+◌, ◌%◌, subst}
use Rattle.std.specs.Prelude.{◌^◌}
use Rattle.std.proofs.lemmas.List.{append-nil}
use Rattle.mip_bulist.specs.Lists.{ListSeen}
use Rattle.mip_rules_mobile.specs.Trials.{Start, with_change}
use Rattle.mip_rules_mobile.specs.Questions.{after}
use Rattle.mip_rules_mobile.specs.Steps.{Tries}
use Rattle.mip_mobile_state.specs.Seen.{seen}
use Rattle.mip_mobile_state.specs.Mine.{AreMine}
use Rattle.mip_mobile_state.specs.Early.{AreEarly}
use Rattle.mip_mobile_context.proofs.Noted.{shown}
use Rattle.mip_mobile_state.proofs.Rows.{mine-changed}
use Rattle.mip_mobile_state.proofs.Early.{early-changed}
use Rattle.mip_mobile_context.proofs.call_context.CallContext.start_trial.Goals as goal

pub invariant_of-self : goal.invariant_of-self
invariant_of-self c = record {
  own = c.self.invariant.own;
  early = c.self.invariant.early;
  later = c.self.invariant.later;
  home = c.self.invariant.home;
  mine = subst (λ (l : ListSeen). AreMine l.rows) (sym c.start.ensures) (mine-changed c.self.inside.known.list.rows c.args.row (record { 0 = c.self.inside.moment.0 }) (Start c.args.aim c.args.home c.args.careof) c.self.invariant.mine);
  sent = subst (λ (l : ListSeen). AreEarly l.rows) (sym c.start.ensures) (early-changed c.self.inside.known.list.rows c.args.row (record { 0 = c.self.inside.moment.0 }) (Start c.args.aim c.args.home c.args.careof) c.self.invariant.early c.self.invariant.sent);
  registered = c.self.invariant.registered;
}

pub returns : goal.returns
unfolding after
returns c = λ t shows.
    shown (Tries c.args.row (Start c.args.aim c.args.home c.args.careof)) c.args.self.now c.self.inside.moment.0 (seen c.self.inside.known) _ c.self.inside.answers c.self.inside.answers t c.self.view_is (sym (append-nil c.self.inside.answers)) (ap (λ (l : ListSeen). record (seen c.self.inside.known) { list = l; cookies = (c.self.inside.known.cookies + c.drawn_for.result) % 2 ^ 64 }) c.start.ensures ∙ ap (λ (n : ℕ). record (seen c.self.inside.known) { list = record { rows = with_change c.args.row c.self.inside.moment (Start c.args.aim c.args.home c.args.careof) c.self.inside.known.list.rows; timers = c.self.inside.known.list.timers }; cookies = (c.self.inside.known.cookies + n) % 2 ^ 64 }) c.drawn_for.ensures) shows
