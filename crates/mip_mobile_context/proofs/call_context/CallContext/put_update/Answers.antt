use Rattle.std.proofs.Common.{sym, ap, ◌∙◌, subst, ℕ, List, [], ◌∷◌, ◌++◌}
use Rattle.std.proofs.lemmas.List.{append_assoc}
use Rattle.std.specs.Prelude.{None}
use Rattle.mip_entries.specs.declared.answer.Answer.{Answer}
use Rattle.mip_entries.specs.declared.answer.Answer.TheVariants.{Send, Note}
use Rattle.mip_entries.specs.declared.entry.Entry.{Entry}
use Rattle.mip_entries.specs.declared.entry.Entry.TheVariants as entries
use Rattle.mip_bulist.specs.Lists.{ListSeen}
use Rattle.mip_rules_mobile.specs.declared.peer.Peer.{Peer}
use Rattle.mip_rules_mobile.specs.HomeQuestions.{home_of, binding_number_of}
use Rattle.mip_rules_mobile.specs.Questions.{after}
use Rattle.mip_rules_mobile.specs.RowQuestions.{with_peer, touched}
use Rattle.mip_rules_mobile.specs.Sendings.{PeerUpdate}
use Rattle.mip_rules_mobile.specs.Steps.{Updates, myself}
use Rattle.mip_rules_mobile.specs.Trials.{Make}
use Rattle.mip_mobile_state.specs.Seen.{seen}
use Rattle.mip_mobile_state.specs.Mine.{AreMine}
use Rattle.mip_mobile_state.specs.Early.{AreEarly}
use Rattle.mip_mobile_context.proofs.Noted.{shown}
use Rattle.mip_mobile_state.proofs.Rows.{mine-changed}
use Rattle.mip_mobile_state.proofs.Early.{early-changed}
use Rattle.mip_mobile_context.proofs.call_context.CallContext.put_update.Goals as goal

pub invariant_of-self-2 : goal.invariant_of-self-2
invariant_of-self-2 c = record {
  own = c.self.invariant.own;
  early = c.self.invariant.early;
  later = c.self.invariant.later;
  home = c.self.invariant.home;
  mine = subst (λ (l : ListSeen). AreMine l.rows) (sym c.make.ensures) (mine-changed c.self.inside.known.list.rows c.args.row c.self.inside.moment Make c.self.invariant.mine);
  sent = subst (λ (l : ListSeen). AreEarly l.rows) (sym c.make.ensures) (early-changed c.self.inside.known.list.rows c.args.row c.self.inside.moment Make c.self.invariant.early c.self.invariant.sent);
  registered = c.self.invariant.registered;
}

pub returns : goal.returns
unfolding after
returns c = λ t packet shows.
    let u : PeerUpdate = record { home = home_of c.args.self.now.known; source = c.args.source; peer = c.args.peer; number = binding_number_of c.args.self.now.known; made = c.args.made.now } in
    let made : Answer = Note (entries.Made myself c.args.peer 0 c.args.made.now.home c.args.made.now.careof) in
    shown (Updates c.args.row u) c.args.self.now c.self.inside.moment.0 (seen c.self.inside.known) _ c.self.inside.answers c.push-2.new.self t c.self.view_is
    (c.in_ok-push-2.ensures.ok
    ∙ ap (λ (l : List Answer). l ++ Send None c.args.packet ∷ []) (c.in_ok-push.ensures.ok ∙ ap (λ (e : Entry). c.self.inside.answers ++ Note e ∷ []) c.made_entry.ensures)
    ∙ append_assoc c.self.inside.answers (made ∷ []) (Send None c.args.packet ∷ [])
    ∙ ap (λ (p : List ℕ). c.self.inside.answers ++ made ∷ Send None p ∷ []) packet)
    (ap (λ (p : List Peer). record (seen c.self.inside.known) { list = c.make.new.list; peers = p }) c.touch.ensures
    ∙ ap (λ (l : ListSeen). record (seen c.self.inside.known) { list = l; peers = with_peer c.args.row touched c.self.inside.known.peers }) c.make.ensures) shows
