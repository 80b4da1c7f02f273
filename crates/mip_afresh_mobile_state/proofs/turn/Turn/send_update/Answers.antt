use Rattle.std.proofs.Common.{ℕ, List, [], ◌∷◌, ◌++◌, refl, ap, sym, ◌∙◌}
use Rattle.std.specs.Prelude.{None}
use Rattle.mip_entries.specs.declared.answer.Answer.{Answer}
use Rattle.mip_entries.specs.declared.answer.Answer.TheVariants.{Send, Note}
use Rattle.mip_afresh_mobile_state.specs.declared.turn.Turn.{Turn}
use Rattle.mip_afresh_mobile_state.specs.Mobiles.{MobileSeen}
use Rattle.std.proofs.lemmas.List.{append_assoc}
use Rattle.mip_entries.specs.declared.entry.Entry.TheVariants.{Made}
use Rattle.mip_rules_mobile.specs.RowQuestions.{with_peer, touched}
use Rattle.mip_rules_mobile.specs.Sendings.{PeerUpdate, update_packet}
use Rattle.mip_rules_mobile.specs.Steps.{Updates, myself}
use Rattle.mip_rules_mobile.specs.Questions.{after}
use Rattle.mip_afresh_mobile_state.proofs.TurnLaws.{left}
use Rattle.mip_afresh_mobile_state.proofs.turn.Turn.send_update.Goals as goal

pub returns : goal.returns
unfolding after
returns c = λ u is packet t shows.
    let me = c.args.self.now in
    let made : Answer = Note (Made myself c.args.peer 0 c.args.made.now.home c.args.made.now.careof) in
    let with : List Answer → Turn = λ l. record { now = me.now; mobile = c.touch.new.self; answers = l } in
    let touches : MobileSeen → MobileSeen = λ m. record m { peers = with_peer c.args.row touched m.peers } in
    let last : Turn → Turn = λ n. record n { answers = n.answers ++ Send None c.args.packet ∷ [] } in
    let noting : PeerUpdate → Answer = λ w. Note (Made myself w.peer 0 w.made.home w.made.careof) in
    left (Updates c.args.row u) me c.touch.new.self c.send.new.self (λ k. refl) (c.touch.ensures ∙ ap touches c.change_trial.ensures)
    (c.in_ok-send.ensures ∙ ap last c.in_ok-leave.ensures ∙ ap with (append_assoc me.answers (made ∷ []) (Send None c.args.packet ∷ []))
    ∙ ap (λ (p : List ℕ). with (me.answers ++ made ∷ Send None p ∷ [])) packet ∙ ap (λ (w : PeerUpdate). with (me.answers ++ noting w ∷ Send None (update_packet u) ∷ [])) (sym is)) t shows
