use Rattle.std.proofs.Common.{ℕ, List, [], ◌∷◌, ◌++◌, ap, sym, ◌∙◌}
use Rattle.std.specs.Prelude.{Option}
use Rattle.mip_words.specs.declared.shield.Shield.{Shield}
use Rattle.mip_entries.specs.declared.answer.Answer.{Answer}
use Rattle.mip_entries.specs.declared.answer.Answer.TheVariants.{Send}
use Rattle.mip_afresh_mobile_state.specs.declared.turn.Turn.{Turn}
use Rattle.mip_afresh_mobile_state.specs.Mobiles.{known_of}
use Rattle.mip_rules_mobile.specs.Steps.{Sends}
use Rattle.mip_rules_mobile.specs.Questions.{after}
use Rattle.mip_afresh_mobile_state.proofs.TurnLaws.{left, stays, sends-neutral}
use Rattle.mip_rules_mobile.specs.Sendings.{shield_of}
use Rattle.mip_afresh_mobile_state.proofs.turn.Turn.send_packet.Goals as goal

pub returns : goal.returns
unfolding after
returns c = λ sending neutral shield packet t shows.
    let at = c.args.self.now.now.0 in
    let with : Answer → Turn = λ a. record c.args.self.now { answers = c.args.self.now.answers ++ a ∷ [] } in
    left (Sends sending) c.args.self.now c.args.self.now.mobile c.send.new.self (stays at (Sends sending) (sends-neutral at sending neutral)) (sym (sends-neutral at sending neutral (known_of c.args.self.now.mobile)))
    (c.in_ok-send.ensures ∙ ap (λ (s : Option Shield). with (Send s c.args.packet)) shield ∙ ap (λ (p : List ℕ). with (Send (shield_of sending) p)) packet) t shows
