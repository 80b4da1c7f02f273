use Rattle.std.proofs.Common.{ℕ, List, [], ◌∷◌, ◌++◌, refl, ap, ◌∙◌}
use Rattle.mip_words.specs.declared.address.Address.{Address}
use Rattle.mip_entries.specs.declared.answer.Answer.{Answer}
use Rattle.mip_entries.specs.declared.answer.Answer.TheVariants.{Send}
use Rattle.mip_afresh_mobile_state.specs.declared.turn.Turn.{Turn}
use Rattle.mip_afresh_mobile_state.specs.Mobiles.{MobileSeen}
use Rattle.mip_rules_mobile.specs.Steps.{Sends}
use Rattle.mip_rules_mobile.specs.Questions.{after}
use Rattle.mip_afresh_mobile_state.proofs.TurnLaws.{left}
use Rattle.mip_rules_mobile.specs.Sendings.{DeregistersHome, shield_to}
use Rattle.mip_afresh_mobile_state.proofs.turn.Turn.send_deregistration.Goals as goal

pub returns : goal.returns
unfolding after
returns c = λ packet t shows.
    let home : Address = c.args.self.now.mobile.identity.own in
    let mobile : MobileSeen = c.send_deregistration.new.self in
    let same = ap (λ (m : MobileSeen). m.identity.own) c.in_ok-send_deregistration.ensures in
    let with : Answer → Turn = λ a. record { now = c.args.self.now.now; mobile = mobile; answers = c.args.self.now.answers ++ a ∷ [] } in
    left (Sends (DeregistersHome home c.args.agent c.args.sequence)) c.args.self.now mobile c.send_to_agent.new.self (λ k. refl) c.in_ok-send_deregistration.ensures
    (c.in_ok-send_to_agent.ensures ∙ ap (λ (h : Address). with (Send (shield_to h c.args.agent) c.args.packet)) same ∙ ap (λ (p : List ℕ). with (Send (shield_to home c.args.agent) p)) packet) t shows
