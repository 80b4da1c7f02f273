use Rattle.std.proofs.Common.{ap, ◌∙◌, ℕ, List, ◌++◌, ◌∷◌, []}
use Rattle.std.specs.Prelude.{Option, Some, true}
use Rattle.mip_words.specs.declared.address.Address.{Address}
use Rattle.mip_words.specs.declared.shield.Shield.{Shield}
use Rattle.mip_entries.specs.declared.answer.Answer.TheVariants.{Send}
use Rattle.mip_rules_mobile.specs.declared.numbering.Numbering.{Numbering}
use Rattle.mip_rules_mobile.specs.Sendings.{DeregistersHome, shield_to}
use Rattle.mip_rules_mobile.specs.HomeQuestions.{home_of, sent_home}
use Rattle.mip_rules_mobile.specs.Questions.{after}
use Rattle.mip_rules_mobile.specs.Steps.{Sends}
use Rattle.mip_mobile_context.specs.Seen.{ContextSeen}
use Rattle.mip_mobile_state.specs.Seen.{seen}
use Rattle.mip_mobile_context.proofs.Noted.{shown}
use Rattle.mip_mobile_context.proofs.call_context.CallContext.put_deregistration.Goals as goal

pub returns : goal.returns
unfolding after
returns c = λ t packet shows.
    let home : Address = home_of c.args.self.now.known in
    shown (Sends (DeregistersHome home c.args.agent c.args.sequence)) c.args.self.now c.self.inside.moment.0 (seen c.self.inside.known) _ c.self.inside.answers c.push.new.self t c.self.view_is
    (c.in_ok-push.ensures.ok
    ∙ ap (λ (s : Option Shield). c.self.inside.answers ++ Send s c.args.packet ∷ [])
    (c.shield_to-shield.ensures ∙ ap (λ (h : Address). shield_to h c.args.agent) (c.self.invariant.own ∙ ap (λ (d : ContextSeen). home_of d.known) c.self.view_is))
    ∙ ap (λ (p : List ℕ). c.self.inside.answers ++ Send (shield_to home c.args.agent) p ∷ []) packet)
    (ap (λ (n : List Numbering). record (seen c.self.inside.known) { numberings = n; latest = Some (sent_home c.args.agent c.args.sequence c.self.inside.moment.0 true) }) c.in_ok-set.ensures) shows
