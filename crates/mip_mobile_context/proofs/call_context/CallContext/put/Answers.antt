use Rattle.std.proofs.Common.{ap, ◌∙◌, ℕ, List, ◌++◌, ◌∷◌, []}
use Rattle.std.specs.Prelude.{Option}
use Rattle.mip_words.specs.declared.shield.Shield.{Shield}
use Rattle.mip_entries.specs.declared.answer.Answer.TheVariants.{Send}
use Rattle.mip_rules_mobile.specs.Sendings.{shield_of}
use Rattle.mip_rules_mobile.specs.Steps.{Sends}
use Rattle.mip_mobile_state.specs.Seen.{seen}
use Rattle.mip_mobile_context.proofs.Noted.{shown, neutral-same}
use Rattle.mip_mobile_context.proofs.call_context.CallContext.put.Goals as goal

pub returns : goal.returns
returns c = λ x t neutral shield packet shows.
    shown (Sends x) c.args.self.now c.self.inside.moment.0 (seen c.self.inside.known) (seen c.self.inside.known) c.self.inside.answers c.push.new.self t c.self.view_is
    (c.in_ok-push.ensures.ok
    ∙ ap (λ (s : Option Shield). c.self.inside.answers ++ Send s c.args.packet ∷ []) shield
    ∙ ap (λ (p : List ℕ). c.self.inside.answers ++ Send (shield_of x) p ∷ []) packet)
    (neutral-same (seen c.self.inside.known) c.self.inside.moment.0 x neutral) shows
