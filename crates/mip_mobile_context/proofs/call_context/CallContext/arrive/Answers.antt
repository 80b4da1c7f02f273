use Rattle.std.proofs.Common.{ℕ, ap, ◌∙◌}
use Rattle.mip_rules_mobile.specs.Questions.{after}
use Rattle.mip_rules_mobile.specs.Steps.{Arrives}
use Rattle.mip_mobile_state.specs.Seen.{seen}
use Rattle.mip_mobile_context.proofs.Noted.{shown}
use Rattle.std.specs.Prelude.{None}
use Rattle.mip_words.specs.declared.address.Address.{Address}
use Rattle.mip_rules_mobile.specs.declared.attachment.Attachment.{Attachment}
use Rattle.mip_rules_mobile.specs.HomeQuestions.{home_of, standing_at}
use Rattle.mip_mobile_context.proofs.call_context.CallContext.arrive.Goals as goal

pub returns : goal.returns
unfolding after
returns c = λ t shows.
    shown (Arrives c.args.address) c.args.self.now c.self.inside.moment.0 (seen c.self.inside.known) _ c.self.inside.answers c.push.new.self t c.self.view_is c.in_ok-push.ensures.ok
    (ap (λ (s : Attachment). record (seen c.self.inside.known) { standing = s; places = c.places_after-self-inside.result; registered = None }) (c.standing_at-self-inside.ensures ∙ ap (λ (h : Address). standing_at h c.args.address) c.self.invariant.own)
    ∙ ap (λ (n : ℕ). record (seen c.self.inside.known) { standing = standing_at (home_of (seen c.self.inside.known)) c.args.address; places = n; registered = None }) c.places_after-self-inside.ensures) shows
