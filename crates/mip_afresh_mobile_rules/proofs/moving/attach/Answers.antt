use Rattle.std.proofs.Common.{ap, ◌∙◌}
use Rattle.std.specs.Prelude.{Bool, if◌then◌else◌}
use Rattle.mip_words.specs.declared.address.Address.{Address}
use Rattle.mip_rules_mobile.specs.declared.attachment.Attachment.{Attachment}
use Rattle.mip_rules_mobile.specs.Transitions.{Transition}
use Rattle.mip_rules_mobile.specs.HomeQuestions.{home_of}
use Rattle.mip_rules_mobile.specs.MovingRules.{uses_prefix, leaves_first, arrives, attaches}
use Rattle.mip_afresh_mobile_rules.proofs.Asking.{asked}
use Rattle.mip_afresh_mobile_rules.proofs.moving.attach.Goals as goal

pub returns : goal.returns
unfolding attaches
returns c =
    let turn = c.args.turn.now in
    let prefix = c.args.prefix.0 in
    let standing = c.standing-standing.result in
    let rule = λ (used : Bool) (s : Attachment) (t : Transition). (let u : Transition = (if used then t else arrives prefix c.args.of_address (leaves_first s c.args.of_home t)) in u) in
    asked c.attach_unless.result turn c.attach_unless.new.turn (λ k n. uses_prefix k.standing (home_of k) prefix) c.uses_prefix-used.result (λ used t. rule used t.known.standing t)
    (λ k same.
    c.uses_prefix-used.ensures ∙ ap (λ (s : Attachment). uses_prefix s c.home.result prefix) (c.standing-standing.ensures k same)
    ∙ ap (λ (home : Address). uses_prefix k.standing home prefix) (c.home.ensures k same))
    (asked c.attach_unless.result turn c.attach_unless.new.turn (λ k n. k.standing) standing (λ s. rule c.uses_prefix-used.result s) c.standing-standing.ensures c.attach_unless.ensures)
