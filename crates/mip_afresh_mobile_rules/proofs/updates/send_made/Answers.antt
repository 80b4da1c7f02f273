use Rattle.std.proofs.Common.{ap, ◌∙◌}
use Rattle.mip_words.specs.declared.address.Address.{Address}
use Rattle.mip_rules_mobile.specs.declared.attachment.Attachment.{Attachment}
use Rattle.mip_rules_mobile.specs.HomeQuestions.{home_of}
use Rattle.mip_rules_mobile.specs.TrialRules.{source_for, sends_update}
use Rattle.mip_afresh_mobile_rules.proofs.Asking.{asked}
use Rattle.mip_afresh_mobile_rules.proofs.updates.send_made.Goals as goal

pub returns : goal.returns
returns c =
    let made = c.args.made.now in
    asked c.send_update.result c.args.turn.now c.send_update.new.turn (λ k n. source_for k.standing (home_of k) made) c.source_for-source.result
    (λ source. sends_update source c.args.row c.args.peer made c.args.wait)
    (λ k same. c.source_for-source.ensures ∙ ap (λ (s : Attachment). source_for s c.home.result made) (c.standing.ensures k same)
    ∙ ap (λ (home : Address). source_for k.standing home made) (c.home.ensures k same))
    c.send_update.ensures
