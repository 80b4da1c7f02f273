use Rattle.std.proofs.Common.{sym, ap, ◌∙◌, subst, OnOk}
use Rattle.std.specs.Prelude.{Option}
use Rattle.mip_words.specs.declared.address.Address.{Address}
use Rattle.mip_rules_mobile.specs.declared.attachment.Attachment.{Attachment}
use Rattle.mip_rules_mobile.specs.HomeQuestions.{home_of}
use Rattle.mip_rules_mobile.specs.Known.{Known}
use Rattle.mip_rules_mobile.specs.TrialRules.{source_for, sends_update}
use Rattle.mip_mobile_context.specs.Seen.{Shows}
use Rattle.mip_mobile_context.proofs.Noted.{shows-known}
use Rattle.mip_mobile_routability.proofs.trials.send_made.Goals as goal

pub returns-in-Some : goal.returns-in-Some
returns-in-Some c = λ t shows.
    let d = c.args.context.now in
    let made = c.args.made.now in
    subst (λ (o : Option Address). OnOk c.send_update.result (Shows c.send_update.new.context (sends_update o c.args.at.row c.args.at.peer made c.args.wait t)))
    (sym c.in-Some.is ∙ c.source_for.ensures ∙ ap (λ (s : Attachment). source_for s c.home.result made) c.standing.ensures
    ∙ ap (λ (h : Address). source_for d.known.standing h made) c.home.ensures.value ∙ ap (λ (k : Known). source_for k.standing (home_of k) made) (sym (shows-known d t shows)))
    (c.send_update.ensures t shows)

pub returns-in-None : goal.returns-in-None
returns-in-None c = λ t shows.
    let d = c.args.context.now in
    let made = c.args.made.now in
    subst (λ (o : Option Address). Shows d (sends_update o c.args.at.row c.args.at.peer made c.args.wait t))
    (sym c.in-None.is ∙ c.source_for.ensures ∙ ap (λ (s : Attachment). source_for s c.home.result made) c.standing.ensures
    ∙ ap (λ (h : Address). source_for d.known.standing h made) c.home.ensures.value ∙ ap (λ (k : Known). source_for k.standing (home_of k) made) (sym (shows-known d t shows)))
    shows
