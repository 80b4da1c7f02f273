use Rattle.std.proofs.Common.{Bool, sym, ◌∙◌, subst}
use Rattle.std.specs.Prelude.{OnOk}
use Rattle.mip_engine.specs.Standing.{IsAt}
use Rattle.mip_replay.proofs.AdvertLaws.{told_if}
use Rattle.mip_replay.proofs.advertising.tell_mobile.Goals as goal

pub returns-then-roams_on-clause-stands : goal.returns-then-roams_on-clause-stands
returns-then-roams_on-clause-stands c = λ s run at is.
    let roams = sym (sym (c.roams_on.ensures s run at) ∙ c.if-roams_on.true) in
    subst (λ (b : Bool). OnOk c.attach.result (IsAt c.attach.new.engine s (told_if s c.args.link.0 c.args.node.0 run b))) roams (c.attach.ensures.stands s run at is)

pub returns-clause-stands : goal.returns-clause-stands
returns-clause-stands c = λ s run at is.
    let roams = sym (sym (c.roams_on.ensures s run at) ∙ c.if-roams_on.false) in
    subst (λ (b : Bool). IsAt c.args.engine.now s (told_if s c.args.link.0 c.args.node.0 run b)) roams at
