use Rattle.std.proofs.Common.{ap, subst, ◌∙◌}
use Rattle.std.specs.Prelude.{OnOk}
use Rattle.mip_rules_correspondent.specs.declared.verdict.Verdict.{Verdict}
use Rattle.mip_rules_correspondent.specs.Verdicts.{Bench, verdict}
use Rattle.mip_rules_correspondent.specs.Rules.{judged, takes_update}
use Rattle.mip_afresh_rules.specs.Showing.{Shown}
use Rattle.mip_afresh_rules.proofs.ReceivedLaws.{bench-kept}
use Rattle.mip_afresh_rules.proofs.update.take_update.Goals as goal

pub returns : goal.returns
unfolding takes_update
returns c = λ t kept shows.
    let who = c.args.who.now in
    let asked = c.args.update.now.registration in
    subst (λ (v : Verdict). OnOk c.carry_out.result (Shown who.at.moment.0 c.carry_out.new.answers (judged who.me.now who.number asked v t)))
    (c.verdict-judged.ensures ∙ ap (λ (b : Bench). verdict b asked c.args.update.now.message.now) (bench-kept who t asked c.args.answers.now kept shows))
    (c.carry_out.ensures t shows)
