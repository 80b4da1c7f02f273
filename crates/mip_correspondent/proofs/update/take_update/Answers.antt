use Rattle.std.proofs.Common.{ap, sym, subst, ◌∙◌}
use Rattle.std.specs.Prelude.{IfOk}
use Rattle.std.proofs.lemmas.Result.{IfOk-weaker}
use Rattle.mip_rules_correspondent.specs.declared.verdict.Verdict.{Verdict}
use Rattle.mip_rules_correspondent.specs.Verdicts.{Bench, verdict}
use Rattle.mip_rules_correspondent.specs.Rules.{judged, takes_update}
use Rattle.mip_correspondent.specs.Showing.{Shows, with_kept}
use Rattle.mip_correspondent.proofs.Benches.{bench-shown, kept-fits}
use Rattle.mip_correspondent.proofs.update.take_update.Goals as goal

pub returns-clause-fits : goal.returns-clause-fits
returns-clause-fits c =
    let me = c.args.update.now.context.now.identity.now in
    IfOk-weaker c.carry_out.result _ _ (λ kept is.
    kept-fits me.own me.secrets c.args.update.now.context.now.moment.0 c.args.update.now.context.now.cache.now c.args.update.now.registration.now c.args.update.now.message.now c.verdict-judged.result.verdict kept c.verdict-judged.ensures.found is) c.carry_out.ensures.kept

pub returns-clause-shows : goal.returns-clause-shows
unfolding takes_update
returns-clause-shows c = λ t shows.
    let me = c.args.update.now.context.now.identity.now in
    let now = c.args.update.now.context.now.moment.0 in
    let cache = c.args.update.now.context.now.cache.now in
    let r = c.args.update.now.registration.now in
    let message = c.args.update.now.message.now in
    subst (λ (v : Verdict). IfOk c.carry_out.result (λ kept. Shows now (with_kept now kept cache) c.carry_out.new.answers (judged me c.args.update.now.context.now.number r v t)))
    (c.verdict-judged.ensures.found ∙ ap (λ (b : Bench). verdict b r message) (sym (bench-shown me r now cache c.args.answers.now t shows)))
    (c.carry_out.ensures.shows cache t shows)
