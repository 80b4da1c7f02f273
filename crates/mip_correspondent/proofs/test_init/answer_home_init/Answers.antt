use Rattle.std.proofs.Common.{ap, sym, subst, ◌∙◌}
use Rattle.std.specs.Prelude.{List, ℕ, OnOk}
use Rattle.mip_rules_correspondent.specs.Steps.{Sends}
use Rattle.mip_rules_correspondent.specs.Transitions.{noted}
use Rattle.mip_rules_correspondent.specs.Rules.{home_test, answers_home_init}
use Rattle.mip_correspondent.specs.Showing.{Shows}
use Rattle.mip_correspondent.proofs.ShowingLaws.{shows-now}
use Rattle.mip_correspondent.proofs.test_init.answer_home_init.Goals as goal

pub returns : goal.returns
unfolding answers_home_init
returns c = λ cache t shows.
    let me = c.args.context.now.identity.now in
    let now = c.args.context.now.moment.0 in
    let test = λ (at : ℕ). home_test me at c.args.source c.args.cookie.0 in
    subst (λ (packet : List ℕ). OnOk c.send.result (Shows now cache c.send.new.answers (noted (Sends packet) t)))
    (c.in_ok-test.ensures ∙ ap test (sym (shows-now now cache c.args.answers.now t shows)))
    (c.send.ensures now cache t shows)
