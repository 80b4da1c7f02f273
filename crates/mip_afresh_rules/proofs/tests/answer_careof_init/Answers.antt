use Rattle.std.proofs.Common.{ap, sym, subst, ◌∙◌}
use Rattle.std.specs.Prelude.{List, ℕ, OnOk}
use Rattle.mip_rules_correspondent.specs.Steps.{Sends}
use Rattle.mip_rules_correspondent.specs.Transitions.{noted}
use Rattle.mip_rules_correspondent.specs.Rules.{careof_test, answers_careof_init}
use Rattle.mip_afresh_rules.specs.Showing.{Shown}
use Rattle.mip_afresh_rules.proofs.ShowingLaws.{shown-now}
use Rattle.mip_afresh_rules.proofs.tests.answer_careof_init.Goals as goal

pub returns : goal.returns
unfolding answers_careof_init
returns c = λ t shows.
    let now = c.args.who.now.at.moment.0 in
    let test = λ (at : ℕ). careof_test c.args.who.now.me.now at c.args.source c.args.cookie.0 in
    subst (λ (packet : List ℕ). OnOk c.send_packet.result (Shown now c.send_packet.new.answers (noted (Sends packet) t)))
    (c.in_ok-test.ensures ∙ ap test (sym (shown-now now c.args.answers.now t shows)))
    (c.send_packet.ensures now t shows)
