use Rattle.std.proofs.Common.{◌≡◌, refl, sym, ap, ◌∙◌, subst}
use Rattle.std.specs.Prelude.{OnOk, Some, unwrap_or}
use Rattle.mip_words.specs.declared.address.Address.{Address}
use Rattle.mip_history.specs.Runs.{Run, with_mobile_past}
use Rattle.mip_history.specs.Knowing.{now_in, around_in, stands_on}
use Rattle.mip_history.specs.Nodes.{answered}
use Rattle.mip_afresh.specs.Tellings.{with_run}
use Rattle.mip_afresh_nodes.specs.MobileCalls.{asked_of_mobile, call_of_mobile}
use Rattle.mip_afresh_nodes.proofs.CallLaws.{mobile_asked, mobile_done}
use Rattle.mip_afresh_nodes.proofs.mobiles.ask_mobile.Goals as goal

pub returns : goal.returns
returns c =
    let t = c.args.telling.now in
    let n = c.args.node.0 in
    let m = c.args.mobile in
    let around = around_in t.run n (Some m.home.0) in
    subst (λ (run : Run). OnOk c.answer_mobile.result (c.answer_mobile.new.telling ≡ with_run run t))
    (ap (λ (o : Address). answered t.setup n (unwrap_or (stands_on t.setup t.run n o) 0) (with_mobile_past n c.mobile_answers.new.mobile.past t.run) c.in_ok-answers.answers) c.home-own.ensures
    ∙ mobile_done t.setup t.run n m c.requires.is c.requires.inside (asked_of_mobile c.args.call) (call_of_mobile around m.home c.args.call) (now_in t.setup t.run) c.mobile_answers.new.mobile c.in_ok-answers.answers
    (mobile_asked around m.home c.args.call) refl c.in_ok-answers.ensures.goes_on c.in_ok-answers.ensures.answers)
    c.answer_mobile.ensures
