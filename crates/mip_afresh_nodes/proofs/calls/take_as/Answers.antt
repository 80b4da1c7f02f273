use Rattle.std.proofs.Common.{◌≡◌, List, ℕ, subst}
use Rattle.std.specs.Prelude.{OnOk}
use Rattle.mip_rules_correspondent.specs.Calls.{Take}
use Rattle.mip_history.specs.Runs.{Run}
use Rattle.mip_afresh.specs.Tellings.{with_run}
use Rattle.mip_afresh_nodes.specs.Members.{AreAnswers}
use Rattle.mip_afresh_nodes.proofs.ActingLaws.{took}
use Rattle.mip_afresh_nodes.proofs.calls.take_as.Goals as goal

pub returns : goal.returns
returns c =
    let t = c.args.telling.now in
    let m = c.args.member in
    subst (λ (run : Run). OnOk c.act.result (c.act.new.telling ≡ with_run run t))
    (took t.setup t.run m c.in_ok-answers.answers c.requires.member c.args.number c.args.shield c.args.packet
    (subst (λ (packet : List ℕ). AreAnswers t.setup t.run m (Take c.args.number c.args.shield packet) c.in_ok-answers.answers) c.as_slice.ensures (c.in_ok-answers.ensures c.args.shield)))
    c.act.ensures
