use Rattle.std.proofs.Common.{◌≡◌, List, map, refl, sym, ap, ◌∙◌, subst}
use Rattle.std.specs.Prelude.{OnOk, unwrap_or, Option}
use Rattle.mip_words.specs.declared.address.Address.{Address}
use Rattle.mip_rules_mobile.specs.Calls as mobiles
use Rattle.mip_history.specs.Calls as asked_for
use Rattle.mip_history.specs.Runs.{Run, with_mobile_past}
use Rattle.mip_history.specs.Knowing.{stands_on}
use Rattle.mip_history.specs.Nodes.{answered}
use Rattle.mip_afresh_bindings.specs.Accepted.{acceptance_seen}
use Rattle.mip_afresh.specs.Tellings.{with_run}
use Rattle.mip_afresh_nodes.proofs.CallLaws.{mobile_done}
use Rattle.mip_afresh_nodes.proofs.PartLaws.{part_holds}
use Rattle.mip_afresh_nodes.proofs.mobiles.send_by_mobile.Goals as goal

pub send-requires : goal.send-requires
send-requires c =
    let t = c.args.telling.now in
    record { held = part_holds t.setup t.run c.args.node.0 c.args.mobile c.requires.out.is c.requires.out.inside c.requires.run c.now.result.0 c.now.ensures c.args.to.address c.in_ok-held.held c.in_ok-held.ensures }

pub returns : goal.returns
returns c =
    let t = c.args.telling.now in
    let m = c.args.mobile in
    subst (λ (run : Run). OnOk c.answer_mobile.result (c.answer_mobile.new.telling ≡ with_run run t))
    (ap (λ (o : Address). answered t.setup c.args.node.0 (unwrap_or (stands_on t.setup t.run c.args.node.0 o) 0) (with_mobile_past c.args.node.0 c.send.new.self.past t.run) c.in_ok-answers.answers) c.home-own.ensures
    ∙ mobile_done t.setup t.run c.args.node.0 m c.requires.out.is c.requires.out.inside (asked_for.Send c.args.to.address c.args.payload.now.proto c.args.payload.now.bytes.now) (mobiles.Send c.args.to.address c.args.payload.now.proto c.args.payload.now.bytes.now) c.now.result.0 c.send.new.self c.in_ok-answers.answers refl
    c.now.ensures c.in_ok-answers.ensures.goes_on c.in_ok-answers.ensures.answers)
    c.answer_mobile.ensures
