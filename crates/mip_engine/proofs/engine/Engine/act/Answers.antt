use Rattle.std.proofs.Common.{List, sym, ap, ◌∙◌, subst}
use Rattle.std.specs.Prelude.{slice_get}
use Rattle.std.specs.List.{AllByRecursion}
use Rattle.mip_entries.specs.declared.answer.Answer.{Answer}
use Rattle.mip_history.specs.Nodes.{acts, answered}
use Rattle.mip_roles.specs.Calls.{asked}
use Rattle.mip_roles.specs.Nodes.{NodeSeen, around_node}
use Rattle.mip_roles.specs.RolesLaws.{IsWhole}
use Rattle.mip_roles.proofs.WholeLaws.{role_whole, can_ask}
use Rattle.std.proofs.lemmas.Result.{on_ok_weaker}
use Rattle.mip_engine.specs.Engines.{EngineSeen, station_of}
use Rattle.mip_engine.proofs.ItemLaws.{map_some, map_none}
use Rattle.mip_engine.proofs.QuietLaws.{at_is, at_ok_run}
use Rattle.mip_engine.proofs.GoesLaws.{goes_idle}
use Rattle.mip_engine.proofs.NodeLaws.{acts_none}
use Rattle.mip_engine.proofs.ActLaws.{acts_some}
use Rattle.mip_engine.proofs.engine.Engine.act.Goals as goal

pub returns-in-None : goal.returns-in-None
returns-in-None c =
    let e = c.args.self.now in
    let n = c.args.node.0 in
    let none = map_none (λ (x : NodeSeen). station_of e.net.links x) (slice_get e.nodes n) (sym c.in-None.ensures.found) in
    goes_idle c.note.ensures (λ s run at. sym (acts_none e s run at n (asked c.args.call) none))

pub answer-requires : goal.answer-requires
answer-requires c =
    let e = c.args.self.now in
    let n = c.args.node.0 in
    let found = map_some (λ (x : NodeSeen). station_of e.net.links x) (slice_get e.nodes n) c.in-Some.from.0 (sym c.in-Some.ensures.found) in
    let node = found.0 in
    record {
      whole = subst (λ (answers : List Answer). AllByRecursion IsWhole answers) (sym (c.in_ok-answers.ensures.answers node found.1))
          (role_whole (around_node e.net n node) node.role e.moment (asked c.args.call) (can_ask c.args.call c.requires));
    }

pub returns : goal.returns
returns c =
    let e = c.args.self.now in
    let n = c.args.node.0 in
    let call = asked c.args.call in
    let from = c.in-Some.from.0 in
    let found = map_some (λ (x : NodeSeen). station_of e.net.links x) (slice_get e.nodes n) from (sym c.in-Some.ensures.found) in
    let after = c.in_ok-answers.ensures.after found.0 found.1 in
    record {
      stands = λ s run at.
          let does = acts_some e s run at n call found.0 found.1 from found.2 in
          at_ok_run c.answer.result c.answer.new.self s (answered s n from does.next c.in_ok-answers.answers) (acts s n call run)
          (c.answer.ensures.stands s does.next (at_is after does.stands))
          (ap (λ (answers : List Answer). answered s n from does.next answers) (c.in_ok-answers.ensures.answers found.0 found.1) ∙ does.does);
      kept = on_ok_weaker c.answer.result (λ same. same ∙ ap (λ (x : EngineSeen). x.told) after) c.answer.ensures.kept;
    }
