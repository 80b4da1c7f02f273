use Rattle.std.proofs.Common.{List, refl, sym, ap, ◌∙◌, subst, arith}
use Rattle.std.proofs.lemmas.List.{drop_all}
use Rattle.mip_rules_agent.specs.declared.home_row.HomeRow.{HomeRow}
use Rattle.mip_history.specs.Runs.{Run}
use Rattle.mip_history.specs.Restarting.{homes_left}
use Rattle.mip_engine.specs.Standing.{IsAt}
use Rattle.mip_replay.proofs.RestartLaws.{leaves_on}
use Rattle.mip_replay.proofs.restarting.leave_homes.Goals as goal

pub loop-row-init : goal.loop-row-init
loop-row-init c = record { stands = λ s run at. (run, at, refl); kept = refl }

pub loop-row-preserved : goal.loop-row-preserved
loop-row-preserved c = record {
  stands = λ s run at.
      let before = c.loop-row.invariant.stands s run at in
      leaves_on c.leave_home.new.engine s c.args.node.0 c.args.homes.now c.loop-row.row-index _ before.0 run (omega arith) (c.in_ok-leave_home.ensures.stands s before.0 before.1) before.2;
  kept = c.in_ok-leave_home.ensures.kept ∙ c.loop-row.invariant.kept;
}

pub returns : goal.returns
unfolding homes_left
returns c = record {
  stands = λ s run at.
      let n = c.args.node.0 in
      let rows = c.args.homes.now in
      let before = c.loop-row.invariant.stands s run at in
      subst (λ (r : Run). IsAt c.loop-row.engine s r)
      (ap (λ (rs : List HomeRow). homes_left s n rs before.0) (sym (drop_all c.loop-row.row-index rows (omega arith))) ∙ before.2) before.1;
  kept = c.loop-row.invariant.kept;
}
