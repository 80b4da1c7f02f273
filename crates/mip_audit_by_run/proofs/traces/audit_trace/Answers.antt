use Rattle.std.proofs.Common.{◌≡◌, ℕ, ◌≤◌, List, [], ◌++◌, length, drop, refl, ap, ◌∙◌}
use Rattle.std.specs.Prelude.{Some, ⊤}
use Rattle.std.proofs.lemmas.Result.{err_from_is_err_and}
use Rattle.mip_schedule.specs.Schedules.{content}
use Rattle.mip_entries.specs.declared.entry.Entry.{Entry}
use Rattle.mip_history.specs.Permitted.{permitted}
use Rattle.mip_afresh_run.proofs.RunLaws.{told_front, told_whole}
use Rattle.mip_audit.proofs.Pieces.{none_compared, piece_compared, piece_judged, end_compared}
use Rattle.mip_audit_by_run.proofs.Steps.{items, step_items}
use Rattle.mip_audit_by_run.proofs.traces.audit_trace.Goals as goal
use Rattle.mip_audit_by_run.proofs.traces.audit_trace.Goals.{After-history-in-loop-run}

-- what a step more has told
more : (c : After-history-in-loop-run) → (c.loop-run.met ≤ length c.history-in-loop-run.result.now)
    × (c.step.new.self.telling.run.past ≡ c.loop-run.run.telling.run.past ++ drop c.loop-run.met c.history-in-loop-run.result.now)
more c =
    step_items c.loop-run.run c.step.new.self (content c.args.schedule.now) c.history-in-loop-run.result.now c.loop-run.met c.in_ok-step.field-0
    c.loop-run.invariant.stands c.in_ok-step.ensures.stands c.in_ok-step.ensures.more c.if-branch.true c.history-in-loop-run.ensures c.loop-run.invariant.all

pub returns-in_err-met : goal.returns-in_err-met
returns-in_err-met c =
    let p = err_from_is_err_and c.from_residual-in_err-met.result c.from_residual-in_err-met.ensures.1 in
    let s = content c.args.schedule.now in
    let names = Some c.args.schedule.now.declarations in
    let told = c.in_ok-run.run'.telling.run.past in
    let front = told_front c.in_ok-run.run' s c.in_ok-run.ensures.stands in
    rw (p.1, p.2)
    (piece_judged ℕ ⊤ (record { rest = c.args.trace.now; line = 1 }) c.new-comparison.result names c.in_ok-names.names (permitted s) told [] (drop 0 c.history.result.now) front.0 _
    c.in_ok-names.ensures front.1 (items [] told c.history.result.now told 0 c.history.ensures refl refl).1
    (none_compared _ _ names [] c.new-comparison.ensures refl) c.in_err-met.ensures.differs)

pub loop-run-init : goal.loop-run-init
loop-run-init c =
    let names = Some c.args.schedule.now.declarations in
    let told = c.in_ok-run.run'.telling.run.past in
    record {
      stands = c.in_ok-run.ensures.stands;
      all = c.in_ok-met.ensures.all ∙ ap (λ (l : List Entry). length l) c.history.ensures;
      compared = piece_compared _ _ _ names c.in_ok-names.names told [] (drop 0 c.history.result.now) c.in_ok-names.ensures
          (items [] told c.history.result.now told 0 c.history.ensures refl refl).1 (none_compared _ _ names [] c.new-comparison.ensures refl) c.in_ok-met.ensures.goes_on;
    }

pub meet_from-requires-in-loop-run : goal.meet_from-requires-in-loop-run
meet_from-requires-in-loop-run c = (more c).0

pub returns-in_err-met-2 : goal.returns-in_err-met-2
returns-in_err-met-2 c =
    let p = err_from_is_err_and c.from_residual-in_err-met-2.result c.from_residual-in_err-met-2.ensures.1 in
    let s = content c.args.schedule.now in
    let front = told_front c.step.new.self s c.in_ok-step.ensures.stands in
    rw (p.1, p.2)
    (piece_judged ℕ ⊤ _ _ (Some c.args.schedule.now.declarations) c.in_ok-names.names (permitted s) c.step.new.self.telling.run.past c.loop-run.run.telling.run.past
    (drop c.loop-run.met c.history-in-loop-run.result.now) front.0 _ c.in_ok-names.ensures front.1 (more (goal.at.returns-in_err-met-2 c).After-history-in-loop-run).1
    c.loop-run.invariant.compared c.in_err-met-2.ensures.differs)

pub loop-run-preserved : goal.loop-run-preserved
loop-run-preserved c = record {
  stands = c.in_ok-step.ensures.stands;
  all = c.in_ok-met-2.ensures.all ∙ ap (λ (l : List Entry). length l) c.history-in-loop-run.ensures;
  compared = piece_compared _ _ _ (Some c.args.schedule.now.declarations) c.in_ok-names.names c.step.new.self.telling.run.past c.loop-run.run.telling.run.past
      (drop c.loop-run.met c.history-in-loop-run.result.now) c.in_ok-names.ensures (more (goal.at.loop-run-preserved c).After-history-in-loop-run).1
      c.loop-run.invariant.compared c.in_ok-met-2.ensures.goes_on;
}

pub returns-in_err-end : goal.returns-in_err-end
returns-in_err-end c =
    let p = err_from_is_err_and c.from_residual-in_err-end.result c.from_residual-in_err-end.ensures.1 in
    let s = content c.args.schedule.now in
    rw (p.1, p.2) (end_compared _ _ (Some c.args.schedule.now.declarations) (permitted s) c.loop-run.run.telling.run.past
    (told_whole c.loop-run.run s c.loop-run.invariant.stands (c.in_ok-step.ensures.end c.if-branch.false)) c.loop-run.invariant.compared ∙ c.in_err-end.ensures)

pub returns : goal.returns
returns c =
    let s = content c.args.schedule.now in
    end_compared _ _ (Some c.args.schedule.now.declarations) (permitted s) c.loop-run.run.telling.run.past
    (told_whole c.loop-run.run s c.loop-run.invariant.stands (c.in_ok-step.ensures.end c.if-branch.false)) c.loop-run.invariant.compared ∙ c.in_ok-end.ensures
