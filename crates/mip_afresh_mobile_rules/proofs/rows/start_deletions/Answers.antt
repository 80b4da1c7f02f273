use Rattle.std.proofs.Common.{◌<◌, ◌≤◌, sym, ◌∙◌, subst, arith}
use Rattle.mip_rules_mobile.specs.HomeRules.{starts_deletion}
use Rattle.mip_rules_mobile.specs.Transitions.{Transition}
use Rattle.mip_afresh_mobile_state.specs.Turns.{Shows}
use Rattle.mip_afresh_mobile_rules.proofs.Rounds.{each-step, each-done}
use Rattle.mip_afresh_mobile_rules.proofs.rows.start_deletions.Goals as goal

pub loop-row-preserved : goal.loop-row-preserved
loop-row-preserved c = λ t shows.
    let held = c.loop-row.invariant t shows in
    let row = c.loop-row.row in
    let below : row < 16 = omega arith in
    (starts_deletion row held.0, c.in_ok-start_deletion_row.ensures held.0 held.1, sym (each-step starts_deletion row held.0 below) ∙ held.2)

pub returns : goal.returns
returns c = λ t shows.
    let held = c.loop-row.invariant t shows in
    let done : 16 ≤ c.loop-row.row = omega arith in
    subst (λ (u : Transition). Shows c.loop-row.turn u) (sym (each-done starts_deletion c.loop-row.row held.0 done) ∙ held.2) held.1
