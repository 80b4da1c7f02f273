use Rattle.std.proofs.Common.{◌≡◌, ◌-◌}
use Rattle.mip_rules_mobile.specs.TrialRules.{each_from, each_row}
use Rattle.mip_rules_mobile.specs.HomeRules.{starts_bound}
use Rattle.mip_rules_mobile.specs.Transitions.{Transition}
use Rattle.mip_afresh_mobile_state.specs.Turns.{Shows}
use Rattle.mip_afresh_mobile_rules.proofs.rows.start_bound.Given as goal

abbrev pub invariant-loop-row : goal.invariant-loop-row
invariant-loop-row l =
    (t : Transition) → Shows l.fn.turn t → (u : Transition) × Shows l.turn u × (each_from starts_bound (16 - l.row) l.row u ≡ each_row starts_bound t)
