use Rattle.std.specs.Prelude.{◌&&◌, not}
use Rattle.mip_rules_mobile.specs.Trials.{is_idle}
use Rattle.mip_rules_mobile.specs.RowQuestions.{trial_of, is_bound_row, is_touched_row}
use Rattle.mip_rules_mobile.specs.HomeRules.{starts_for}
use Rattle.mip_afresh_mobile_rules.proofs.Asking.{asked}
use Rattle.mip_afresh_mobile_rules.proofs.rows.start_bound_row.Goals as goal

pub returns : goal.returns
returns c =
    let row = c.args.row in
    asked c.start_if.result c.args.turn.now c.start_if.new.turn (λ k n. is_touched_row k row && (is_idle (trial_of k row) && not (is_bound_row k n row))) c.is_unbound-due.result
    (λ due. starts_for due row) c.is_unbound-due.ensures c.start_if.ensures
