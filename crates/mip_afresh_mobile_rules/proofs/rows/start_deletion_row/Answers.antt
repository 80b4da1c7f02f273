use Rattle.mip_rules_mobile.specs.RowQuestions.{is_touched_row}
use Rattle.mip_rules_mobile.specs.HomeRules.{starts_for}
use Rattle.mip_afresh_mobile_rules.proofs.Asking.{asked}
use Rattle.mip_afresh_mobile_rules.proofs.rows.start_deletion_row.Goals as goal

pub returns : goal.returns
returns c =
    asked c.start_if.result c.args.turn.now c.start_if.new.turn (λ k n. is_touched_row k c.args.row) c.is_touched_row-due.result (λ due. starts_for due c.args.row)
    c.is_touched_row-due.ensures c.start_if.ensures
