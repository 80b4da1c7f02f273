use Rattle.mip_rules_mobile.specs.RowQuestions.{is_bound_row, peer_of_row}
use Rattle.mip_rules_mobile.specs.MovingRules.{unbinds_with}
use Rattle.mip_afresh_mobile_rules.proofs.Asking.{asked}
use Rattle.mip_afresh_mobile_rules.proofs.rows.unbind_row.Goals as goal

pub returns : goal.returns
returns c =
    let turn = c.args.turn.now in
    let row = c.args.row in
    asked c.unbind_with.result turn c.unbind_with.new.turn (λ k n. is_bound_row k n row) c.is_bound_row-bound.result (λ bound t. unbinds_with bound (peer_of_row t.known row) row t) c.is_bound_row-bound.ensures
    (asked c.unbind_with.result turn c.unbind_with.new.turn (λ k n. peer_of_row k row) c.peer_of-peer.result (λ peer. unbinds_with c.is_bound_row-bound.result peer row) c.peer_of-peer.ensures
    c.unbind_with.ensures)
