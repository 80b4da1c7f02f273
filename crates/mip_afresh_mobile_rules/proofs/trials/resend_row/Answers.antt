use Rattle.mip_rules_mobile.specs.RowQuestions.{peer_of_row, wait_of_row}
use Rattle.mip_rules_mobile.specs.TrialRules.{resends_at, resends_row}
use Rattle.mip_afresh_mobile_rules.proofs.Asking.{asked}
use Rattle.mip_afresh_mobile_rules.proofs.trials.resend_row.Goals as goal

pub returns : goal.returns
unfolding resends_row
returns c =
    let turn = c.args.turn.now in
    let row = c.args.row in
    asked c.resend_at.result turn c.resend_at.new.turn (λ k n. peer_of_row k row) c.peer_of-peer.result (λ peer t. resends_at peer row (wait_of_row t.known row) t) c.peer_of-peer.ensures
    (asked c.resend_at.result turn c.resend_at.new.turn (λ k n. wait_of_row k row) c.wait_of_row-wait.result (λ wait. resends_at c.peer_of-peer.result row wait) c.wait_of_row-wait.ensures
    c.resend_at.ensures)
