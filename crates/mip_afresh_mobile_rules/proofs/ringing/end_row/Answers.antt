use Rattle.mip_rules_mobile.specs.RowQuestions.{peer_of_row}
use Rattle.mip_rules_mobile.specs.RingingRules.{ends_at, ends_row}
use Rattle.mip_afresh_mobile_rules.proofs.Asking.{asked}
use Rattle.mip_afresh_mobile_rules.proofs.ringing.end_row.Goals as goal

pub returns : goal.returns
unfolding ends_row
returns c =
    asked c.end_at.result c.args.turn.now c.end_at.new.turn (λ k n. peer_of_row k c.args.row) c.peer_of-peer.result (λ peer. ends_at peer c.args.row)
    c.peer_of-peer.ensures c.end_at.ensures
