use Rattle.mip_rules_mobile.specs.RowQuestions.{peer_of_row}
use Rattle.mip_rules_mobile.specs.TrialRules.{starts_at, starts}
use Rattle.mip_afresh_mobile_rules.proofs.Asking.{asked}
use Rattle.mip_afresh_mobile_rules.proofs.trials.start.Goals as goal

pub returns : goal.returns
unfolding starts
returns c =
    asked c.start_at.result c.args.turn.now c.start_at.new.turn (λ k n. peer_of_row k c.args.row) c.peer_of-peer.result (λ peer. starts_at peer c.args.row)
    c.peer_of-peer.ensures c.start_at.ensures
