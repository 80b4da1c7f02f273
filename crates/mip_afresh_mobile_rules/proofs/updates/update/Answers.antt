use Rattle.mip_rules_mobile.specs.RowQuestions.{peer_of_row}
use Rattle.mip_rules_mobile.specs.TrialRules.{makes_at, updates}
use Rattle.mip_afresh_mobile_rules.proofs.Asking.{asked}
use Rattle.mip_afresh_mobile_rules.proofs.updates.update.Goals as goal

pub returns : goal.returns
unfolding updates
returns c =
    asked c.make_at.result c.args.turn.now c.make_at.new.turn (λ k n. peer_of_row k c.args.row) c.peer_of-peer.result (λ peer. makes_at peer c.args.row c.args.wait)
    c.peer_of-peer.ensures c.make_at.ensures
