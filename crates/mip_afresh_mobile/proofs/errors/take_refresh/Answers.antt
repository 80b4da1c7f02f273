use Rattle.mip_rules_mobile.specs.RowQuestions.{bound_row_of}
use Rattle.mip_rules_mobile.specs.PeerRules.{renews, takes_refresh}
use Rattle.mip_afresh_mobile.proofs.Turned.{found, asked}
use Rattle.mip_afresh_mobile.proofs.errors.take_refresh.Goals as goal

pub returns : goal.returns
unfolding takes_refresh
returns c = λ t shows.
    let turn = c.args.turn.now in
    let peer = c.args.peer in
    asked c.renew.result c.renew.new.turn (λ row. renews c.args.number row t) c.bound_row_of-row.result (bound_row_of t.known t.now peer)
    (found turn t (λ k now. bound_row_of k now peer) c.bound_row_of-row.result c.bound_row_of-row.ensures shows)
    (c.renew.ensures t shows)
