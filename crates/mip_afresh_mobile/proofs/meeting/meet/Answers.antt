use Rattle.mip_bulist.specs.Rows.{given_row}
use Rattle.mip_rules_mobile.specs.PeerRules.{begins_at, meets}
use Rattle.mip_rules_mobile.specs.Steps.{Meets}
use Rattle.mip_rules_mobile.specs.Transitions.{noted}
use Rattle.mip_afresh_mobile_state.specs.Trials.{given_seen}
use Rattle.mip_afresh_mobile.proofs.Turned.{shows-seen, asked}
use Rattle.mip_afresh_mobile.proofs.meeting.meet.Goals as goal

pub returns : goal.returns
unfolding meets
returns c = λ t shows.
    let peer = c.args.peer in
    asked c.begin_at.result c.begin_at.new.turn (λ row. begins_at row (noted (Meets peer) t)) (given_seen c.given_row-row.result) (given_row peer t.known.list.rows)
    (c.given_row-row.ensures t.known (shows-seen c.args.turn.now t shows))
    (c.begin_at.ensures (noted (Meets peer) t) (c.in_ok-meet.ensures t shows))
