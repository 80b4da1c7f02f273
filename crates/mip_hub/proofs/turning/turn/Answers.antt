use Rattle.std.proofs.Common.{◌∷◌}
use Rattle.mip_hub.specs.Calls.{Receives}
use Rattle.mip_hub.specs.Turns.{lines_calls, lines_done, copies_of, seen_calls, begun, turn_calls, turn_done}
use Rattle.mip_hub.proofs.CallLaws.{goes_on, goes_off}
use Rattle.mip_hub.proofs.TurnLaws.{next_of, next_seen}
use Rattle.mip_hub.proofs.turning.turn.Goals as goal

pub returns-in-Ok-clause-seen : goal.returns-in-Ok-clause-seen
unfolding turn_calls turn_done
returns-in-Ok-clause-seen g c =
    let heard = rw (c.copies_of.ensures, c.in-Ok.ensures.hub, c.begin.ensures, c.in-Ok.ensures.kept.0) at c.hear.ensures.seen in
    (heard.0, heard.1, goes_on (lines_calls c.args.lines.now c.args.turn) _ c.hear.result _ _ _ c.in-Ok.ensures.goes heard.2, heard.3)

pub returns-in-Err-clause-seen : goal.returns-in-Err-clause-seen
unfolding turn_calls turn_done
returns-in-Err-clause-seen g c =
    let seen = next_of (g.L.Link.coming c.args.link.now) in (
      seen,
      next_seen _,
      goes_off (lines_calls c.args.lines.now c.args.turn) (Receives ∷ seen_calls (copies_of c.args.lines.now c.args.turn) seen (lines_done c.args.lines.now c.args.turn (begun c.args.hub.now)))
          c.in-Err.fault _ _ c.in-Err.ensures.goes,
      tt,
    )
