use Rattle.std.proofs.Common.{◌∙◌, arith}
use Rattle.mip_config_writing.proofs.WritingLaws.{route_more, route_there}
use Rattle.mip_config_writing.proofs.lines.put_routes.Goals as goal
use Rattle.mip_config_writing.proofs.lines.put_routes.Goals.{in-Some+in_ok-put_route, in_default}

pub loop-place-preserved : goal.loop-place-preserved
loop-place-preserved c =
    elim c.match-at.branch [
      | in-Some+in_ok-put_route w ↦ w.out-is ∙ route_more c.args.routes.now c.loop-place.place c.at.result w.in-Some.route c.args.out.now c.loop-place.out _ w.in-Some.is c.at.ensures c.loop-place.invariant w.in_ok-put_route.ensures
      | in_default w ↦ absurd (route_there c.args.routes.now c.loop-place.place c.at.result w.in_default.is c.at.ensures (omega (arith, c.loop-place-test.true, c.len-place-end.ensures)))
    ]
