use Rattle.std.proofs.Common.{sym, ◌∙◌}
use Rattle.mip_rules_mobile.specs.Trials.{Make}
use Rattle.mip_mobile_state.proofs.Rows.{changed-back, list-changed, list-same}
use Rattle.mip_mobile_state.proofs.trial.make.Goals as goal

pub lay-requires : goal.lay-requires
lay-requires c = changed-back c.args.list.now c.lift.new.self c.args.row c.in-Some.any c.made.result c.args.now Make (sym c.lift.ensures.trial ∙ c.in-Some.is) c.lift.ensures.list c.requires c.made.ensures

pub returns-in-Some : goal.returns-in-Some
returns-in-Some c = list-changed c.args.list.now c.lift.new.self c.lay.new.list c.args.row c.in-Some.any c.made.result c.args.now Make (sym c.lift.ensures.trial ∙ c.in-Some.is) c.lift.ensures.list c.made.ensures c.lay.ensures

pub returns-in-None : goal.returns-in-None
returns-in-None c = list-same c.args.list.now c.lift.new.self c.args.row c.args.now Make (sym c.lift.ensures.trial ∙ c.in-None.is) c.lift.ensures.list
