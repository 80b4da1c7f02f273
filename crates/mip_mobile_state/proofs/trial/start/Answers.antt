use Rattle.std.proofs.Common.{sym, ◌∙◌}
use Rattle.mip_rules_mobile.specs.Trials.{Start}
use Rattle.mip_mobile_state.proofs.Rows.{changed-back, list-changed, list-same}
use Rattle.mip_mobile_state.proofs.trial.start.Goals as goal

pub lay-requires : goal.lay-requires
lay-requires c = changed-back c.args.list.now c.lift.new.self c.args.row c.in-Some.any c.started.result c.args.now (Start c.args.aim c.args.home c.args.careof) (sym c.lift.ensures.trial ∙ c.in-Some.is) c.lift.ensures.list c.requires c.started.ensures

pub returns-in-Some : goal.returns-in-Some
returns-in-Some c = list-changed c.args.list.now c.lift.new.self c.lay.new.list c.args.row c.in-Some.any c.started.result c.args.now (Start c.args.aim c.args.home c.args.careof) (sym c.lift.ensures.trial ∙ c.in-Some.is) c.lift.ensures.list c.started.ensures c.lay.ensures

pub returns-in-None : goal.returns-in-None
returns-in-None c = list-same c.args.list.now c.lift.new.self c.args.row c.args.now (Start c.args.aim c.args.home c.args.careof) (sym c.lift.ensures.trial ∙ c.in-None.is) c.lift.ensures.list
