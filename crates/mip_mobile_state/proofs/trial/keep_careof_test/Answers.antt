use Rattle.std.proofs.Common.{sym, ◌∙◌}
use Rattle.mip_rules_mobile.specs.Trials.{CareofTest}
use Rattle.mip_mobile_state.proofs.Rows.{changed-back, list-changed, list-same}
use Rattle.mip_mobile_state.proofs.trial.keep_careof_test.Goals as goal

pub lay-requires : goal.lay-requires
lay-requires c = changed-back c.args.list.now c.lift.new.self c.args.row c.in-Some.any c.careof_tested.result c.args.now (CareofTest c.args.test.now.peer c.args.test.now.cookie (record { index = c.args.test.now.index; token = c.args.test.now.token; at = c.args.now })) (sym c.lift.ensures.trial ∙ c.in-Some.is) c.lift.ensures.list c.requires c.careof_tested.ensures

pub returns-in-Some : goal.returns-in-Some
returns-in-Some c = list-changed c.args.list.now c.lift.new.self c.lay.new.list c.args.row c.in-Some.any c.careof_tested.result c.args.now (CareofTest c.args.test.now.peer c.args.test.now.cookie (record { index = c.args.test.now.index; token = c.args.test.now.token; at = c.args.now })) (sym c.lift.ensures.trial ∙ c.in-Some.is) c.lift.ensures.list c.careof_tested.ensures c.lay.ensures

pub returns-in-None : goal.returns-in-None
returns-in-None c = list-same c.args.list.now c.lift.new.self c.args.row c.args.now (CareofTest c.args.test.now.peer c.args.test.now.cookie (record { index = c.args.test.now.index; token = c.args.test.now.token; at = c.args.now })) (sym c.lift.ensures.trial ∙ c.in-None.is) c.lift.ensures.list
