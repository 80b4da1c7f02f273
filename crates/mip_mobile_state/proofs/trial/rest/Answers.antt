use Rattle.std.proofs.Common.{sym, ◌∙◌}
use Rattle.mip_rules_mobile.specs.Trials.{Rest}
use Rattle.mip_mobile_state.proofs.Rows.{changed-back, list-changed, list-same}
use Rattle.mip_mobile_state.proofs.trial.rest.Goals as goal

pub lay-requires : goal.lay-requires
lay-requires c = changed-back c.args.list.now c.lift.new.self c.args.row c.in-Some.any c.rested.result (record { 0 = 0 }) Rest (sym c.lift.ensures.trial ∙ c.in-Some.is) c.lift.ensures.list c.requires (c.rested.ensures (record { 0 = 0 }))

pub returns-in-Some : goal.returns-in-Some
returns-in-Some c = λ now. list-changed c.args.list.now c.lift.new.self c.lay.new.list c.args.row c.in-Some.any c.rested.result now Rest (sym c.lift.ensures.trial ∙ c.in-Some.is) c.lift.ensures.list (c.rested.ensures now) c.lay.ensures

pub returns-in-None : goal.returns-in-None
returns-in-None c = λ now. list-same c.args.list.now c.lift.new.self c.args.row now Rest (sym c.lift.ensures.trial ∙ c.in-None.is) c.lift.ensures.list
