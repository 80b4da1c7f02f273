use Rattle.std.proofs.Common.{sym, ◌∙◌}
use Rattle.mip_rules_mobile.specs.Trials.{Acknowledge}
use Rattle.mip_mobile_state.proofs.Rows.{changed-back, list-changed, list-same}
use Rattle.mip_mobile_state.proofs.trial.acknowledge.Goals as goal

pub lay-requires : goal.lay-requires
lay-requires c = changed-back c.args.list.now c.lift.new.self c.args.row c.in-Some.any c.acknowledged.result (record { 0 = 0 }) (Acknowledge c.args.sequence c.args.granted) (sym c.lift.ensures.trial ∙ c.in-Some.is) c.lift.ensures.list c.requires (c.acknowledged.ensures (record { 0 = 0 }))

pub returns-in-Some : goal.returns-in-Some
returns-in-Some c = λ now. list-changed c.args.list.now c.lift.new.self c.lay.new.list c.args.row c.in-Some.any c.acknowledged.result now (Acknowledge c.args.sequence c.args.granted) (sym c.lift.ensures.trial ∙ c.in-Some.is) c.lift.ensures.list (c.acknowledged.ensures now) c.lay.ensures

pub returns-in-None : goal.returns-in-None
returns-in-None c = λ now. list-same c.args.list.now c.lift.new.self c.args.row now (Acknowledge c.args.sequence c.args.granted) (sym c.lift.ensures.trial ∙ c.in-None.is) c.lift.ensures.list
