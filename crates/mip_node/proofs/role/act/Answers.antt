use Rattle.mip_roles.specs.Calls.{asked}
use Rattle.mip_roles.specs.Places.{around_seen}
use Rattle.mip_node.proofs.Placing.{answers_alone, after_alone}
use Rattle.mip_node.proofs.role.act.Goals as goal

pub returns-clause-answers : goal.returns-clause-answers
returns-clause-answers c =
    answers_alone c.act.result (around_seen c.place-place.result) c.args.role.now c.args.now.moment.0 (asked c.args.call) c.place-place.ensures c.act.ensures.answers

pub returns-clause-after : goal.returns-clause-after
returns-clause-after c =
    after_alone c.act.result (around_seen c.place-place.result) c.args.role.now c.act.new.self c.args.now.moment.0 (asked c.args.call) c.place-place.ensures c.act.ensures.after
