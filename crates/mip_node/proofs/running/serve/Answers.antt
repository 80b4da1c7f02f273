use Rattle.std.proofs.Common.{rules}
use Rattle.mip_node.proofs.Ends.{front_of_ran, front_of_link, front_of_part, front_of_stopped}
use Rattle.mip_node.proofs.running.serve.Goals as goal

pub returns-in-Ok-clause-front : goal.returns-in-Ok-clause-front
returns-in-Ok-clause-front g c = front_of_ran _ c.args.turns _ c.in-Ok.ensures.ok

pub returns-in-Err-Link-clause-front : goal.returns-in-Err-Link-clause-front
returns-in-Err-Link-clause-front g c = front_of_link _ c.args.turns _ (c.run.ensures.link_fault (search rules))

pub returns-in-Err-Sink-clause-front : goal.returns-in-Err-Sink-clause-front
returns-in-Err-Sink-clause-front g c = front_of_part _ c.args.turns _ (c.run.ensures.write_fault (search rules))

pub returns-in-Err-Memory-clause-front : goal.returns-in-Err-Memory-clause-front
returns-in-Err-Memory-clause-front g c = front_of_stopped _ c.args.turns _ (c.run.ensures.memory (search rules))
