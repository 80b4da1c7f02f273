use Rattle.mip_afresh_run.proofs.FittingLaws.{is_run}
use Rattle.mip_afresh_run.proofs.happening.happen.Goals as goal

pub send-requires : goal.send-requires
send-requires c = is_run c.args.telling.now.setup c.args.telling.now.run c.requires.reached

pub deliver-requires : goal.deliver-requires
deliver-requires c = is_run c.args.telling.now.setup c.args.telling.now.run c.requires.reached

pub deliver-requires-in-Repeat : goal.deliver-requires-in-Repeat
deliver-requires-in-Repeat c = is_run c.args.telling.now.setup c.args.telling.now.run c.requires.reached

pub refresh-requires : goal.refresh-requires
refresh-requires c = is_run c.args.telling.now.setup c.args.telling.now.run c.requires.reached

pub show-requires : goal.show-requires
show-requires c = is_run c.args.telling.now.setup c.args.telling.now.run c.requires.reached
