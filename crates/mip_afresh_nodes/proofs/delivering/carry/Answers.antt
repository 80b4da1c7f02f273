use Rattle.std.proofs.Common.{sym, subst}
use Rattle.mip_afresh.specs.Tellings.{TellingSeen}
use Rattle.mip_history.specs.RunsLaws.{IsRun}
use Rattle.mip_history.specs.Delivery.{carried}
use Rattle.mip_afresh_nodes.proofs.ReachedLaws.{reached_run, carried_reached}
use Rattle.mip_afresh_nodes.proofs.delivering.carry.Goals as goal

pub carry_one-requires : goal.carry_one-requires
carry_one-requires c =
    let t = c.args.telling.now in
    subst (λ (x : TellingSeen). IsRun x.setup x.run) (sym c.loop-turn.invariant)
    (reached_run t.setup (carried t.setup t.run c.loop-turn._turn) (carried_reached t.setup t.run c.loop-turn._turn c.requires))
