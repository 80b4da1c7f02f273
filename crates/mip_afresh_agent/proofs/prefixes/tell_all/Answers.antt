use Rattle.std.proofs.Common.{rules}
use Rattle.mip_afresh_agent.proofs.CallLaws.{tell_more}
use Rattle.mip_afresh_agent.proofs.prefixes.tell_all.Goals as goal

pub loop-row-preserved : goal.loop-row-preserved
loop-row-preserved c = λ k now valid preferred t shows.
    tell_more c.args.own k now c.args.rows.now c.loop-row.row-index _ t c.tell.new.turn c.args.valid c.args.preferred valid preferred (search rules)
    (c.in_ok-tell.ensures _ (c.loop-row.invariant k now valid preferred t shows))
