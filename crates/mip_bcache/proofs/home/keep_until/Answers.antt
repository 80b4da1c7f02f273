use Rattle.mip_bcache.proofs.Homes.{kept_on, blank}
use Rattle.mip_bcache.proofs.home.keep_until.Goals as goal

pub loop-row-preserved : goal.loop-row-preserved
loop-row-preserved c = kept_on c.args.until.0 c.args.rows.now c.loop-row.rows c.loop-row.row-index blank c.loop-row-test.true c.loop-row.invariant
