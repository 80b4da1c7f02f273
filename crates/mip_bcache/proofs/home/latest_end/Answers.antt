use Rattle.std.proofs.Common.{ℕ, ◌+◌, drop, subst, sym}
use Rattle.std.specs.Prelude.{◌≡◌}
use Rattle.mip_bcache.specs.Seen.{latest}
use Rattle.mip_bcache.proofs.Homes.{latest_on}
use Rattle.mip_bcache.proofs.home.latest_end.Goals as goal

pub loop-row-preserved : goal.loop-row-preserved
loop-row-preserved c =
    subst (λ (late : ℕ). latest late (drop (c.loop-row.row-index + 1) c.args.rows.now) ≡ latest c.args.moment.0 c.args.rows.now) (sym c.max-late.ensures)
    (latest_on c.args.rows.now c.loop-row.row-index c.loop-row.late c.args.moment.0 c.loop-row-test.true c.loop-row.invariant)
