use Rattle.std.proofs.Common.{List, ◌≤◌, length, sym, subst, ◌∙◌}
use Rattle.std.specs.Prelude.{option_copied}
use Rattle.mip_bcache.specs.declared.row.Row.{Row}
use Rattle.mip_bcache.specs.Seen.{stands_under}
use Rattle.mip_bcache.proofs.Homes.{last_is, last_not}
use Rattle.mip_bcache.proofs.home.Home.standing_under.Goals as goal

pub returns-then-stands_under : goal.returns-then-stands_under
returns-then-stands_under c =
    let h = c.args.self.now in
    last_is (stands_under c.args.home.0 c.args.number c.args.now.0) h.others.items h.last (sym c.stands_under.ensures ∙ c.if-stands_under.true)

pub returns : goal.returns
returns c =
    let h = c.args.self.now in
    let past = subst (λ (rs : List Row). length rs ≤ c.loop-row.row-index) c.deref-row-items.ensures.value c.loop-row-test.false in
    last_not (stands_under c.args.home.0 c.args.number c.args.now.0) h.others.items h.last c.loop-row.row-index (option_copied c.loop-row.found) (sym c.stands_under.ensures ∙ c.if-stands_under.false) past c.loop-row.invariant
