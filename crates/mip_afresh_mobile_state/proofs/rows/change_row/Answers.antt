use Rattle.std.proofs.Common.{◌∙◌, ap, sym, map, ℕ}
use Rattle.std.specs.Prelude.{slice_set}
use Rattle.mip_afresh_mobile_state.specs.declared.row.Row.{Row}
use Rattle.mip_afresh_mobile_state.specs.Trials.{row_seen, change_seen}
use Rattle.mip_afresh_mobile_state.proofs.RowLaws.{row-changed, row-none}
use Rattle.mip_afresh_mobile_state.proofs.rows.change_row.Goals as goal

pub returns-in-Some-clause-exact : goal.returns-in-Some-clause-exact
returns-in-Some-clause-exact c =
    let new : Row = record { peer = c.in-Some.old.peer; trial = c.changed.result } in
    ap (λ (n : ℕ). map row_seen (slice_set c.args.rows.now n new)) c.from.ensures
    ∙ row-changed c.args.rows.now c.args.row c.in-Some.old c.changed.result c.args.now (change_seen c.args.change) (sym c.row_at.ensures.exact ∙ c.in-Some.is) c.changed.ensures

pub returns-in_default-clause-exact : goal.returns-in_default-clause-exact
returns-in_default-clause-exact c = row-none c.args.rows.now c.args.row c.args.now (change_seen c.args.change) (sym c.row_at.ensures.exact ∙ c.in_default.is)
