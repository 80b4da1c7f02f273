use Rattle.std.proofs.Common.{◌≡◌, ℕ, zero, suc, List, [], ◌∷◌, refl, ap, ◌∙◌, slice_set, slice_index_or}
use Rattle.std.specs.Prelude.{None}
use Rattle.std.proofs.lemmas.List.Edits.{map_over_more}
use Rattle.mip_bulist.specs.declared.row.Row.{Row}
use Rattle.mip_bulist.specs.Rows.{rested_row}
use Rattle.mip_bulist.proofs.rows.rest_each.Goals as goal

own-default : (rows : List Row) (i : ℕ) (r : Row) → slice_index_or rows i r ≡ slice_index_or rows i (slice_index_or rows i r)
own-default [] i r = refl
own-default (x ∷ rows) zero r = refl
own-default (x ∷ rows) (suc i) r = own-default rows i r

pub loop-row-preserved : goal.loop-row-preserved
loop-row-preserved c =
    let rows : List Row = c.loop-row.row-items in
    let i : ℕ = c.loop-row.row-index in
    let none : Row = record { peer = record { 0 = 0 }; trial = None } in
    ap (slice_set rows i) c.rest.ensures
    ∙ map_over_more rested_row c.args.rows.now rows i (slice_index_or rows i none) c.loop-row-test.true c.loop-row.invariant (own-default rows i none)
