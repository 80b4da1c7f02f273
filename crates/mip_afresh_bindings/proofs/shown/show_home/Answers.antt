use Rattle.std.proofs.Common.{◌+◌, ◌++◌, List, map, sym, ap, ◌∙◌}
use Rattle.std.proofs.lemmas.List.{append_assoc}
use Rattle.mip_binding.specs.Rows.{BindingRow}
use Rattle.mip_afresh_bindings.specs.Homes.{home_seen}
use Rattle.mip_afresh_bindings.specs.Showing.{row_seen, rows_under}
use Rattle.mip_afresh_bindings.proofs.ShownLaws.{rows_from, rows_all, rows_next}
use Rattle.mip_afresh_bindings.proofs.shown.show_home.Goals as goal

pub loop-number-init : goal.loop-number-init
loop-number-init c = ap (λ (rows : List BindingRow). map row_seen c.args.rows.now.items ++ rows) (rows_all (home_seen c.args.kept.now))

pub loop-number-preserved : goal.loop-number-preserved
loop-number-preserved c =
    let kept = home_seen c.args.kept.now in
    let number = c.loop-number.number in
    let before = map row_seen c.loop-number.rows.items in
    ap (λ (rows : List BindingRow). rows ++ rows_from kept (number + 1)) c.in_ok-show_under.ensures
    ∙ append_assoc before (rows_under kept number) (rows_from kept (number + 1))
    ∙ ap (λ (rows : List BindingRow). before ++ rows) (sym (rows_next kept number c.loop-number-test.true))
    ∙ c.loop-number.invariant
