use Rattle.std.proofs.Common.{◌∙◌, sym}
use Rattle.mip_afresh_mobile_state.proofs.RowLaws.{row_place-seen}
use Rattle.mip_afresh_mobile_state.proofs.rows.row_place.Goals as goal

pub returns-clause-exact : goal.returns-clause-exact
returns-clause-exact c = c.first_place.ensures ∙ sym (row_place-seen c.args.peer c.args.rows.now)
