use Rattle.std.proofs.Common.{◌∙◌, ap, map}
use Rattle.mip_afresh_mobile_state.specs.Trials.{row_seen}
use Rattle.mip_afresh_mobile_state.proofs.RowLaws.{rows-given_up}
use Rattle.mip_afresh_mobile_state.proofs.rows.all_rested.Goals as goal

pub returns-clause-exact : goal.returns-clause-exact
returns-clause-exact c = ap (map row_seen) c.in_ok-left.ensures ∙ rows-given_up c.args.rows.now
