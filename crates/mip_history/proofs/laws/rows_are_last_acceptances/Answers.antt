use Rattle.mip_history.proofs.ShownRows.{kept_to-floor}
use Rattle.mip_history.proofs.ShownRuns.{run_rows, run_table, part_rows, part_table}
use Rattle.mip_history.proofs.laws.rows_are_last_acceptances.Goals as goal

pub returns : goal.returns
returns c = record { rows = run_rows; table = run_table; until = kept_to-floor; part_rows = part_rows; part_table = part_table }
