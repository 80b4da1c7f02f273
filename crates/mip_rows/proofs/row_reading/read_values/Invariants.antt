use Rattle.std.proofs.Common.{◌≡◌, length}
use Rattle.std.specs.Prelude.{drop}
use Rattle.mip_lines.specs.Cutting.{texts}
use Rattle.mip_rows.specs.Rows.{values_of}
use Rattle.mip_rows.proofs.ReadingLaws.{behind}
use Rattle.mip_rows.proofs.row_reading.read_values.Given as goal

abbrev pub invariant-loop-place : goal.invariant-loop-place
invariant-loop-place l = record {
  so_far : values_of l.ds l.form.kinds.now (texts l.row) ≡ behind l.values (values_of l.ds (drop l.place l.form.kinds.now) (drop l.place (texts l.row)));
  count : length l.values ≡ l.place;
}
