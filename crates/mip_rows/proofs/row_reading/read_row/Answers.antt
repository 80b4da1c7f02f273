use Rattle.std.proofs.Common.{◌≡◌, ℕ, List, ap, ◌∙◌, subst}
use Rattle.std.specs.Prelude.{Result, Ok, Err, IfOk}
use Rattle.mip_lines.specs.Cutting.{texts}
use Rattle.mip_symbols.specs.Places.{AreFew, NamesFound}
use Rattle.mip_symbols.specs.declared.declaration.Declaration.{Declaration}
use Rattle.mip_symbols.specs.declared.reason.Reason.{Reason}
use Rattle.mip_rows.specs.Ranges.{IsRowOf}
use Rattle.mip_rows.specs.Rows.{GivesRow, row_of}
use Rattle.mip_rows.specs.declared.fault.RowFault.{RowFault}
use Rattle.mip_rows.specs.declared.field_kind.Kind.{Kind}
use Rattle.mip_rows.specs.declared.row.Row.{Row}
use Rattle.mip_rows.specs.declared.tail.Tail.{Tail}
use Rattle.mip_rows.proofs.RowLaws.{row-read, row-again}
use Rattle.mip_rows.proofs.row_reading.read_row.Goals as goal

is_found : (ds : List Declaration) → AreFew ds → (ks : List Kind) (t : Tail) (fs : List (List ℕ)) (r : Result Row RowFault) → GivesRow r (row_of ds ks t fs) → IfOk r (λ x. IsRowOf ds ks t x fs)
is_found ds few ks t fs (Ok x) e = row-read ds few ks t fs x e
is_found ds few ks t fs (Err fault) e = tt

is_read : (ds : List Declaration) → AreFew ds → NamesFound ds → (ks : List Kind) (t : Tail) (fs : List (List ℕ)) (x : Row) → IsRowOf ds ks t x fs → row_of ds ks t fs ≡ Ok x
is_read ds few found ks t fs x is = ap (row_of ds ks t) is.0 ∙ row-again ds few found ks t x.values x.bytes is.1.0 is.1.1

pub returns-clause-found : goal.returns-clause-found
returns-clause-found c = is_found c.args.ds.now c.few.ensures c.args.form.kinds.now c.args.form.tail (texts c.args.row.now) c.row_of.result c.row_of.ensures

pub returns-clause-only : goal.returns-clause-only
returns-clause-only c = λ x found is.
    subst (λ (r : Result Row Reason). GivesRow c.row_of.result r) (is_read c.args.ds.now c.few.ensures found c.args.form.kinds.now c.args.form.tail (texts c.args.row.now) x is) c.row_of.ensures
