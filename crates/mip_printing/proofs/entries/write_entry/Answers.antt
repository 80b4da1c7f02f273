use Rattle.std.proofs.lemmas.Result.{err_from_is_err_and}
use Rattle.mip_trace.specs.Lines.{entry_row}
use Rattle.mip_printing.proofs.Parts.{none_of}
use Rattle.mip_printing.proofs.entries.write_entry.Goals as goal

pub returns-in_err-entry_line-clause-err : goal.returns-in_err-entry_line-clause-err
returns-in_err-entry_line-clause-err g c =
    let p = err_from_is_err_and c.from_residual.result c.from_residual.ensures.1 in
    rw p.1 (none_of (g.K.Sink.held c.args.sink.now) (entry_row c.args.names.now c.args.entry.now))
