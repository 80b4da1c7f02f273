use Rattle.std.proofs.Common.{refl, arith, ◌<◌, length}
use Rattle.std.proofs.lemmas.Result.{err_from_is_err_and}
use Rattle.mip_outside.proofs.Known.{append_none}
use Rattle.mip_trace.proofs.WrittenLaws.{text_none}
use Rattle.mip_printing.proofs.Parts.{entry_more, entry_part}
use Rattle.mip_printing.proofs.entries.write_entries.Goals as goal

pub loop-entry-init : goal.loop-entry-init
loop-entry-init g c = record {
  written = rw (text_none c.args.names.now) (append_none _ _ refl);
  faults = omega arith;
}

pub loop-entry-preserved : goal.loop-entry-preserved
loop-entry-preserved g c =
    let within : c.loop-entry.entry-index < length c.args.entries.now = omega arith in
    record {
      written = entry_more _ _ _ c.args.names.now c.args.entries.now c.loop-entry.entry-index c.entry-item.result within c.entry-item.is
          c.loop-entry.invariant.written c.in_ok-write_entry.ensures.ok;
      faults = omega (arith, c.loop-entry.invariant.faults, c.write_entry.ensures.no_fewer);
    }

pub returns-in_err-write_entry-clause-err : goal.returns-in_err-write_entry-clause-err
returns-in_err-write_entry-clause-err g c =
    let within : c.loop-entry.entry-index < length c.args.entries.now = omega arith in
    let p = err_from_is_err_and c.from_residual.result c.from_residual.ensures.1 in
    let part = c.in_err-write_entry.ensures.err in
    rw p.1 (entry_part _ _ _ c.args.names.now c.args.entries.now c.loop-entry.entry-index c.entry-item.result part.0 within c.entry-item.is
    c.loop-entry.invariant.written part.1 part.2)
