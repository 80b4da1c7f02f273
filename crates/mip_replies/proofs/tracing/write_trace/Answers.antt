use Rattle.std.proofs.Common.{◌≡◌, ℕ, ◌<◌, List, ◌++◌, ap, ◌∙◌, length, take, refl, arith}
use Rattle.std.specs.Io.KnownBytes.{append_known}
use Rattle.std.specs.Prelude.{Some}
use Rattle.std.proofs.lemmas.Result.{err_from_is_err_and}
use Rattle.mip_outside.proofs.Known.{append_none}
use Rattle.mip_symbols.specs.declared.declaration.Declaration.{Declaration}
use Rattle.mip_schedule.specs.Schedules.{content}
use Rattle.mip_replay.specs.Permitted.{permitted}
use Rattle.mip_trace.proofs.WrittenLaws.{text_none}
use Rattle.mip_replay.proofs.RunLaws.{told_front}
use Rattle.mip_replies.specs.Answers.{trace_of}
use Rattle.mip_replay.proofs.PieceLaws.{told_more, less_left}
use Rattle.mip_replies.proofs.TraceTold.{piece_more, piece_part, told_part, widths_more}
use Rattle.mip_replies.proofs.tracing.write_trace.Given.{Over}
use Rattle.mip_replies.proofs.tracing.write_trace.Goals as goal
use Rattle.mip_replies.proofs.tracing.write_trace.Goals.{After-as_slice, After-from_residual-in_err-write_entries}

-- what is told once the piece was given away
more : (g : Over) (c : After-as_slice g) → c.next.new.self.told ≡ c.loop-line.run.told ++ c.as_slice.result.now
more g c =
    told_more c.next.new.self.told c.loop-line.run.told c.as_slice.result.now c.in-Some.piece c.in_ok-piece.field-0
    c.in_ok-piece.ensures.piece c.in-Some.is c.as_slice.ensures

-- the names are those of what the schedule declares
own : (g : Over) (c : After-as_slice g) → c.in_ok-names.names ≡ Some c.args.schedule.declarations
own g c = c.in_ok-names.ensures ∙ ap (λ (ds : List Declaration). Some ds) c.in_ok-run.ensures.declared

-- where a piece was not written whole, a part of the trace was
part_of_trace : (g : Over) (c : After-from_residual-in_err-write_entries g) → c.in_ok-names.names ≡ Some c.args.schedule.declarations
    → c.next.new.self.told ≡ c.loop-line.run.told ++ c.as_slice.result.now
    → (count : ℕ) × (count < length (trace_of (content c.args.schedule)))
    × (g.K.Sink.held c.write_entries.new.sink ≡ append_known (g.K.Sink.held c.args.sink.now) (take count (trace_of (content c.args.schedule))))
part_of_trace g c named is =
    let s = content c.args.schedule in
    let front = told_front c.next.new.self s (c.in_ok-piece.ensures.stands s c.loop-line.invariant.stands) in
    let part = c.in_err-write_entries.ensures.err in
    piece_part _ _ _ (Some c.args.schedule.declarations) c.in_ok-names.names (permitted s) c.next.new.self.told c.loop-line.run.told c.as_slice.result.now front.0 part.0
    named front.1 is c.loop-line.invariant.written part.1 part.2

pub next-requires : goal.next-requires
next-requires g c = (content c.args.schedule, c.loop-line.invariant.stands)

pub loop-line-init : goal.loop-line-init
loop-line-init g c = record {
  stands = c.in_ok-run.ensures.stands;
  written = rw (c.in_ok-run.ensures.none, text_none (Some c.args.schedule.declarations)) (append_none _ _ refl);
  fit = rw c.in_ok-run.ensures.none tt;
  faults = omega arith;
}

pub loop-line-preserved : goal.loop-line-preserved
loop-line-preserved g c =
    let told = c.loop-line.run.told in
    let items = c.as_slice.result.now in
    let next = c.next.new.self.told in
    record {
      stands = c.in_ok-piece.ensures.stands (content c.args.schedule) c.loop-line.invariant.stands;
      written = piece_more _ _ _ (Some c.args.schedule.declarations) c.in_ok-names.names next told items (own g (goal.at.loop-line-preserved g c).After-as_slice) (more g (goal.at.loop-line-preserved g c).After-as_slice)
          c.loop-line.invariant.written c.in_ok-write_entries.ensures.ok;
      fit = rw (more g (goal.at.loop-line-preserved g c).After-as_slice) (widths_more told items c.loop-line.invariant.fit (rw c.as_slice.ensures c.widths.ensures));
      faults = omega (arith, c.loop-line.invariant.faults, c.write_entries.ensures.no_fewer);
    }

pub loop-line-smaller : goal.loop-line-smaller
loop-line-smaller g c =
    less_left c.next.new.self (content c.args.schedule) c.loop-line.run.told c.as_slice.result.now (c.in_ok-piece.ensures.stands (content c.args.schedule) c.loop-line.invariant.stands)
    (more g (goal.at.loop-line-smaller g c).After-as_slice)
    (rw c.as_slice.ensures (rw c.in-Some.is at c.in_ok-piece.ensures.more))

pub returns-in_err-names-clause-front : goal.returns-in_err-names-clause-front
returns-in_err-names-clause-front g c =
    let p = err_from_is_err_and c.from_residual-in_err-names.result c.from_residual-in_err-names.ensures.1 in
    rw p.1 (0, append_none _ _ refl)

pub returns-in_err-line-clause-front : goal.returns-in_err-line-clause-front
returns-in_err-line-clause-front g c =
    let p = err_from_is_err_and c.from_residual-in_err-line.result c.from_residual-in_err-line.ensures.1 in
    rw p.1 (0, append_none _ _ refl)

pub returns-in_err-piece-clause-front : goal.returns-in_err-piece-clause-front
returns-in_err-piece-clause-front g c =
    let p = err_from_is_err_and c.from_residual-in_err-piece.result c.from_residual-in_err-piece.ensures.1 in
    let s = content c.args.schedule in
    let front = told_front c.loop-line.run s c.loop-line.invariant.stands in
    rw p.1 (told_part _ _ (Some c.args.schedule.declarations) (permitted s) c.loop-line.run.told front.0 front.1 c.loop-line.invariant.written)

pub returns-in_err-write_entries-clause-front : goal.returns-in_err-write_entries-clause-front
returns-in_err-write_entries-clause-front g c =
    let p = err_from_is_err_and c.from_residual-in_err-write_entries.result c.from_residual-in_err-write_entries.ensures.1 in
    let part = part_of_trace g (goal.at.returns-in_err-write_entries-clause-front g c).After-from_residual-in_err-write_entries
    (own g (goal.at.returns-in_err-write_entries-clause-front g c).After-as_slice)
    (more g (goal.at.returns-in_err-write_entries-clause-front g c).After-as_slice) in
    rw p.1 (part.0, part.2)

pub returns-in_err-write_entries-clause-part : goal.returns-in_err-write_entries-clause-part
returns-in_err-write_entries-clause-part g c = λ _.
    part_of_trace g (goal.at.returns-in_err-write_entries-clause-part g c).After-from_residual-in_err-write_entries
    (own g (goal.at.returns-in_err-write_entries-clause-part g c).After-as_slice)
    (more g (goal.at.returns-in_err-write_entries-clause-part g c).After-as_slice)
