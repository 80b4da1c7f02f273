use Rattle.std.proofs.Common.{◌≡◌, ◌∙◌, ◌++◌, refl, sym, arith}
use Rattle.std.proofs.lemmas.Result.{err_from_is_err_and}
use Rattle.mip_outside.proofs.Known.{append_none}
use Rattle.mip_schedule.specs.Schedules.{content}
use Rattle.mip_replay.specs.Permitted.{permitted}
use Rattle.mip_replay.proofs.RunLaws.{told_front}
use Rattle.mip_replies.proofs.ClaimsTold.{piece_text, adverts_on, adverts_part, adverts_front, part_front, rows_on}
use Rattle.mip_replay.proofs.PieceLaws.{told_more, told_last}
use Rattle.mip_replies.proofs.claiming.write_adverts.Goals as goal

pub next-requires : goal.next-requires
next-requires g c = (content c.args.schedule, c.loop-declarations.invariant.stands)

pub loop-declarations-init : goal.loop-declarations-init
loop-declarations-init g c = record {
  stands = c.in_ok-run.ensures.stands;
  written = rw c.in_ok-run.ensures.none (append_none _ _ refl);
  claims = rw c.in_ok-run.ensures.none c.requires;
  faults = omega arith;
}

pub loop-declarations-preserved : goal.loop-declarations-preserved
loop-declarations-preserved g c =
    let told = c.loop-declarations.run.told in
    let items = c.as_slice-in-Some.result.now in
    let next = c.next.new.self.told in
    let ds = c.args.schedule.declarations in
    let more : next ≡ told ++ items =
    told_more next told items c.in-Some.piece c.in_ok-piece.field-0 c.in_ok-piece.ensures.piece c.in-Some.is c.as_slice-in-Some.ensures in
    record {
      stands = c.in_ok-piece.ensures.stands (content c.args.schedule) c.loop-declarations.invariant.stands;
      written = adverts_on _ _ _ ds next told items c.as_slice-in-Some-2.result.now more c.loop-declarations.invariant.written
          (piece_text ds c.as_slice.result.now items _ _ _ (c.as_slice.ensures ∙ c.in_ok-run.ensures.declared) c.clear.ensures c.in_ok-tell_entries.ensures.adverts c.as_slice-in-Some-2.ensures)
          c.in_ok-write_text.ensures.ok;
      claims = rows_on c.loop-declarations.claims c.tell_entries.new.claims next told items more c.loop-declarations.invariant.claims c.in_ok-tell_entries.ensures.stands;
      faults = omega (arith, c.loop-declarations.invariant.faults, c.write_text.ensures.no_fewer);
    }

pub returns-in_err-piece-clause-front : goal.returns-in_err-piece-clause-front
returns-in_err-piece-clause-front g c =
    let p = err_from_is_err_and c.from_residual-in_err-piece.result c.from_residual-in_err-piece.ensures.1 in
    let s = content c.args.schedule in
    let front = told_front c.loop-declarations.run s c.loop-declarations.invariant.stands in
    rw p.1 (adverts_front _ _ c.args.schedule.declarations (permitted s) c.loop-declarations.run.told front.0 front.1 c.loop-declarations.invariant.written)

pub returns-in_err-tell_entries-clause-front : goal.returns-in_err-tell_entries-clause-front
returns-in_err-tell_entries-clause-front g c =
    let p = err_from_is_err_and c.from_residual-in_err-tell_entries.result c.from_residual-in_err-tell_entries.ensures.1 in
    let s = content c.args.schedule in
    let front = told_front c.loop-declarations.run s c.loop-declarations.invariant.stands in
    rw p.1 (adverts_front _ _ c.args.schedule.declarations (permitted s) c.loop-declarations.run.told front.0 front.1 c.loop-declarations.invariant.written)

pub returns-in_err-write_text-clause-front : goal.returns-in_err-write_text-clause-front
returns-in_err-write_text-clause-front g c =
    let p = err_from_is_err_and c.from_residual-in_err-write_text.result c.from_residual-in_err-write_text.ensures.1 in
    let s = content c.args.schedule in
    let told = c.loop-declarations.run.told in
    let items = c.as_slice-in-Some.result.now in
    let next = c.next.new.self.told in
    let ds = c.args.schedule.declarations in
    let front = told_front c.next.new.self s (c.in_ok-piece.ensures.stands s c.loop-declarations.invariant.stands) in
    rw p.1
    (part_front _ _ _
    (adverts_part _ _ _ ds (permitted s) next told items front.0 c.as_slice-in-Some-2.result.now front.1
    (told_more next told items c.in-Some.piece c.in_ok-piece.field-0 c.in_ok-piece.ensures.piece c.in-Some.is c.as_slice-in-Some.ensures) c.loop-declarations.invariant.written
    (piece_text ds c.as_slice.result.now items _ _ _ (c.as_slice.ensures ∙ c.in_ok-run.ensures.declared) c.clear.ensures c.in_ok-tell_entries.ensures.adverts c.as_slice-in-Some-2.ensures)
    c.in_err-write_text.ensures.err))

pub returns-in_err-write_text-clause-part : goal.returns-in_err-write_text-clause-part
returns-in_err-write_text-clause-part g c = λ _.
    let s = content c.args.schedule in
    let told = c.loop-declarations.run.told in
    let items = c.as_slice-in-Some.result.now in
    let next = c.next.new.self.told in
    let ds = c.args.schedule.declarations in
    let front = told_front c.next.new.self s (c.in_ok-piece.ensures.stands s c.loop-declarations.invariant.stands) in
    adverts_part _ _ _ ds (permitted s) next told items front.0 c.as_slice-in-Some-2.result.now front.1
    (told_more next told items c.in-Some.piece c.in_ok-piece.field-0 c.in_ok-piece.ensures.piece c.in-Some.is c.as_slice-in-Some.ensures) c.loop-declarations.invariant.written
    (piece_text ds c.as_slice.result.now items _ _ _ (c.as_slice.ensures ∙ c.in_ok-run.ensures.declared) c.clear.ensures c.in_ok-tell_entries.ensures.adverts c.as_slice-in-Some-2.ensures)
    c.in_err-write_text.ensures.err

pub returns-clause-ok : goal.returns-clause-ok
returns-clause-ok g c =
    let s = content c.args.schedule in
    let told : c.loop-declarations.run.told ≡ permitted s =
    told_last c.next.new.self.told c.loop-declarations.run.told (permitted s) c.in_ok-piece.field-0 c.in_ok-piece.ensures.piece c.in_default.is (c.in_ok-piece.ensures.end s c.loop-declarations.invariant.stands) in
    rw (sym told) c.loop-declarations.invariant.written
