use Rattle.std.proofs.Common.{rules, ◌≡◌, List, ℕ, length, arith}
use Rattle.std.specs.Borrow.{Bor}
use Rattle.std.proofs.lemmas.List.{map-append, length-map}
use Rattle.mip_lines.specs.Cutting.{parts, texts}
use Rattle.mip_lines.proofs.Parts.{cut_next, cut_last, too_many}
use Rattle.mip_lines.proofs.cutting.few_fields.Goals as goal

pub returns-then-is_full : goal.returns-then-is_full
returns-then-is_full c =
    let l = c.loop-end in
    let twelve : length l.fields.items ≡ 12 = search rules in
    too_many (texts l.fields.items) (parts 32 c.args.line.now) c.args.line.now l.start (omega (arith, twelve, length-map l.fields.items (λ (f : Bor (List ℕ)). f.now))) l.invariant.cut

pub loop-end-preserved : goal.loop-end-preserved
loop-end-preserved c =
    let line = c.args.line.now in
    let l = c.loop-end in
    record {
      cut = rw (c.push.ensures.items, map-append) (cut_next (texts l.fields.items) (parts 32 line) line l.start l.end l.invariant.end l.invariant.within c.loop-end-test.true l.invariant.cut);
      end = c.end_of-end-in-loop-end.ensures;
      within = omega (arith, c.loop-end-test.true);
    }

pub returns-then-is_full-2 : goal.returns-then-is_full-2
returns-then-is_full-2 c =
    let l = c.loop-end in
    let twelve : length l.fields.items ≡ 12 = search rules in
    too_many (texts l.fields.items) (parts 32 c.args.line.now) c.args.line.now l.start (omega (arith, twelve, length-map l.fields.items (λ (f : Bor (List ℕ)). f.now))) l.invariant.cut

pub returns : goal.returns
returns c =
    let l = c.loop-end in
    rw (c.push-2.ensures.items, map-append)
    (cut_last (texts l.fields.items) (parts 32 c.args.line.now) c.args.line.now l.start l.end l.invariant.end l.invariant.within c.loop-end-test.false l.invariant.cut)
