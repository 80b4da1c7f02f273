use Rattle.std.proofs.Common.{refl, sym, ap, ◌∙◌, arith}
use lib.Count.{count_trailing_zeros}
use Rattle.mip_lines.specs.Spaces.{is_space, is_plain}
use Rattle.mip_lines.proofs.Runs.{run_through, run_stops}
use Rattle.mip_lines.proofs.cutting.end_of.Goals as goal

pub returns-then-found-ne0 : goal.returns-then-found-ne0
returns-then-found-ne0 c =
    let found = c.spaces_in-found in
    let run = run_stops is_space is_plain (λ x. refl) c.args.line.now c.loop-place.place 16 (omega arith) (omega arith) (omega (arith, found.ensures)) ∙ ap (count_trailing_zeros 64) (sym found.ensures) in
    omega (arith, run, c.loop-place.invariant.0)

pub loop-place-preserved : goal.loop-place-preserved
loop-place-preserved c =
    let run = run_through is_space is_plain (λ x. refl) c.args.line.now c.loop-place.place 16 (omega arith) (omega (arith, c.spaces_in-found.ensures)) in
    (omega (arith, run, c.loop-place.invariant.0), omega arith)
