use Rattle.std.proofs.Common.{arith, length, ◌<◌, ap, length-append, length-take, length-drop}
use Rattle.std.proofs.lemmas.List.{length-map}
use Rattle.std.proofs.lemmas.List.{get_or_default}
use Rattle.std.proofs.lemmas.List.Edits.{map_over_more}
use Rattle.std.specs.Prelude.{bit_xor, slice_index}
use Rattle.mip_tokens.proofs.keyed.key_pad.Goals as goal

pub loop-b-preserved : goal.loop-b-preserved
loop-b-preserved c =
    let ys = c.loop-b.b-items in
    let i = c.loop-b.b-index in
    let x = slice_index ys i in
    let same = simp (length-append, length-map, length-take, length-drop) at (ap length c.loop-b.invariant) in
    let inside : i < length ys = omega (arith, same) in
    map_over_more (λ b. bit_xor b c.args.byte) c.key_block-block.result ys i x (omega arith) c.loop-b.invariant
    (get_or_default ys i 0 x inside)
