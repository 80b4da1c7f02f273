use Rattle.std.proofs.Common.{◌≡◌, ◌+◌, ◌-◌, ◌<◌, ℕ, length, drop, sym, ap, ◌∙◌, rules, arith, length-drop}
use Rattle.std.proofs.lemmas.Result.{err_from_is_err_and}
use Rattle.mip_icmp.proofs.Walking.{goes_on, stops, is_done}
use Rattle.mip_proxynd.specs.Reading.{option_at, options_after}
use Rattle.mip_proxynd.proofs.area.read_area.Goals as goal

pub returns-in_err-with_this : goal.returns-in_err-with_this
returns-in_err-with_this c =
    let p = err_from_is_err_and c.from_residual.result c.from_residual.ensures.1 in
    let some : 0 < length c.loop-rest.rest.now = search rules in
    rw (p.1, p.2) (sym c.loop-rest.invariant.so_far ∙ stops option_at c.loop-rest.seen _ c.loop-rest.rest.now _ some c.in_err-with_this.ensures.exact)

pub loop-rest-preserved : goal.loop-rest-preserved
loop-rest-preserved c =
    let rest = c.loop-rest.rest.now in
    let before = length c.args.message.now - length rest in
    let size = c.in_ok-with_this.size in
    let left = length-drop size rest in
    let moved : before + size ≡ length c.args.message.now - length (drop size rest) = omega (arith, left, c.loop-rest.invariant.inside, c.in_ok-with_this.ensures.inside) in
    let next = goes_on option_at c.loop-rest.seen before rest (c.in_ok-with_this.with_this, size) c.in_ok-with_this.ensures.some c.in_ok-with_this.ensures.inside c.in_ok-with_this.ensures.exact in
    record {
      inside = rw c.split_at-in-loop-rest.ensures.back (omega (arith, left, c.loop-rest.invariant.inside));
      so_far = rw c.split_at-in-loop-rest.ensures.back (ap (λ (place : ℕ). options_after 0 c.in_ok-with_this.with_this place (drop size rest)) (sym moved) ∙ sym next ∙ c.loop-rest.invariant.so_far);
    }

pub returns : goal.returns
returns c =
    let none : length c.loop-rest.rest.now ≡ 0 = search rules in
    sym c.loop-rest.invariant.so_far ∙ is_done option_at c.loop-rest.seen _ c.loop-rest.rest.now none
