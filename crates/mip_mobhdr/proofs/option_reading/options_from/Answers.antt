use Rattle.std.proofs.Common.{rules, arith, ap, sym, ◌∙◌, ◌≡◌, ◌+◌, ◌<◌, length, length-drop, drop, get_or, ℕ, ◌-◌}
use Rattle.std.proofs.lemmas.Result.{err_from_is_err_and}
use Rattle.mip_mobhdr.specs.OptionValues.{set_values, nothing}
use Rattle.mip_mobhdr.specs.OptionReading.{options_after, options_of}
use Rattle.mip_mobhdr.proofs.OptionWalking.{goes_on, passes_pad, stops, is_done}
use Rattle.mip_mobhdr.proofs.option_reading.options_from.Goals as goal

pub loop-rest-init : goal.loop-rest-init
unfolding options_of
loop-rest-init c =
    let message = c.args.message.now in
    let start = c.args.start in
    let place : length message - length (drop start message) ≡ start = omega (arith, c.requires, length-drop start message) in
    rw c.split_at.ensures.back (record {
      inside = omega (arith, length-drop start message);
      so_far = ap (λ (k : ℕ). options_after 0 k nothing (drop start message)) place;
    })

pub loop-rest-preserved-then-rest-eq0 : goal.loop-rest-preserved-then-rest-eq0
loop-rest-preserved-then-rest-eq0 c =
    let rest = c.loop-rest.rest.now in
    let message = c.args.message.now in
    let some : 0 < length rest = search rules in
    let pad : get_or rest 0 0 ≡ 0 = search rules in
    let shorter : length (drop 1 rest) + 1 ≡ length rest = omega (arith, length-drop 1 rest, some) in
    let place : length message - length (drop 1 rest) ≡ length message - length rest + 1 = omega (arith, c.loop-rest.invariant.inside, shorter) in
    rw c.split_at-in-loop-rest.ensures.back (record {
      inside = omega (arith, c.loop-rest.invariant.inside, shorter);
      so_far = ap (λ (k : ℕ). options_after 0 k (set_values c.loop-rest.seen) (drop 1 rest)) place
          ∙ sym (passes_pad _ _ _ some pad)
          ∙ c.loop-rest.invariant.so_far;
    })

pub returns-in_err-size : goal.returns-in_err-size
returns-in_err-size c =
    let some : 0 < length c.loop-rest.rest.now = search rules in
    let bad = rw c.split_at-in-loop-rest.ensures.back at c.in_err-size.ensures.exact in
    let p = err_from_is_err_and c.from_residual.result c.from_residual.ensures.1 in
    rw (p.1, p.2) (sym c.loop-rest.invariant.so_far ∙ stops _ _ _ _ some bad)

pub loop-rest-preserved : goal.loop-rest-preserved
loop-rest-preserved c =
    let rest = c.loop-rest.rest.now in
    let more = drop 1 rest in
    let size = c.in_ok-size.size in
    let message = c.args.message.now in
    let some : 0 < length rest = search rules in
    let found = rw c.split_at-in-loop-rest.ensures.back at c.in_ok-size.ensures.exact in
    let inside = rw c.split_at-in-loop-rest.ensures.back at c.in_ok-size.ensures.inside in
    let lengths : length (drop size more) + size + 1 ≡ length rest = omega (arith, length-drop size more, length-drop 1 rest, some, inside) in
    let place : length message - length (drop size more) ≡ length message - length rest + 1 + size = omega (arith, c.loop-rest.invariant.inside, lengths) in
    rw (c.split_at-in-loop-rest-2.ensures.back, c.split_at-in-loop-rest.ensures.back) (record {
      inside = omega (arith, c.loop-rest.invariant.inside, lengths);
      so_far = ap (λ (k : ℕ). options_after 0 k (set_values c.take_option.new.seen) (drop size more)) place
          ∙ sym (goes_on _ _ _ _ size some found inside)
          ∙ c.loop-rest.invariant.so_far;
    })

pub returns : goal.returns
returns c =
    let none : length c.loop-rest.rest.now ≡ 0 = search rules in
    sym c.loop-rest.invariant.so_far ∙ is_done _ _ _ none
