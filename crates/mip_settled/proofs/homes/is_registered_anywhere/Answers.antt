use Rattle.std.proofs.Common.{◌≡◌, ◌<◌, ℕ, Bool, true, false, sym, subst, arith}
use Rattle.std.specs.Prelude.{is_some}
use Rattle.mip_history.specs.Told.{careof_in}
use Rattle.mip_history.specs.Settled.{any_below}
use Rattle.mip_settled.proofs.AnyNode.{any_next, none_below, node_here, node_nowhere}
use Rattle.mip_settled.proofs.homes.is_registered_anywhere.Goals as goal

pub loop-number-init : goal.loop-number-init
loop-number-init c = none_below (λ g. is_some (careof_in c.args.now.0 c.args.history.now g c.args.home))

pub returns-then-is_some : goal.returns-then-is_some
returns-then-is_some c =
    let is : ℕ → Bool = λ g. is_some (careof_in c.args.now.0 c.args.history.now g c.args.home) in
    let n = c.loop-number.number in
    let small : n < 256 = c.loop-number-test.true in
    let there : is n ≡ true = cc (c.is_some.ensures, c.careof.ensures, c.if-is_some.true) in
    sym (node_here is n there small)

pub loop-number-preserved : goal.loop-number-preserved
loop-number-preserved c =
    let is : ℕ → Bool = λ g. is_some (careof_in c.args.now.0 c.args.history.now g c.args.home) in
    let n = c.loop-number.number in
    let none : is n ≡ false = cc (c.is_some.ensures, c.careof.ensures, c.if-is_some.false) in
    any_next is n c.loop-number.invariant none

pub returns : goal.returns
returns c =
    let is : ℕ → Bool = λ g. is_some (careof_in c.args.now.0 c.args.history.now g c.args.home) in
    let n = c.loop-number.number in
    let over : n ≡ 256 = omega (arith, c.loop-number-test.false, c.loop-number.auto.number-end) in
    sym (node_nowhere is (subst (λ (i : ℕ). any_below is i ≡ false) over c.loop-number.invariant))
