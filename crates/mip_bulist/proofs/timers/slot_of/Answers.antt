use Rattle.std.proofs.Common.{◌∙◌, sym, ap, true, false, refl, None, Some, option_map, arith}
use Rattle.std.proofs.lemmas.Bool.Decides.{nat_tests}
use Rattle.mip_bulist.proofs.SlotLaws.{looked_up, unlisted}
use Rattle.mip_bulist.proofs.timers.slot_of.Goals as goal

pub returns-in_err-slot : goal.returns-in_err-slot
returns-in_err-slot c =
    ap (option_map (λ s. s.0)) c.from_residual.ensures
    ∙ sym (unlisted c.args.work c.args.table.now c.args.chain.now.items (sym c.listed.ensures ∙ c.in_err-slot.was) c.requires.listed)

pub returns-in_err-set : goal.returns-in_err-set
returns-in_err-set c =
    ap (option_map (λ s. s.0)) c.from_residual-in_err-set.ensures
    ∙ sym (looked_up c.args.work c.in_ok-slot.slot c.args.table.now c.args.chain.now.items None false (sym c.listed.ensures ∙ c.in_ok-slot.was) c.in_err-set.ensures refl c.requires.listed c.requires.different)

pub returns-then-number : goal.returns-then-number
returns-then-number c =
    let same = sym c.number.ensures ∙ c.if-number.true ∙ c.number-2.ensures in
    sym (looked_up c.args.work c.in_ok-slot.slot c.args.table.now c.args.chain.now.items (Some c.in_ok-set.set.now) true (sym c.listed.ensures ∙ c.in_ok-slot.was) c.in_ok-set.ensures (grind (arith, nat_tests)) c.requires.listed c.requires.different)

pub returns-else-number : goal.returns-else-number
returns-else-number c =
    let other = c.if-number.false in
    let first = c.number.ensures in
    let second = c.number-2.ensures in
    sym (looked_up c.args.work c.in_ok-slot.slot c.args.table.now c.args.chain.now.items (Some c.in_ok-set.set.now) false (sym c.listed.ensures ∙ c.in_ok-slot.was) c.in_ok-set.ensures (grind (arith, nat_tests)) c.requires.listed c.requires.different)
