use Rattle.std.proofs.Common.{◌∙◌, refl, sym, subst, ap, set}
use Rattle.mip_bulist.specs.Timers.{number_of}
use Rattle.mip_bulist.specs.Slots.{timers_of, IsKept}
use Rattle.mip_bulist.proofs.SlotLaws.{slot_left, added_timers, added_kept}
use Rattle.mip_bulist.proofs.timers.add.Goals as goal

pub unreachable-requires : goal.unreachable-requires
unreachable-requires c =
    slot_left c.args.work c.args.chain.now c.args.table.now c.requires.range c.requires.new c.requires.kept (c.in-Err.ensures.exact.0 refl)

pub returns-clause-timers : goal.returns-clause-timers
returns-clause-timers c =
    ap (λ ch. timers_of ch.items) c.in-Ok.ensures.ok ∙ added_timers c.args.due c.args.work c.in-Ok.slot.0 c.args.chain.now.items c.requires.new

pub returns-clause-kept : goal.returns-clause-kept
returns-clause-kept c =
    let w = c.args.work in
    let slot = c.in-Ok.slot in
    let number = sym (c.from.ensures ∙ c.number.ensures) in
    let kept = added_kept c.args.due w slot.0 c.args.chain.now c.args.table.now c.requires.range c.told-table c.requires.new c.in-Ok.ensures.empty c.requires.kept in
    subst (λ n. IsKept c.insert.new.self (set c.args.table.now n slot)) number (subst (λ ch. IsKept ch (set c.args.table.now (number_of w) slot)) (sym c.in-Ok.ensures.ok) kept)
