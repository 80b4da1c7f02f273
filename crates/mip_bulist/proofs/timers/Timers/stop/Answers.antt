use Rattle.std.proofs.Common.{◌∙◌, sym, subst, ap}
use Rattle.mip_bulist.specs.Timers.{is_set, without_timer}
use Rattle.mip_bulist.specs.Slots.{timers_of, IsKept}
use Rattle.mip_bulist.proofs.SlotLaws.{timers_without, taken_kept, set_there, unset_there, stays}
use Rattle.mip_bulist.proofs.timers.Timers.stop.Goals as goal

pub returns-in_default-clause-was : goal.returns-in_default-clause-was
returns-in_default-clause-was c =
    sym (unset_there c.args.work c.self.inside.chain.items (sym c.in_default.ensures)) ∙ ap (is_set c.args.work) c.self.view_is

pub returns-in_default-clause-timers : goal.returns-in_default-clause-timers
returns-in_default-clause-timers c =
    sym c.self.view_is ∙ sym (stays c.args.work c.self.inside.chain.items (sym c.in_default.ensures)) ∙ ap (without_timer c.args.work) c.self.view_is

pub invariant_of-self : goal.invariant_of-self
invariant_of-self c =
    let i = c.self.inside in
    subst (λ ch. IsKept ch i.table) (sym c.take.ensures.chain) (taken_kept c.args.work c.in-Some.slot.0 i.chain i.table (sym c.in-Some.ensures) c.self.invariant)

pub returns-clause-was : goal.returns-clause-was
returns-clause-was c =
    sym (set_there c.args.work c.in-Some.slot.0 c.self.inside.chain.items (sym c.in-Some.ensures)) ∙ ap (is_set c.args.work) c.self.view_is

pub returns-clause-timers : goal.returns-clause-timers
returns-clause-timers c =
    let k = c.self.invariant in
    ap (λ ch. timers_of ch.items) c.take.ensures.chain
    ∙ timers_without c.args.work c.in-Some.slot.0 c.self.inside.chain.items (sym c.in-Some.ensures) k.different k.sound.apart
    ∙ ap (without_timer c.args.work) c.self.view_is
