use Rattle.std.proofs.Common.{◌∙◌, sym, subst, ap}
use Rattle.mip_bulist.specs.Timers.{with_timer}
use Rattle.mip_bulist.specs.Slots.{timers_of, IsKept}
use Rattle.mip_bulist.proofs.SlotLaws.{retimed_timers, retimed_kept}
use Rattle.mip_bulist.proofs.timers.Timers.set.Goals as goal

pub invariant_of-self : goal.invariant_of-self
invariant_of-self c =
    let i = c.self.inside in
    subst (λ ch. IsKept ch i.table) (sym c.retime.ensures.chain) (retimed_kept c.args.due c.args.work c.in-Some.slot.0 i.chain i.table c.requires (sym c.in-Some.ensures) c.self.invariant)

pub returns-in-Some : goal.returns-in-Some
returns-in-Some c =
    let k = c.self.invariant in
    ap (λ ch. timers_of ch.items) c.retime.ensures.chain
    ∙ retimed_timers c.args.due c.args.work c.in-Some.slot.0 c.self.inside.chain.items (sym c.in-Some.ensures) k.different k.sound.apart
    ∙ ap (with_timer c.args.due c.args.work) c.self.view_is
