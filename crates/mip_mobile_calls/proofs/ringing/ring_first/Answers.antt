use Rattle.std.proofs.Common.{sym, ◌∙◌, subst, OnOk}
use Rattle.mip_bulist.specs.declared.work.Work.{Work}
use Rattle.mip_rules_mobile.specs.RingingRules.{rings}
use Rattle.mip_mobile_registration.specs.Seen.{Shows}
use Rattle.mip_mobile_calls.proofs.Rounds.{same-work, not-none}
use Rattle.mip_mobile_calls.proofs.ringing.ring_first.Goals as goal

pub returns-in-Some : goal.returns-in-Some
unfolding rings
returns-in-Some c = λ work t due shows.
    subst (λ (w : Work). OnOk c.do_work.result (Shows c.do_work.new.context (rings w t)))
    (same-work c.in-Some.work work (sym c.in-Some.is ∙ c.ring.ensures.work ∙ due))
    (c.do_work.ensures _ (c.ring.ensures.shows c.in-Some.work t c.in-Some.is shows))

pub returns-in-None : goal.returns-in-None
returns-in-None c = λ work t due shows. not-none work _ (sym c.in-None.is ∙ c.ring.ensures.work ∙ due)
