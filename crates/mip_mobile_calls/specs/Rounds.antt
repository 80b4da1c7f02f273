-- One round of a tick.
use Rattle.mip_bulist.specs.Timers.{due_work}
use Rattle.mip_rules_mobile.specs.TimerQuestions.{moment}
use Rattle.mip_rules_mobile.specs.Transitions.{Transition}
use Rattle.mip_rules_mobile.specs.RingingRules.{rings_on}

-- the first work is done, where it is due
abbrev pub rings_once : Transition → Transition
rings_once t = rings_on (λ u. u) (due_work (moment t.now) t.known.list.timers) t
