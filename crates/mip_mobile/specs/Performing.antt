-- What a machine is after a call, and what it answered.
use Rattle.std.specs.Prelude.{◌≡◌, ◌≢◌, ◌≤◌, ℕ, List, None, Some, Result, Err, IfOk, IfSome, IfErr, OnOk, OnErr, IsErrOf, option_map}
use Rattle.mip_outside.specs.Cause.{Rose}
use Rattle.mip_outside.specs.Moments.{moments_after}
use Rattle.mip_outside.specs.declared.clock.Clock.{Ghosts as Clocks}
use Rattle.mip_outside.specs.declared.wire.Wire.{Ghosts as Wires}
use Rattle.mip_words.specs.declared.memory.Memory.{Memory}
use Rattle.mip_transmission.specs.declared.fault.StationFault.{StationFault}
use Rattle.mip_transmission.specs.declared.fault.StationFault.TheVariants as faults
use Rattle.mip_entries.specs.declared.answer.Answer.{Answer}
use Rattle.mip_rules_mobile.specs.Calls.{Call}
use Rattle.mip_rules_mobile.specs.Known.{Known}
use Rattle.mip_rules_mobile.specs.Transitions.{Transition}
use Rattle.mip_rules_mobile.specs.Doing.{transition_of}
use Rattle.mip_mobile_calls.specs.Seen.{Shows}
use Rattle.mip_mobile.specs.declared.machine.Machine.{Machine}
use Rattle.mip_mobile.specs.Handling.{Handles, BreaksOff, IsLeft, moment_of}

-- what a call of a station answers
abbrev pub Answered : Type 0
Answered = Result (List Answer) StationFault

-- the moment of a call that read the clock
abbrev pub moment_in : {C W : Type 0} → Clocks C → (before after : Machine C W) → ℕ
moment_in c before after = moment_of (c.last after.clock) before.context.moment

-- the definition's transition of a call that read the clock
abbrev pub transition_in : {C W : Type 0} → Clocks C → (before after : Machine C W) → Call → Transition
transition_in c before after call = transition_of before.context.known (moment_in c before after) call

-- a machine was called. `faulted`: after a fault it answers the same fault, and nothing changes. `read`: else the clock was read
-- once. `handles`, `front`: its answers are those of the definition's transition, as its wire took them, or it broke off in that transition.
-- `left`: but for want of memory it knows what that transition leaves. `well`, `kept`: it has a fault exactly where it answered one.
-- `failed`, `wire`: the wire's faults rose where it failed; they never fall, and the wire is the same object
pub record Performs {C W : Type 0} (c : Clocks C) (w : Wires W) (before after : Machine C W) (call : Call) (result : Answered) : Type 0 where
  pub faulted : IfSome before.fault (λ fault. (result ≡ Err fault) × (after ≡ before))
  pub read : before.fault ≡ None → c.ahead after.clock ≡ option_map moments_after (c.ahead before.clock)
  pub handles : IfOk result (λ answers. Handles w.gives before.context.known (moment_in c before after) call
      (w.out before.wire) (w.answered before.wire) answers after.context.known (w.out after.wire) (w.answered after.wire))
  pub front : before.fault ≡ None → OnErr result (BreaksOff w.gives before.context.known (moment_in c before after) call
      (w.out before.wire) (w.answered before.wire) (w.out after.wire) (w.answered after.wire))
  pub left : before.fault ≡ None → result ≢ Err faults.Memory → IsLeft after.context before.context.known (moment_in c before after) call
  pub well : OnOk result (after.fault ≡ None)
  pub kept : IfErr result (λ fault. after.fault ≡ Some fault)
  pub failed : before.fault ≡ None → IsErrOf result faults.Failed → Rose (w.faults before.wire) (w.faults after.wire)
  pub wire : (w.faults before.wire ≤ w.faults after.wire) × w.is_same before.wire after.wire

-- a call ends: where its context shows a transition of the definition, its answers are those of that transition, as its wire took them, or it
-- breaks off in that transition, and but for want of memory it knows what that transition leaves
pub record Finishes {C W : Type 0} (w : Wires W) (before after : Machine C W) (done : Result (Unit {0}) Memory) (result : Answered) : Type 0 where
  pub handles : (k : Known) (now : ℕ) (call : Call) → OnOk done (Shows before.context (transition_of k now call)) → IfOk result (λ answers.
      Handles w.gives k now call (w.out before.wire) (w.answered before.wire) answers after.context.known (w.out after.wire) (w.answered after.wire))
  pub front : (k : Known) (now : ℕ) (call : Call) → OnOk done (Shows before.context (transition_of k now call)) → OnErr result
      (BreaksOff w.gives k now call (w.out before.wire) (w.answered before.wire) (w.out after.wire) (w.answered after.wire))
  pub left : (k : Known) (now : ℕ) (call : Call) → OnOk done (Shows before.context (transition_of k now call))
      → result ≢ Err faults.Memory → IsLeft after.context k now call
  pub failed : IsErrOf result faults.Failed → Rose (w.faults before.wire) (w.faults after.wire)
  pub wire : (w.faults before.wire ≤ w.faults after.wire) × w.is_same before.wire after.wire
