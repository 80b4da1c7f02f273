-- Rules that ask what the correspondent part of a mobile keeps, and a trial whose update waits for an answer.
use Rattle.std.specs.Prelude.{ℕ, List, Bool, map, Option, Result, OnOk}
use Rattle.mip_words.specs.declared.address.Address.{Address}
use Rattle.mip_ipv6.specs.declared.head.Head.{Head}
use Rattle.mip_bulist.specs.declared.any.Any.{Any}
use Rattle.mip_bulist.specs.declared.state.Pending as pending
use Rattle.mip_bulist.specs.declared.trial.Trial as trials
use Rattle.mip_rules_mobile.specs.Questions.{part_room}
use Rattle.mip_rules_mobile.specs.Transitions.{Transition}
use Rattle.mip_afresh_rules.specs.declared.kept.Kept.{Kept}
use Rattle.mip_afresh_rules.specs.Keeping.{IsKept}
use Rattle.mip_afresh_bindings.specs.declared.acceptance.Acceptance.{Acceptance}
use Rattle.mip_afresh_bindings.specs.Accepted.{acceptance_seen}
use Rattle.mip_afresh_bindings.specs.Keeping.{kept_among}
use Rattle.mip_afresh_mobile_state.specs.declared.row.Row.{Row}
use Rattle.mip_afresh_mobile_state.specs.declared.trial.Tested.{Tested}
use Rattle.mip_afresh_mobile_state.specs.declared.turn.Turn.{Turn}
use Rattle.mip_afresh_mobile_state.specs.Trials.{trial_in, tested_seen, any_seen}
use Rattle.mip_afresh_mobile_state.specs.Turns.{Shows}
use Rattle.mip_afresh_mobile.specs.declared.arrival.Arrival.{Arrival}
use Rattle.mip_afresh_mobile.specs.declared.handed.Handed.{Handed}
use Rattle.mip_afresh_mobile.specs.Nodes.{AreAccepted}

-- one that asks what the part keeps of a packet from a source and a home: of each in which this is kept
abbrev pub GoesBy : {R E : Type 0} → Kept → (source : Address) → (home : Option Address) → Result R E → (Transition → Transition) → (old new : Turn) → Type 0
GoesBy kept source home result rule old new =
    (t : Transition) → IsKept kept t.known.part.known.cache old.now.0 source home → Shows old t → OnOk result (Shows new (rule t))

-- one that asks what it keeps of any packet: of each in which it accepted these updates
abbrev pub GoesFrom : {R E : Type 0} → (numbers : ℕ) → List Acceptance → Result R E → (Transition → Transition) → (old new : Turn) → Type 0
GoesFrom numbers accepted result rule old new =
    (t : Transition) → AreAccepted numbers old.now.0 accepted t.known.part.known.cache → Shows old t → OnOk result (Shows new (rule t))

-- what it keeps of a packet with this head behind these updates
abbrev pub kept_at : (numbers : ℕ) → List Acceptance → (now : ℕ) → Head → Kept
kept_at numbers accepted now head = kept_among part_room numbers (map acceptance_seen accepted) now (record { source = head.source; home = head.home })

-- a packet with this head as it arrived, straight or out of a tunnel
abbrev pub handed_as : Arrival → (tunnelled : Bool) → (now : ℕ) → Head → Handed
handed_as a tunnelled now head = record {
  number = a.number;
  shield = a.shield;
  tunnelled = tunnelled;
  kept = kept_at a.numbers a.accepted.now now head;
}

-- a row whose update waits for an acknowledgement
abbrev pub pending_in : Row → Tested → ℕ → trials.Trial pending.Pending
pending_in r tested last = trial_in r.peer r.trial (record { tested = tested_seen tested; last = last })

-- a row, as the definitions of return routability have its trial
abbrev pub row_trial : Row → Any
row_trial r = any_seen r.peer r.trial
