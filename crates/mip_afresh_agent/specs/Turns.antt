-- A call of a home agent under way, as contracts see it.
use Rattle.std.specs.Prelude.{◌≡◌, Result, OnOk}
use Rattle.mip_rules_agent.specs.Steps.{answers_of}
use Rattle.mip_rules_agent.specs.Transitions.{Transition}
use Rattle.mip_rules_agent.specs.Rules.{Handing}
use Rattle.mip_afresh_agent.specs.declared.turn.Turn.{Turn}
use Rattle.mip_afresh_agent.specs.declared.handed.Handed.{Handed}

-- a transition at its moment: this is known as it stands, and these are its answers so far
unfoldable pub Shows : Turn → Transition → Type 0
Shows turn t = (t.now ≡ turn.moment.0) × (t.known ≡ turn.known) × (answers_of t.steps ≡ turn.answers)

-- of each transition that shows as it was, a rule makes one that shows as it is now
abbrev pub Leads : (Transition → Transition) → (old new : Turn) → Type 0
Leads rule old new = (t : Transition) → Shows old t → Shows new (rule t)

-- the same where memory lasts
abbrev pub Goes : {R E : Type 0} → Result R E → (Transition → Transition) → (old new : Turn) → Type 0
Goes result rule old new = (t : Transition) → Shows old t → OnOk result (Shows new (rule t))

-- the handing of a packet in a call, by what is known as it stands
abbrev pub handing_in : Handed → Turn → Handing
handing_in h turn = record { me = h.me.now; now = turn.moment.0; known = turn.known; number = h.number; shield = h.shield; bytes = h.bytes.now; claim = h.claim }
