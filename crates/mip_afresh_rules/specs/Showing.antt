-- What a transition shows so far, whatever is known in it.
use Rattle.std.specs.Prelude.{◌≡◌, ℕ, List, Option, Result, OnOk}
use Rattle.mip_words.specs.declared.address.Address.{Address}
use Rattle.mip_ipv6.specs.declared.not_packet.NotPacket.{NotPacket}
use Rattle.mip_ipv6.specs.Packet.{Packet}
use Rattle.mip_entries.specs.declared.answer.Answer.{Answer}
use Rattle.mip_rules_correspondent.specs.Steps.{answers_of}
use Rattle.mip_rules_correspondent.specs.Transitions.{Transition}
use Rattle.mip_afresh_rules.specs.declared.kept.Kept.{Kept}
use Rattle.mip_afresh_rules.specs.Keeping.{IsKept, IsKeptFor}

-- a transition at a moment has these answers so far
unfoldable pub Shown : (now : ℕ) → (answers : List Answer) → Transition → Type 0
Shown now answers t = (t.now ≡ now) × (answers_of t.steps ≡ answers)

-- a rule that asks nothing of what is known: of each transition at this moment that has the old answers it makes one with the new
abbrev pub Goes : {R E : Type 0} → (now : ℕ) → Result R E → (Transition → Transition) → (old new : List Answer) → Type 0
Goes now result rule old new = (t : Transition) → Shown now old t → OnOk result (Shown now new (rule t))

-- one that asks what is kept of the home of a packet: of each in which this is kept
abbrev pub GoesBy : {R E : Type 0} → Kept → (now : ℕ) → (source : Address) → (home : Option Address) → Result R E → (Transition → Transition) → (old new : List Answer) → Type 0
GoesBy kept now source home result rule old new =
    (t : Transition) → IsKept kept t.known.cache now source home → Shown now old t → OnOk result (Shown now new (rule t))

-- the same of bytes that may be a packet
abbrev pub GoesByHead : {R E : Type 0} → Kept → (now : ℕ) → Result Packet NotPacket → Result R E → (Transition → Transition) → (old new : List Answer) → Type 0
GoesByHead kept now packet result rule old new =
    (t : Transition) → IsKeptFor kept t.known.cache now packet → Shown now old t → OnOk result (Shown now new (rule t))
