-- What a node of a run is asked, as the history has it.
use Rattle.std.specs.Prelude.{◌≡◌, ◌≤◌, length, true, ⊤}
use Rattle.mip_history.specs.Calls as calls
use Rattle.mip_roles.specs.declared.call.Call.{Call}
use Rattle.mip_roles.specs.declared.call.Call.TheVariants.{Take, Send, Refresh, Tick, Plan, Hear, Attach, Leave, Ask, Restart}
use Rattle.mip_roles.specs.Payloads.{is_payload}

abbrev pub asked : Call → calls.Call
asked (Take number shield packet) = calls.Take number shield packet.now
asked (Send to proto payload) = calls.Send to proto payload.now
asked (Refresh home) = calls.Refresh home
asked Tick = calls.Tick
asked (Plan valid preferred) = calls.Plan valid preferred
asked (Hear agent preference life) = calls.Hear agent preference life
asked (Attach prefix) = calls.Attach prefix.0
asked Leave = calls.Leave
asked Ask = calls.Ask
asked (Restart secrets) = calls.Restart secrets.value

-- data is of a protocol that may be sent, and short
abbrev pub IsAskable : Call → Type 0
IsAskable (Send to proto payload) = (is_payload proto ≡ true) × (length payload.now ≤ 512)
IsAskable _ = ⊤

-- the same of the call as the history has it: data is of a protocol that may be sent
abbrev pub CanAsk : calls.Call → Type 0
CanAsk (calls.Send to proto payload) = is_payload proto ≡ true
CanAsk _ = ⊤
