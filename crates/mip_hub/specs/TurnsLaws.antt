-- What the laws of a turn speak of.
use Rattle.std.specs.Prelude.{ℕ, ◌≢◌, ⊤, List, [], ◌∷◌}
use Rattle.std.specs.List.{flat_map}
use Rattle.mip_hub.specs.Calls.{Call, sent_by}
use Rattle.mip_hub.specs.declared.hub_line.HubLine.{HubLine}
use Rattle.mip_hub.specs.declared.hub_line.HubLine.TheVariants.{Claim, Release, Advertise, Copies}

-- no line says of this turn how often its datagram is sent on
abbrev pub SaysNoCopies : (turn : ℕ) → List HubLine → Type 0
SaysNoCopies turn [] = ⊤
SaysNoCopies turn (Claim at address port ∷ lines) = SaysNoCopies turn lines
SaysNoCopies turn (Release at address ∷ lines) = SaysNoCopies turn lines
SaysNoCopies turn (Advertise at prefix agent port ∷ lines) = SaysNoCopies turn lines
SaysNoCopies turn (Copies at count ∷ lines) = (at ≢ turn) × SaysNoCopies turn lines

-- the datagrams of calls, each with its port
abbrev pub datagrams_of : List Call → List (ℕ × List ℕ)
datagrams_of calls = flat_map sent_by calls
