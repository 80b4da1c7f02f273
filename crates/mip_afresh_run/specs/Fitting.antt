-- What an event needs to happen in a run. Each event of a schedule has it behind those before it.
use Rattle.std.specs.Prelude.{◌<◌, ◌≤◌, length, IsTrue, IsFalse, ⊤}
use Rattle.mip_words.specs.Addresses.{is_routable}
use Rattle.mip_ipv6.specs.Packet.{names_no_body}
use Rattle.mip_schedule.specs.declared.event.Event.{Event}
use Rattle.mip_schedule.specs.declared.event.Event.TheVariants.{Payload, Inject, Bind, Squat, Yield, Refresh}
use Rattle.mip_afresh.specs.Tellings.{TellingSeen}
use Rattle.mip_afresh_nodes.specs.Reached.{IsReached}

-- a packet can be made of it: an update is for a routable home, and asks for one of eight bindings
abbrev pub CanForge : Event → Type 0
CanForge (Bind outsider link ends sequence lifetime home_test careof_test number) = IsTrue (is_routable ends.home.0) × (number < 8)
CanForge _ = ⊤

-- an event stays within its bounds: data is of a protocol that names a body, has 512 bytes at most and goes to a routable address;
-- an injected packet has its fixed header
abbrev pub IsWithin : Event → Type 0
IsWithin (Payload node to proto payload) = IsTrue (is_routable to.0) × IsFalse (names_no_body proto) × (length payload ≤ 512)
IsWithin (Inject outsider link packet) = 40 ≤ length packet
IsWithin (Squat outsider address) = outsider < 8
IsWithin (Yield outsider address) = outsider < 8
IsWithin (Refresh node home) = IsTrue (is_routable home.0)
IsWithin event = CanForge event

-- an event may happen in a run that events lead to
pub record IsFit (t : TellingSeen) (event : Event) : Type 0 where
  pub reached : IsReached t.setup t.run
  pub within : IsWithin event
