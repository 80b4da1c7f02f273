-- What an engine needs to let an event happen: what the event names is there, and its sizes, the moment and the lives
-- stay within their bounds; time goes on in a run of events, and there ends are settled or not. Every event of a schedule finds the engine ready.
use Rattle.std.specs.Prelude.{◌≡◌, ℕ, ◌+◌, ◌<◌, ◌≤◌, ◌^◌, length, true, Some, slice_get, ⊤}
use Rattle.mip_words.specs.Addresses.{is_routable}
use Rattle.mip_words.specs.declared.ids.LinkId.{LinkId}
use Rattle.mip_schedule.specs.declared.event.Event.{Event}
use Rattle.mip_schedule.specs.declared.event.Event.TheVariants.{Wait, Advertise, Payload, Inject, Bind, Listen, Deaf, Squat, Yield, Restart, Settle}
use Rattle.mip_engine.specs.Nodes.{NodeSeen}
use Rattle.mip_engine.specs.Engines.{EngineSeen}
use Rattle.mip_engine.specs.Payloads.{is_payload}
use Rattle.mip_engine.specs.Standing.{IsOfRun}

-- the outsider and the link are there
pub record IsEar (e : EngineSeen) (o : ℕ) (l : LinkId) : Type 0 where
  pub outsider : o < 8
  pub small : l.0 < 32
  pub link : l.0 < length e.net.links

abbrev pub IsReady : EngineSeen → Event → Type 0
IsReady e (Wait ms) = (e.moment + ms < 2 ^ 62) × IsOfRun e
IsReady e (Advertise link) = link.0 < length e.net.links
IsReady e (Payload node to proto payload) = (is_payload proto ≡ true) × (length payload ≤ 512)
IsReady e (Inject outsider link packet) = 40 ≤ length packet
IsReady e (Bind outsider link ends sequence lifetime home_test careof_test number) = (is_routable ends.home.0 ≡ true) × (number < 8)
IsReady e (Listen outsider link) = IsEar e outsider link
IsReady e (Deaf outsider link) = IsEar e outsider link
IsReady e (Squat outsider address) = outsider < 8
IsReady e (Yield outsider address) = outsider < 8
IsReady e (Restart node) = (c : NodeSeen) → slice_get e.nodes node.0 ≡ Some c → c.life + 1 < 2 ^ 32
IsReady e (Settle a b) = (a.0 < length e.nodes) × (b.0 < length e.nodes) × IsOfRun e
IsReady e _ = ⊤
