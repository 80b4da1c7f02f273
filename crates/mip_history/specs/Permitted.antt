-- The permitted history of a schedule: the opening claims, and then what each event leaves.
use Rattle.std.specs.Prelude.{ℕ, List, [], ◌∷◌, ◌++◌, length, fold, map, Bool, true, false, not, ◌==◌, if◌then◌else◌, Option, Some, unwrap_or, slice_index_or}
use Rattle.std.specs.List.{list_any}
use Rattle.mip_words.specs.declared.address.Address.{Address}
use Rattle.mip_words.specs.declared.ids.LinkId.{LinkId}
use Rattle.mip_entries.specs.declared.entry.Entry.{Entry}
use Rattle.mip_entries.specs.declared.entry.Entry.TheVariants as entries
use Rattle.mip_entries.specs.Completed.{node_id}
use Rattle.mip_schedule.specs.Contents.{Content}
use Rattle.mip_schedule.specs.declared.event.Event.{Event}
use Rattle.mip_schedule.specs.declared.event.Event.TheVariants.{Wait, Move, Advertise, Payload, Inject, Probe, Bind, Tell, Listen, Deaf, Squat, Yield, Deliver, Repeat, Lose, Carry, Restart, Refresh, Plan, Ask, Show, Settle}
use Rattle.mip_rules_agent.specs.Rules.{anycast_of}
use Rattle.mip_links.specs.Table.{link_of}
use Rattle.mip_history.specs.Setup.{Setup, Host, Kind, is_mobile_at, setup_of}
use Rattle.mip_history.specs.Setup.Kind.{Agent}
use Rattle.mip_history.specs.Runs.{Run, note, without}
use Rattle.mip_history.specs.Calls as calls
use Rattle.mip_history.specs.Nodes.{acts, shown}
use Rattle.mip_history.specs.Delivery.{delivered, carried}
use Rattle.mip_history.specs.Waiting.{waited}
use Rattle.mip_history.specs.Advertising.{advertised}
use Rattle.mip_history.specs.Restarting.{restarted}
use Rattle.mip_history.specs.Settled.{is_settled}
use Rattle.mip_history.specs.Outsiders.{injected, injected_if, probe_packet, update_packet, test_packet, listens, deafens, squats, yields}

abbrev pub is_same_link : Option ℕ → Option ℕ → Bool
is_same_link (Some a) (Some b) = a == b
is_same_link _ _ = false

-- a home agent with its address on this link
abbrev pub is_agent_kind_on : List ℕ → Option ℕ → Address → Kind → Bool
is_agent_kind_on links link own (Agent preference life room serves) = is_same_link link (link_of links own.0)
is_agent_kind_on links link own _ = false

abbrev pub is_agent_on : List ℕ → Option ℕ → Host → Bool
is_agent_on links link host = is_agent_kind_on links link host.address host.kind

-- the first one on the link of its address, behind these nodes
abbrev pub is_first_agent : List ℕ → List Host → Address → Kind → Bool
is_first_agent links before own (Agent preference life room serves) = not (list_any (is_agent_on links (link_of links own.0)) before)
is_first_agent links before own _ = false

abbrev pub claimed_entry : List ℕ → ℕ → Address → Entry
claimed_entry links n address = entries.Claimed n (record { 0 = unwrap_or (link_of links address.0) 0 }) address

-- the home-agents anycast address of the link of an address. RFC 2526
abbrev pub anycast_at : Address → Address
anycast_at own = record { 0 = anycast_of own }

-- each node holds its address, and the first agent of a link the home-agents anycast address there, behind these nodes
abbrev pub claims_of : List ℕ → List Host → Host → List Entry
claims_of links before host =
    claimed_entry links (length before) host.address
    ∷ (if is_first_agent links before host.address host.kind then claimed_entry links (length before) (anycast_at host.address) ∷ [] else [])

abbrev pub claims_from : List ℕ → List Host → List Host → List Entry
claims_from links before [] = []
claims_from links before (host ∷ hosts) = claims_of links before host ++ claims_from links (before ++ host ∷ []) hosts

abbrev pub opening_claims : Setup → List Entry
opening_claims s = claims_from s.links [] s.hosts

-- before the first event
abbrev pub opened : Setup → Run
opened s = record {
  past = opening_claims s;
  pasts = map (λ host. []) s.hosts;
  agent_pasts = map (λ host. []) s.hosts;
  mobile_pasts = map (λ host. []) s.hosts;
  posts = [];
  flying = [];
}

-- a packet is lost
unfoldable pub lost : Run → ℕ → Run
lost run k = note (if slice_index_or run.flying k false then entries.Lost k else entries.Idle) (without k run)

-- a mobile leaves where it is, and stands on a link or on none
abbrev pub moves : Setup → Run → ℕ → Option LinkId → Run
moves s run n link = note (entries.Moved (node_id n) link) (acts s n calls.Leave run)

-- only a mobile moves
abbrev pub moves_if : Setup → Run → ℕ → Option LinkId → Run
moves_if s run n link = if is_mobile_at s n then moves s run n link else note entries.Idle run

-- what an event makes of a run
abbrev pub happens : Setup → Run → Event → Run
happens s run (Wait ms) = waited s run ms
happens s run (Move node link) = moves_if s run node.0 link
happens s run (Advertise link) = advertised s run link.0
happens s run (Payload node to proto payload) = acts s node.0 (calls.Send to proto payload) run
happens s run (Inject o link packet) = injected s run o link.0 packet
happens s run (Probe o link careof source peer cookie) = injected s run o link.0 (probe_packet careof source peer cookie.0)
happens s run (Bind o link ends sequence lifetime kh kc number) =
    injected_if s run o link.0 (update_packet (record { source = ends.source; peer = ends.peer; home = ends.home; careof = ends.careof; sequence = sequence; lifetime = lifetime; number = number }) run.posts kh kc)
happens s run (Tell o link kt kp) = injected_if s run o link.0 (test_packet run.posts kt kp)
happens s run (Listen o link) = listens run o link.0
happens s run (Deaf o link) = deafens run o link.0
happens s run (Squat o address) = squats s run o address
happens s run (Yield o address) = yields s run o address
happens s run (Deliver k) = delivered s run k false
happens s run (Repeat k) = delivered s run k true
happens s run (Lose k) = lost run k
happens s run (Carry count) = carried s run count
happens s run (Restart node) = restarted s run node.0
happens s run (Refresh node home) = acts s node.0 (calls.Refresh home) run
happens s run (Plan node valid preferred) = acts s node.0 (calls.Plan valid preferred) run
happens s run (Ask node) = acts s node.0 calls.Ask run
happens s run (Show node) = shown s node.0 run
happens s run (Settle a b) = note (entries.Settled a b (is_settled s.start run.past a.0 b.0)) run

abbrev pub run_of : Setup → List Event → Run
run_of s events = fold (λ run event. happens s run event) (opened s) events

-- the permitted history
unfoldable pub permitted : Content → List Entry
permitted c = (run_of (setup_of c) c.events).past
