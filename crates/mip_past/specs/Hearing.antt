-- The other home agents that an agent knows of, as its entries tell it: each advertisement stands in an entry before the agent hears it. RFC 6275
-- sections 7.4 and 10.5.1
use Rattle.std.specs.Prelude.{ℕ, ◌^◌, List, [], ◌∷◌, fold, map, take, ◌&&◌, ◌==◌, nat_le, nat_lt, if◌then◌else◌, Option, Some, None}
use Rattle.mip_words.specs.Last.{or_else}
use Rattle.mip_words.specs.declared.address.Address.{Address}
use Rattle.mip_symbols.specs.declared.declaration.Declaration.{Declaration}
use Rattle.mip_symbols.specs.declared.declaration.Declaration.TheVariants as declare
use Rattle.mip_discovery.specs.declared.agent.Agent.{Agent}
use Rattle.mip_discovery.specs.Heard.{agent_of, after, live}
use Rattle.mip_discovery.specs.Listed.{AgentsSeen}
use Rattle.mip_entries.specs.declared.entry.Entry.{Entry}
use Rattle.mip_entries.specs.declared.entry.Entry.TheVariants as entries
use Rattle.mip_past.specs.declared.router.Router.{Router}
use Rattle.mip_past.specs.declared.past.Past.{Past}

-- what the agent with this address is declared to advertise
abbrev pub router_at : Address → Declaration → Option Router
router_at a (declare.Agent name link address preference life room) = if address.0 == a.0 then Some (record { preference = preference; life = life }) else None
router_at a _ = None

abbrev pub router_of : List Declaration → Address → Option Router
router_of [] a = None
router_of (d ∷ ds) a = or_else (router_at a d) (router_of ds a)

-- the moment that follows: one that is earlier, or past those of any schedule, is none
abbrev pub moment_from : (at m : ℕ) → ℕ
moment_from at m = if nat_le at m && nat_lt m (2 ^ 62) then m else at

abbrev pub moment_told : (at : ℕ) → Entry → ℕ
moment_told at (entries.At moment) = moment_from at moment.0
moment_told at _ = at

abbrev pub nobody : AgentsSeen
nobody = record { last = 0; agents = [] }

-- an agent hears another one, which is declared so
abbrev pub hears : (at : ℕ) → Address → Option Router → AgentsSeen → AgentsSeen
hears at a None seen = seen
hears at a (Some r) seen = record { last = at; agents = after at (agent_of (record { at = at; agent = a; preference = r.preference; life = r.life })) seen.agents }

-- what an advertisement that is for agent n leaves; it names no agent where it is for a mobile
abbrev pub hears_any : (routers : Address → Option Router) → (at : ℕ) → Option Address → AgentsSeen → AgentsSeen
hears_any routers at None seen = seen
hears_any routers at (Some a) seen = hears at a (routers a) seen

abbrev pub agents_told : (routers : Address → Option Router) → (n at : ℕ) → AgentsSeen → Entry → AgentsSeen
agents_told routers n at seen (entries.Advertised node link router) = if n == node.0 then hears_any routers at router seen else seen
agents_told routers n at seen (entries.Restarted node) = if n == node.0 then nobody else seen
agents_told routers n at seen _ = seen

-- the moment, and the agents
pub record Hearing : Type 0 where
  pub at : ℕ
  pub seen : AgentsSeen

abbrev pub heard_told : (routers : Address → Option Router) → (n : ℕ) → Hearing → Entry → Hearing
heard_told routers n h e = record { at = moment_told h.at e; seen = agents_told routers n h.at h.seen e }

abbrev pub unheard : (start : ℕ) → Hearing
unheard start = record { at = moment_from 0 start; seen = nobody }

abbrev pub hearing_in : (routers : Address → Option Router) → (start : ℕ) → List Entry → (n : ℕ) → Hearing
hearing_in routers start past n = fold (heard_told routers n) (unheard start) past

-- the live ones, in order: 32 of them at most, as many as a schedule has nodes
abbrev pub live_addresses : (now : ℕ) → List Agent → List Address
live_addresses now agents = map (λ x. x.address) (live now agents)

abbrev pub heard_of : Hearing → List Address
heard_of h = take 32 (live_addresses h.at h.seen.agents)

abbrev pub agents_in : (routers : Address → Option Router) → (start : ℕ) → List Entry → (n : ℕ) → List Address
agents_in routers start past n = heard_of (hearing_in routers start past n)

abbrev pub agents_at : Past → List Declaration → ℕ → List Address
agents_at p ds n = agents_in (router_of ds) p.start.0 p.entries.now n
