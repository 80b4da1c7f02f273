-- Whether two ends of a run are settled, by what its nodes and its network know. RFC 6275 sections 8.5, 9.5, 10.4 and 11.3
use Rattle.std.specs.Prelude.{ℕ, Bool, false, not, ◌&&◌, ◌==◌, if◌then◌else◌, Option, Some, None, is_some, option_map, slice_get}
use Rattle.std.specs.List.{list_any}
use Rattle.std.specs.Option.{option_map_or}
use Rattle.mip_words.specs.declared.address.Address.{Address}
use Rattle.mip_links.specs.Table.{is_address}
use Rattle.mip_links.specs.Nets.{holder_of, is_held_by}
use Rattle.mip_history.specs.Settled.{is_held_right, is_bound_right}
use Rattle.mip_roles.specs.Ends.{present_of, agent_of, is_bound_to, held_by_role, careof_of}
use Rattle.mip_roles.specs.Nodes.{NodeSeen}
use Rattle.mip_engine.specs.Engines.{EngineSeen}

-- a node has a home registered
abbrev pub has_home : (now : ℕ) → (home : Address) → NodeSeen → Bool
has_home now home c = is_some (careof_of c.role now home)

-- a node has this address, and has a home registered with a present address
abbrev pub has_home_there : (now : ℕ) → (own present agent : Address) → NodeSeen → Bool
has_home_there now own present agent c = (c.host.address.0 == agent.0) && is_address (careof_of c.role now own) present

-- the agent of a registration holds the home, and has it registered with the present address
abbrev pub is_with_agent : EngineSeen → (own present : Address) → (agent : Option Address) → (holder : Option ℕ) → Bool
is_with_agent e own present (Some agent) (Some g) = option_map_or (has_home_there e.moment own present agent) (slice_get e.nodes g) false
is_with_agent e own present _ _ = false

-- at home, no agent has the home registered; elsewhere, the agent that holds it has
abbrev pub is_placed : EngineSeen → NodeSeen → (present : Address) → Bool
is_placed e c present =
    if present.0 == c.host.address.0 then not (list_any (has_home e.moment c.host.address) e.nodes)
    else is_with_agent e c.host.address present (agent_of c.role e.moment) (holder_of e.net.rows c.host.address.0)

-- node n, present at this address, is settled towards a peer that holds this care-of address for its home
abbrev pub is_settled_there : EngineSeen → (n : ℕ) → (c peer : NodeSeen) → (holds : Option ℕ) → (present : Option Address) → Bool
is_settled_there e n c peer holds None = false
is_settled_there e n c peer holds (Some present) =
    is_held_by (holder_of e.net.rows present.0) n
    && (is_placed e c present && (is_held_right c.host.address present holds && is_bound_right (is_bound_to c.role e.moment peer.host.address) present holds))

abbrev pub is_settled_to : EngineSeen → (n : ℕ) → (c peer : NodeSeen) → Bool
is_settled_to e n c peer =
    is_settled_there e n c peer (option_map (λ a. a.0) (held_by_role peer.role e.moment c.host.address)) (present_of c.host.address c.role)

-- nodes a and b are two, and each is settled towards the other
abbrev pub are_settled_by : EngineSeen → (a b : ℕ) → Option NodeSeen → Option NodeSeen → Bool
are_settled_by e a b (Some x) (Some y) = not (a == b) && (is_settled_to e a x y && is_settled_to e b y x)
are_settled_by e a b _ _ = false

abbrev pub are_settled : EngineSeen → (a b : ℕ) → Bool
are_settled e a b = are_settled_by e a b (slice_get e.nodes a) (slice_get e.nodes b)
