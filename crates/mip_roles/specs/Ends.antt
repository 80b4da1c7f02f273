-- What a node knows as an end of traffic, or as the agent of one: where it is present, what it is registered and bound with,
-- and what it holds and has registered. RFC 6275 sections 8.5, 9.5, 10.4 and 11.3
use Rattle.std.specs.Prelude.{ℕ, Bool, false, Option, Some, None, is_some}
use Rattle.mip_words.specs.declared.address.Address.{Address}
use Rattle.mip_rules_correspondent.specs.Questions.{held_of}
use Rattle.mip_rules_agent.specs.Questions.{careof_at}
use Rattle.mip_rules_mobile.specs.HomeQuestions.{registered_agent}
use Rattle.mip_rules_mobile.specs.RowQuestions.{bound_row_of}
use Rattle.mip_history.specs.Found.{address_of}
use Rattle.mip_roles.specs.declared.role.Role.{Role}
use Rattle.mip_roles.specs.declared.role.Role.TheVariants.{Correspondent, Agent, Mobile}

-- the address at which it is present: a mobile where it stands, another node at its own
abbrev pub present_of : Address → Role → Option Address
present_of own (Correspondent c) = Some own
present_of own (Agent a) = Some own
present_of own (Mobile k) = address_of own k.standing

-- the agent with which a mobile is registered
abbrev pub agent_of : Role → (now : ℕ) → Option Address
agent_of (Correspondent c) now = None
agent_of (Agent a) now = None
agent_of (Mobile k) now = registered_agent k now

-- a mobile has a binding with a peer
abbrev pub is_bound_to : Role → (now : ℕ) → (peer : Address) → Bool
is_bound_to (Correspondent c) now peer = false
is_bound_to (Agent a) now peer = false
is_bound_to (Mobile k) now peer = is_some (bound_row_of k now peer)

-- the care-of address that it holds for a home
abbrev pub held_by_role : Role → (now : ℕ) → (home : Address) → Option Address
held_by_role (Correspondent c) now home = held_of c.known now home
held_by_role (Agent a) now home = None
held_by_role (Mobile k) now home = held_of k.part.known now home

-- the care-of address that an agent has registered for a home
abbrev pub careof_of : Role → (now : ℕ) → (home : Address) → Option Address
careof_of (Correspondent c) now home = None
careof_of (Agent a) now home = careof_at a.known now home
careof_of (Mobile k) now home = None
