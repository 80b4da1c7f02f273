-- What the entries of a history tell of a mobile: the address at which it is present, its home registration, its bindings; of
-- an agent, where a home is registered; and of any node, its own address. RFC 6275 sections 4.5, 9.1, 10.1 and 11.1
use Rattle.std.specs.Prelude.{ℕ, List, Bool, ◌&&◌, ◌==◌, if◌then◌else◌, Option, Some, None, option_map}
use Rattle.mip_words.specs.declared.address.Address.{Address}
use Rattle.mip_words.specs.declared.moment.Moment.{Moment}
use Rattle.mip_words.specs.Asked.{asked}
use Rattle.mip_entries.specs.declared.entry.Entry.{Entry}
use Rattle.mip_entries.specs.declared.entry.Entry.TheVariants as entries
use Rattle.mip_rules_agent.specs.Questions.{if_standing}
use Rattle.mip_rules_mobile.specs.declared.registered.Registered.{Registered}
use Rattle.mip_rules_mobile.specs.HomeQuestions.{standing_registration}
use Rattle.mip_rules_mobile.specs.RowQuestions.{lies_ahead}
use Rattle.mip_history.specs.Registered.{last_registration}

-- an address that mobile n uses, or none as it leaves its link
abbrev pub present_says : ℕ → Entry → Option (Option Address)
present_says n (entries.Careof node address) = if n == node.0 then Some (Some address) else None
present_says n (entries.Moved node link) = if n == node.0 then Some None else None
present_says n _ = None

-- the present address of mobile n: that of its last `careof` since its last `moved`; its own address where there is neither
abbrev pub present_in : List Entry → ℕ → (own : Address) → Option Address
present_in past n own = asked (present_says n) (Some own) past

-- the registration of mobile n that was acknowledged; it ends by an `unregistered`, as the mobile moves, uses another address,
-- finds its address taken, or restarts
abbrev pub registration_told : ℕ → Entry → Option (Option Registered)
registration_told n (entries.Registered node agent end) = if n == node.0 then Some (Some (record { agent = agent; end = end })) else None
registration_told n (entries.Unregistered node agent) = if n == node.0 then Some None else None
registration_told n (entries.Moved node link) = if n == node.0 then Some None else None
registration_told n (entries.Careof node address) = if n == node.0 then Some None else None
registration_told n (entries.Taken who link address holder) = if n == who then Some None else None
registration_told n (entries.Restarted node) = if n == node.0 then Some None else None
registration_told n _ = None

-- the agent with which mobile n is registered, while the end of its registration lies ahead
abbrev pub agent_in : (now : ℕ) → List Entry → ℕ → Option Address
agent_in now past n = option_map (λ r. r.agent) (standing_registration now (asked (registration_told n) None past))

-- the end of mobile n's binding with a peer; none as the binding ends or the mobile restarts
abbrev pub binding_told : ℕ → Address → Entry → Option (Option Moment)
binding_told n peer (entries.Bound node to end) = if (n == node.0) && (to.0 == peer.0) then Some (Some end) else None
binding_told n peer (entries.Unbound node to) = if (n == node.0) && (to.0 == peer.0) then Some None else None
binding_told n peer (entries.Restarted node) = if n == node.0 then Some None else None
binding_told n peer _ = None

-- mobile n has a binding with a peer, whose end lies ahead
abbrev pub is_bound_in : (now : ℕ) → List Entry → ℕ → (peer : Address) → Bool
is_bound_in now past n peer = lies_ahead now (asked (binding_told n peer) None past)

-- the care-of address that agent g has registered for a home, while the end of the registration lies ahead
abbrev pub careof_in : (now : ℕ) → List Entry → ℕ → (home : Address) → Option Address
careof_in now past g home = option_map (λ b. b.careof) (if_standing home now (last_registration past g home))
