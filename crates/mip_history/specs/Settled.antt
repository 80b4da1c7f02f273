-- Two ends of a history that are settled: each finds the other where it is, and keeps finding it as long as nothing changes.
-- RFC 6275 sections 8.5, 9.5, 10.4 and 11.3
use Rattle.std.specs.Prelude.{ℕ, zero, suc, List, Bool, true, false, not, ◌&&◌, ◌||◌, ◌==◌, if◌then◌else◌, Option, Some, None, is_some}
use Rattle.mip_words.specs.declared.address.Address.{Address}
use Rattle.mip_entries.specs.declared.entry.Entry.{Entry}
use Rattle.mip_binding.specs.Held.{held}
use Rattle.mip_links.specs.Table.{is_address}
use Rattle.mip_links.specs.Nets.{is_held_by}
use Rattle.mip_history.specs.Questions.{moment_in, holder_in, declared_in}
use Rattle.mip_history.specs.Bound.{accepted_by}
use Rattle.mip_history.specs.Told.{present_in, agent_in, is_bound_in, careof_in}

-- something is so of one of the first so many numbers, and of a node's number, which is below 256
unfoldable pub any_below : (ℕ → Bool) → ℕ → Bool
any_below is zero = false
any_below is (suc n) = any_below is n || is n

unfoldable pub any_node : (ℕ → Bool) → Bool
any_node is = any_below is 256

-- registered with an agent that has the home registered with the present address, and holds the home address
abbrev pub is_with_agent : (now : ℕ) → List Entry → (own present : Address) → (agent : Option Address) → (holder : Option ℕ) → Bool
is_with_agent now past own present (Some agent) (Some g) = is_address (declared_in past g) agent && is_address (careof_in now past g own) present
is_with_agent now past own present _ _ = false

-- at home, no agent has the home registered; elsewhere, the agent that holds it has
abbrev pub is_placed : (now : ℕ) → List Entry → (x : ℕ) → (own present : Address) → Bool
is_placed now past x own present =
    if present.0 == own.0 then not (any_node (λ g. is_some (careof_in now past g own)))
    else is_with_agent now past own present (agent_in now past x) (holder_in past own.0)

-- what a peer holds for the home is the present address, where it holds anything; at home it holds nothing
abbrev pub is_held_right : (own present : Address) → Option ℕ → Bool
is_held_right own present None = true
is_held_right own present (Some careof) = (careof == present.0) && not (present.0 == own.0)

-- what a bound peer holds for the home is the present address
abbrev pub is_bound_right : (bound : Bool) → (present : Address) → Option ℕ → Bool
is_bound_right true present (Some careof) = careof == present.0
is_bound_right true present None = false
is_bound_right false present careof = true

-- end x, with these own addresses, is settled towards y
abbrev pub is_settled_at : (now : ℕ) → List Entry → (x : ℕ) → (own peer : Address) → (held : Option ℕ) → (present : Option Address) → Bool
is_settled_at now past x own peer holds None = false
is_settled_at now past x own peer holds (Some present) =
    is_held_by (holder_in past present.0) x
    && (is_placed now past x own present && (is_held_right own present holds && is_bound_right (is_bound_in now past x peer) present holds))

abbrev pub is_settled_with : (now start : ℕ) → List Entry → (x y : ℕ) → (own peer : Option Address) → Bool
is_settled_with now start past x y (Some own) (Some peer) = is_settled_at now past x own peer (held (accepted_by start past y) own.0 now) (present_in past x own)
is_settled_with now start past x y _ _ = false

abbrev pub is_settled_to : (start : ℕ) → List Entry → (x y : ℕ) → Bool
is_settled_to start past x y = is_settled_with (moment_in start past) start past x y (declared_in past x) (declared_in past y)

-- two different ends are settled, each towards the other, at the end of a history that began at a moment
unfoldable pub is_settled : (start : ℕ) → List Entry → (x y : ℕ) → Bool
is_settled start past x y = not (x == y) && (is_settled_to start past x y && is_settled_to start past y x)
