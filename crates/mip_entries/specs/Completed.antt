-- The entries of a role, completed by its caller: the node's number, the link of an address, and the
-- number that the next packet sent takes.
use Rattle.std.specs.Prelude.{ℕ, Option, Some, None}
use Rattle.mip_words.specs.declared.address.Address.{Address}
use Rattle.mip_words.specs.declared.ids.NodeId.{NodeId}
use Rattle.mip_words.specs.declared.ids.LinkId.{LinkId}
use Rattle.mip_entries.specs.declared.entry.Entry.{Entry}
use Rattle.mip_entries.specs.declared.entry.Entry.TheVariants.{Claimed, Released, Taken, Careof, Idle, Home, Registered, Unregistered, Refused, Chosen, Prefixes, Made, Bound, Unbound, Accepted, Denied, Dropped, Up, Unsent, Restarted, Row}

abbrev pub node_id : ℕ → NodeId
node_id n = record { 0 = n }

-- a role writes 0 for its own number
abbrev pub myself : NodeId
myself = node_id 0

abbrev pub link_id : ℕ → LinkId
link_id l = record { 0 = l }

-- the address that an entry of a role claims, gives up, or claims in vain
abbrev pub claim_in : Entry → Option Address
claim_in (Claimed who link address) = Some address
claim_in (Released who link address) = Some address
claim_in (Taken who link address holder) = Some address
claim_in _ = None

-- a role's entry with the node's number, the link of its address, and the next packet's number; what
-- no role notes is no entry of it
abbrev pub named : ℕ → ℕ → ℕ → Entry → Entry
named n link next (Claimed who on address) = Claimed n (link_id link) address
named n link next (Released who on address) = Released n (link_id link) address
named n link next (Taken who on address holder) = Taken n (link_id link) address holder
named n link next (Careof node address) = Careof (node_id n) address
named n link next (Home node home careof sequence end) = Home (node_id n) home careof sequence end
named n link next (Registered node agent end) = Registered (node_id n) agent end
named n link next (Unregistered node agent) = Unregistered (node_id n) agent
named n link next (Refused node status) = Refused (node_id n) status
named n link next (Chosen node agent) = Chosen (node_id n) agent
named n link next (Prefixes node valid preferred) = Prefixes (node_id n) valid preferred
named n link next (Made node peer number home careof) = Made (node_id n) peer next home careof
named n link next (Bound node peer end) = Bound (node_id n) peer end
named n link next (Unbound node peer) = Unbound (node_id n) peer
named n link next (Accepted node number home binding careof sequence end i j) = Accepted (node_id n) number home binding careof sequence end i j
named n link next (Denied node number status) = Denied (node_id n) number status
named n link next (Dropped node number why) = Dropped (node_id n) number why
named n link next (Up node number source destination proto payload) = Up (node_id n) number source destination proto payload
named n link next (Unsent node why) = Unsent (node_id n) why
named n link next (Restarted node) = Restarted (node_id n)
named n link next (Row node home binding careof sequence end kept) = Row (node_id n) home binding careof sequence end kept
named n link next _ = Idle
