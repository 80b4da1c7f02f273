-- Which packets pass the checks, row by row. RFC 6275 sections 6.1.3, 6.1.4, 6.4, 9.2 and 9.3.1
use Rattle.std.specs.Prelude.{◌≡◌, ℕ, Bool, IsTrue, IsFalse, not, ◌&&◌, ◌||◌, Option, Some, None, is_some, Ok, Err, ⊤}
use Rattle.mip_words.specs.declared.address.Address.{Address}
use Rattle.mip_words.specs.declared.why.Why.TheVariants as whys
use Rattle.mip_ipv6.specs.Packet.{Packet}
use Rattle.mip_mobhdr.specs.Said.{Said}
use Rattle.mip_reception.specs.declared.reply.Reply.TheVariants.{BindingError}
use Rattle.mip_reception.specs.declared.refusal.Refusal.{Refusal}
use Rattle.mip_reception.specs.declared.address_match.AddressMatch.{AddressMatch}
use Rattle.mip_reception.specs.Checks.{silent, message_at, is_probe, is_update, checked}

-- a Home Address option may stand with a message: never with a test init; else in an update, or where the binding stands
abbrev pub IsAllowed : (holds : Bool) → Option Address → Option Said → Type 0
IsAllowed holds None message = ⊤
IsAllowed holds (Some home) message = IsFalse (is_probe message) × IsTrue (is_update message || holds)

-- no row refuses the packet, whose message is this one
pub record Passes (standing : AddressMatch) (place : ℕ) (p : Packet) (passed : Option Said) : Type 0 where
  pub address : IsTrue standing.is_mine
  pub route : IsFalse (is_some p.head.route && not standing.takes_route)
  pub message : message_at place p ≡ Ok passed
  pub home : IsAllowed standing.holds p.head.home passed

-- the refusals, each where the rows before it do not apply
pub record RefusesInOrder (standing : AddressMatch) (place : ℕ) (p : Packet) : Type 0 where
  -- the destination is none of the node's addresses
  pub address : IsFalse standing.is_mine → checked standing place p ≡ Err (silent whys.Address)
  -- a routing header stands there, and the node is no away mobile whose home it names
  pub route : IsTrue standing.is_mine → IsTrue (is_some p.head.route) → IsFalse standing.takes_route
      → checked standing place p ≡ Err (silent whys.Route)
  -- the message cannot be read
  pub message : (refusal : Refusal) → IsTrue standing.is_mine → IsFalse (is_some p.head.route && not standing.takes_route)
      → message_at place p ≡ Err refusal → checked standing place p ≡ Err refusal
  -- a test init with a Home Address option
  pub probe : (message : Option Said) (home : Address) → IsTrue standing.is_mine
      → IsFalse (is_some p.head.route && not standing.takes_route) → message_at place p ≡ Ok message
      → p.head.home ≡ Some home → IsTrue (is_probe message) → checked standing place p ≡ Err (silent whys.Probe)
  -- a Home Address option without a binding, and the packet is no update
  pub home : (message : Option Said) (home : Address) → IsTrue standing.is_mine
      → IsFalse (is_some p.head.route && not standing.takes_route) → message_at place p ≡ Ok message
      → p.head.home ≡ Some home → IsFalse (is_probe message) → IsFalse (is_update message) → IsFalse standing.holds
      → checked standing place p ≡ Err (record { why = whys.HomeOption; reply = BindingError 1 home })
