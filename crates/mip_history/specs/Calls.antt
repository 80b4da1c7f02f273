-- What a node of a run is asked, and what that is to a node of each kind; none where it is nothing to it.
use Rattle.std.specs.Prelude.{ℕ, List, Option, Some, None}
use Rattle.mip_words.specs.declared.address.Address.{Address}
use Rattle.mip_words.specs.declared.shield.Shield.{Shield}
use Rattle.mip_nonce.specs.Secrets.{Life}
use Rattle.mip_outside.specs.Places.{Around, claim_in}
use Rattle.mip_rules_correspondent.specs.Calls as correspondents
use Rattle.mip_rules_agent.specs.Calls as agents
use Rattle.mip_rules_agent.specs.Calls.{claim_for}
use Rattle.mip_rules_mobile.specs.Calls as mobiles
use Rattle.mip_rules_mobile.specs.MovingRules.{address_under}

pub data Call : Type 0 where
  -- a packet is handed to it, by its number, its shield and its bytes
  Take : (number : ℕ) (shield : Option Shield) (packet : List ℕ) → Call
  -- it is to send data
  Send : (to : Address) (proto : ℕ) (payload : List ℕ) → Call
  -- it is to ask for a binding to be refreshed
  Refresh : (home : Address) → Call
  -- time goes on, and due work is done
  Tick : Call
  -- its prefix is valid and preferred for so many seconds
  Plan : (valid preferred : ℕ) → Call
  -- another home agent advertises itself, with its preference and for so many seconds
  Hear : (agent : Address) (preference life : ℕ) → Call
  -- a router advertises a prefix
  Attach : (prefix : ℕ) → Call
  -- it leaves its link
  Leave : Call
  -- it is to solicit the prefixes of its home link
  Ask : Call
  -- it loses all that it keeps, and goes on with these secrets
  Restart : (secrets : Life) → Call

abbrev pub for_correspondent : Call → Option correspondents.Call
for_correspondent (Take number shield packet) = Some (correspondents.Take number shield packet)
for_correspondent (Send to proto payload) = Some (correspondents.Send to proto payload)
for_correspondent (Refresh home) = Some (correspondents.Refresh home)
for_correspondent _ = None

-- an agent's packet comes with what its place answers to a claim of the packet's home address
abbrev pub for_agent : Around → Call → Option agents.Call
for_agent around (Take number shield packet) = Some (agents.Take number shield packet (claim_for around packet))
for_agent around Tick = Some agents.Tick
for_agent around (Plan valid preferred) = Some (agents.Plan valid preferred)
for_agent around (Hear agent preference life) = Some (agents.Hear agent preference life)
for_agent around _ = None

-- as it comes to a link and leaves one, a mobile asks its place for its addresses
abbrev pub for_mobile : Around → (home : Address) → Call → Option mobiles.Call
for_mobile around home (Take number shield packet) = Some (mobiles.Take number shield packet)
for_mobile around home (Send to proto payload) = Some (mobiles.Send to proto payload)
for_mobile around home (Refresh to) = Some (mobiles.Refresh to)
for_mobile around home Tick = Some mobiles.Tick
for_mobile around home (Attach prefix) = Some (mobiles.Attach prefix (claim_in around home.0) (claim_in around (address_under home prefix).0))
for_mobile around home Leave = Some (mobiles.Leave (claim_in around home.0))
for_mobile around home Ask = Some mobiles.Ask
for_mobile around home (Restart secrets) = Some (mobiles.Restart secrets)
for_mobile around home _ = None
