-- What a mobile can be asked: its calls.
use Rattle.std.specs.Prelude.{ℕ, List, Option}
use Rattle.mip_words.specs.declared.address.Address.{Address}
use Rattle.mip_words.specs.declared.shield.Shield.{Shield}
use Rattle.mip_nonce.specs.Secrets.{Life}
use Rattle.mip_outside.specs.declared.claim.Claim.{Claim}

pub data Call : Type 0 where
  -- a router advertises this prefix. The claims are what its place would answer: to a claim of the home address, and to
  -- one of the address that the mobile has under this prefix
  Attach : (prefix : ℕ) (of_home of_address : Claim) → Call
  -- it leaves its link; and what its place would answer to a claim of the home address
  Leave : (of_home : Claim) → Call
  -- a packet is handed to it, by its number, its shield and its bytes
  Take : (number : ℕ) (shield : Option Shield) (packet : List ℕ) → Call
  -- time goes on, and due work is done
  Tick : Call
  -- it is asked to send data
  Send : (to : Address) (proto : ℕ) (payload : List ℕ) → Call
  -- it is asked for a Binding Refresh Request to a home
  Refresh : (home : Address) → Call
  -- it is asked to solicit the prefixes of its home link
  Ask : Call
  -- it loses all that it keeps, and goes on with these secrets
  Restart : (secrets : Life) → Call
  -- it is asked to send a packet from its home address while it is away
  Tunnel : (inner : List ℕ) → Call
