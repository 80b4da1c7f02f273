-- What a correspondent can be asked: its calls.
use Rattle.std.specs.Prelude.{ℕ, List, Option, Bool, true, false}
use Rattle.mip_words.specs.declared.address.Address.{Address}
use Rattle.mip_words.specs.declared.shield.Shield.{Shield}
use Rattle.mip_ipv6.specs.Packet.{Packet}

pub data Call : Type 0 where
  -- a packet is handed to the node, by its number, its shield and its bytes
  Take : (number : ℕ) (shield : Option Shield) (packet : List ℕ) → Call
  -- a packet that has passed its node's checks is handed to the correspondent part of a mobile
  Part : (number : ℕ) (packet : Packet) → Call
  -- time goes on
  Tick : Call
  -- it is asked for a Binding Refresh Request to a home
  Refresh : (home : Address) → Call
  -- it is asked to send data
  Send : (to : Address) (proto : ℕ) (payload : List ℕ) → Call

-- time going on
abbrev pub is_tick : Call → Bool
is_tick Tick = true
is_tick _ = false
