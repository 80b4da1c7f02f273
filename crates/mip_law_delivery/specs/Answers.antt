-- What is sent in answer to a packet of data, and whether a packet was delivered.
use Rattle.std.specs.Prelude.{◌≡◌, ◌⊎◌, ℕ, zero, suc, List, Bool, Some, Contains}
use Rattle.mip_words.specs.declared.ids.NodeId.{NodeId}
use Rattle.mip_words.specs.declared.why.Why.{Why}
use Rattle.mip_ipv6.specs.Packet.{Packet}
use Rattle.mip_entries.specs.declared.entry.Entry.{Entry}
use Rattle.mip_entries.specs.declared.entry.Entry.TheVariants.{Sent, Handed, Gone}
use Rattle.mip_packets.specs.Says.{innermost}
use Rattle.mip_schedule.specs.declared.event.Event.{Event}
use Rattle.mip_provenance.specs.Entries.{packet_in}
use Rattle.mip_history.specs.Setup.{Setup}
use Rattle.mip_history.specs.Runs.{Run}
use Rattle.mip_law_delivery.specs.Stretches.{run_on, IsLeftByOne}

-- in this history packet k has data of this proto and with this payload, at any depth of tunnels
pub record HasData (past : List Entry) (k proto : ℕ) (payload : List ℕ) : Type 0 where
  pub packet : List ℕ
  pub posted : packet_in past k ≡ Some packet
  pub inner : Packet
  pub read : innermost packet ≡ Some inner
  pub is_proto : inner.head.proto ≡ proto
  pub is_payload : inner.body ≡ payload

-- packet j was sent in answer to packet k, and has the same data: one event of these handed k to a node, which sent j
pub record IsAnswer (s : Setup) (run : Run) (events : List Event) (k j : ℕ) : Type 0 where
  pub entries : List Entry
  pub one : IsLeftByOne s run events entries
  pub node : NodeId
  pub handed : Contains entries (Handed k node)
  pub shielded : Bool
  pub packet : List ℕ
  pub sent : Contains entries (Sent j node shielded packet)
  pub proto : ℕ
  pub payload : List ℕ
  pub given : HasData (run_on s run events).past k proto payload
  pub same : HasData (run_on s run events).past j proto payload

-- packet j descends from packet k by so many answers
abbrev pub DescendsBy : ℕ → (s : Setup) (run : Run) (events : List Event) (k j : ℕ) → Type 0
DescendsBy zero s run events k j = j ≡ k
DescendsBy (suc answers) s run events k j = (i : ℕ) × IsAnswer s run events k i × DescendsBy answers s run events i j

-- a node was handed packet k, or nobody took it
abbrev pub IsReached : List Entry → (k : ℕ) → Type 0
IsReached entries k = ((node : NodeId) × Contains entries (Handed k node)) ⊎ ((why : Why) × Contains entries (Gone k why))

-- packet k was delivered: one of these events did so
pub record IsDelivered (s : Setup) (run : Run) (events : List Event) (k : ℕ) : Type 0 where
  pub entries : List Entry
  pub one : IsLeftByOne s run events entries
  pub reached : IsReached entries k
