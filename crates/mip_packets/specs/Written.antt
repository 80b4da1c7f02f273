-- What a packet that was written is read as, if it is read at all. Nothing is said of how great its numbers are
use Rattle.std.specs.Prelude.{◌≡◌, ℕ, ◌%◌, List, length, Bool, true, false}
use Rattle.mip_words.specs.Addresses.{address_bytes}
use Rattle.mip_words.specs.declared.address.Address.{Address}
use Rattle.mip_ipv6.specs.Packet.{Packet}
use Rattle.mip_mobhdr.specs.Said.{Said}
use Rattle.mip_mobhdr.specs.Said.Said.{HomeTest, CareofTest}
use Rattle.mip_packets.specs.Says.{Carried}
use Rattle.mip_packets.specs.Says.Carried.{Test}

-- a packet as it was written, and as it was read: the same protocol, the same body, and a destination of the same 16 bytes
pub record IsBack (written read : Packet) : Type 0 where
  pub proto : read.head.proto ≡ written.head.proto
  pub body : read.body ≡ written.body
  pub destination : address_bytes read.head.destination ≡ address_bytes written.head.destination

-- a test that was read is of the kind, and has the index and the token, that were written, and goes where it was sent. No
-- other message is read as a test
abbrev pub IsTestOf : Address → Said → (kind index : ℕ) (token : List ℕ) (destination : Address) → Type 0
IsTestOf to (HomeTest i c t o) kind index token destination =
    (kind ≡ 0) × (i ≡ i % 65536 → index ≡ i) × (length t ≡ 8 → token ≡ t) × (address_bytes destination ≡ address_bytes to)
IsTestOf to (CareofTest i c t o) kind index token destination =
    (kind ≡ 1) × (i ≡ i % 65536 → index ≡ i) × (length t ≡ 8 → token ≡ t) × (address_bytes destination ≡ address_bytes to)
IsTestOf to _ kind index token destination = ⊥

-- where a packet with this message to this address says a test, it is the one that was written
abbrev pub TestsOf : Address → Said → Carried → Type 0
TestsOf to m (Test kind index token destination) = IsTestOf to m kind index token destination
TestsOf to m _ = Unit {0}

-- a packet says no test
abbrev pub SaysNoTest : Carried → Type 0
SaysNoTest (Test kind index token destination) = ⊥
SaysNoTest _ = Unit {0}

-- a message is a test
abbrev pub is_test : Said → Bool
is_test (HomeTest i c t o) = true
is_test (CareofTest i c t o) = true
is_test _ = false
