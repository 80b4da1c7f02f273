-- What the calls tell at both ends of a tunnel.
use Rattle.std.specs.Prelude.{◌≡◌, ℕ, ◌-◌, List, length, Bool, true, false, nat_lt, Result, Ok, Err}
use Rattle.mip_words.specs.declared.address.Address.{Address}
use Rattle.mip_ipv6.specs.declared.not_packet.NotPacket.{NotPacket}
use Rattle.mip_ipv6.specs.declared.exit_fault.ExitFault.{ExitFault}
use Rattle.mip_ipv6.specs.declared.exit_fault.ExitFault.TheVariants.{NotTunnel, WrongEntry, Inner}
use Rattle.mip_ipv6.specs.Packet.{Packet}
use Rattle.mip_ipv6.specs.Reading.{packet_of}
use Rattle.mip_ipv6.specs.Tunnel.{hop_of, encapsulated, opened}
use Rattle.mip_c.specs.declared.packet_fields.PacketFields.{PacketFields}
use Rattle.mip_c_words.specs.Giving.{Keeps, Writes}
use Rattle.mip_c.specs.Packets.{fields_of, refused_fields, refusal_status, refused_number}

-- 57 where the packet is too long
abbrev pub EntersFitting : Bool → List ℕ → ℕ → List ℕ → List ℕ → ℕ → ℕ → Type 0
EntersFitting true text status old new size_old size_new = (status ≡ 57) × Keeps old new size_old size_new
EntersFitting false text status old new size_old size_new = Writes text status old new size_old size_new

-- 56 where the hop limit is used up
abbrev pub EntersHopping : Bool → List ℕ → List ℕ → ℕ → List ℕ → List ℕ → ℕ → ℕ → Type 0
EntersHopping true packet text status old new size_old size_new = (status ≡ 56) × Keeps old new size_old size_new
EntersHopping false packet text status old new size_old size_new =
    EntersFitting (nat_lt 65535 (length packet)) text status old new size_old size_new

-- 14 where the bytes have no hop limit
abbrev pub EntersLong : Bool → List ℕ → List ℕ → ℕ → List ℕ → List ℕ → ℕ → ℕ → Type 0
EntersLong true packet text status old new size_old size_new = (status ≡ 14) × Keeps old new size_old size_new
EntersLong false packet text status old new size_old size_new =
    EntersHopping (nat_lt (hop_of packet) 2) packet text status old new size_old size_new

-- a packet enters the tunnel from an entry to an exit
abbrev pub Enters : Address → Address → List ℕ → ℕ → List ℕ → List ℕ → ℕ → ℕ → Type 0
Enters entry exit packet = EntersLong (nat_lt (length packet) 40) packet (encapsulated entry exit packet)

-- the status of a packet that does not leave the tunnel, and what is refused in it
abbrev pub exit_status : ExitFault → ℕ
exit_status NotTunnel = 58
exit_status (WrongEntry seen) = 59
exit_status (Inner refusal) = refusal_status 24 refusal

abbrev pub exit_number : ExitFault → ℕ
exit_number NotTunnel = 0
exit_number (WrongEntry seen) = 0
exit_number (Inner refusal) = refused_number refusal

-- the packet in the body of one of so many bytes, and where it begins
abbrev pub LeavesOpened : ℕ → ℕ → Result Packet ExitFault → ℕ → PacketFields → ℕ → Type 0
LeavesOpened size body_size (Ok p) status fields place =
    (status ≡ 0) × (fields ≡ fields_of p.head (body_size - length p.body)) × (place ≡ size - body_size)
LeavesOpened size body_size (Err fault) status fields place =
    (status ≡ exit_status fault) × (fields ≡ refused_fields (exit_number fault)) × (place ≡ 0)

abbrev pub LeavesRead : Address → ℕ → Result Packet NotPacket → ℕ → PacketFields → ℕ → Type 0
LeavesRead entry size (Ok outer) status fields place = LeavesOpened size (length outer.body) (opened entry outer) status fields place
LeavesRead entry size (Err refusal) status fields place =
    (status ≡ refusal_status 16 refusal) × (fields ≡ refused_fields (refused_number refusal)) × (place ≡ 0)

-- a packet leaves the tunnel that begins at an entry
abbrev pub Leaves : Address → List ℕ → ℕ → PacketFields → ℕ → Type 0
Leaves entry packet = LeavesRead entry (length packet) (packet_of packet)
