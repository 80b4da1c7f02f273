-- What a call tells that writes a packet.
use Rattle.std.specs.Prelude.{◌≡◌, ℕ, List, length, Bool, true, false, nat_lt}
use Rattle.mip_ipv6.specs.declared.head.Head.{Head}
use Rattle.mip_ipv6.specs.Packet.{Packet, is_plain}
use Rattle.mip_ipv6.specs.Spelling.{packet_bytes, behind_bytes}
use Rattle.mip_c_words.specs.Giving.{Keeps, Writes}

-- the packet of a head and a body that fit, 57 where they are too long
abbrev pub WritesFitting : Bool → Packet → ℕ → List ℕ → List ℕ → ℕ → ℕ → Type 0
WritesFitting true p status old new size_old size_new = (status ≡ 57) × Keeps old new size_old size_new
WritesFitting false p status old new size_old size_new = Writes (packet_bytes p) status old new size_old size_new

-- 14 where the head can't be written
abbrev pub WritesPlain : Bool → Packet → ℕ → List ℕ → List ℕ → ℕ → ℕ → Type 0
WritesPlain false p status old new size_old size_new = (status ≡ 14) × Keeps old new size_old size_new
WritesPlain true p status old new size_old size_new =
    WritesFitting (nat_lt 65535 (length (behind_bytes p))) p status old new size_old size_new

abbrev pub WritesPacket : Head → List ℕ → ℕ → List ℕ → List ℕ → ℕ → ℕ → Type 0
WritesPacket head body status old new size_old size_new =
    WritesPlain (is_plain head) (record { head = head; body = body }) status old new size_old size_new
