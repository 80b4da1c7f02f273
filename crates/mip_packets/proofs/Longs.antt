-- Each packet that is made has its fixed header. RFC 8200 section 3
use Rattle.std.proofs.Common.{ℕ, ◌≤◌, List, length, arith, length-append}
use Rattle.mip_words.specs.declared.address.Address.{Address}
use Rattle.mip_ipv6.specs.declared.head.Head.{Head}
use Rattle.mip_ipv6.specs.Packet.{Packet}
use Rattle.mip_ipv6.specs.Spelling.{packet_bytes, behind_bytes, fixed_bytes, first_number, second_number}
use Rattle.mip_ipv6.proofs.Canonical.{length_fixed}
use Rattle.mip_mobhdr.specs.Said.{Said}
use Rattle.mip_packets.specs.Packets.{data_packet, message_packet, problem_packet}
use Rattle.mip_packets.specs.Authenticated.{authenticated_packet}

abbrev pub IsLong : List ℕ → Type 0
IsLong packet = 40 ≤ length packet

pub packet-long : (p : Packet) → IsLong (packet_bytes p)
unfolding packet_bytes
packet-long p =
    let first : ℕ = first_number p.head.route (second_number p.head.home p.head.proto) in
    let size : ℕ = length (behind_bytes p) in
    omega (arith, length-append (fixed_bytes p.head first size) (behind_bytes p), length_fixed p.head first size)

pub data-long : (head : Head) (body : List ℕ) → IsLong (data_packet head body)
unfolding data_packet
data-long head body = packet-long _

pub message-long : (head : Head) (message : Said) → IsLong (message_packet head message)
unfolding message_packet
message-long head message = packet-long _

pub authenticated-long : (head : Head) (kbm : List ℕ) (careof peer : Address) (message : Said) → IsLong (authenticated_packet head kbm careof peer message)
unfolding authenticated_packet
authenticated-long head kbm careof peer message = message-long _ _

pub problem-long : (source destination : Address) (pointer : ℕ) (packet : List ℕ) → IsLong (problem_packet source destination pointer packet)
unfolding problem_packet
problem-long source destination pointer packet = packet-long _
