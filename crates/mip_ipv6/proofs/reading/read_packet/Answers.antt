use Rattle.std.proofs.Common.{◌≡◌, ◌≤◌, ◌-◌, ◌^◌, length, subst, arith}
use Rattle.std.specs.Prelude.{◌<◌, List, ℕ, Result, Ok, Err, IfOk, IsTrue}
use Rattle.mip_words.specs.Numbers.{IsBytes}
use Rattle.mip_words.specs.Steps.{Gives}
use Rattle.mip_ipv6.specs.declared.not_packet.NotPacket.{NotPacket}
use Rattle.mip_ipv6.specs.declared.packet_ref.PacketRef.{PacketRef}
use Rattle.mip_ipv6.specs.Packet.{Packet, packet, IsAt, is_routable_if_any}
use Rattle.mip_ipv6.specs.Reading.{packet_of}
use Rattle.mip_ipv6.specs.Spelling.{IsPacket}
use Rattle.mip_ipv6.proofs.Packets.{packet_takes, packet_again, body_small}
use Rattle.mip_ipv6.proofs.Placed.{home_routable, place_is, place_near}
use Rattle.mip_ipv6.proofs.reading.read_packet.Goals as goal

is_found : (bytes : List ℕ) (r : Result PacketRef NotPacket) → Gives packet r (packet_of bytes) → IfOk r (λ p. IsPacket (packet p) bytes)
is_found bytes (Ok p) e = packet_takes bytes (packet p) e
is_found bytes (Err fault) e = tt

is_small : (bytes : List ℕ) (r : Result PacketRef NotPacket) → IsBytes bytes → Gives packet r (packet_of bytes) → IfOk r (λ p. length p.body.now ≤ 65535)
is_small bytes (Ok p) are e = body_small (packet p) bytes are (packet_takes bytes (packet p) e)
is_small bytes (Err fault) are e = tt

pub returns-clause-found : goal.returns-clause-found
returns-clause-found c = is_found c.args.bytes.now c.located.result c.located.ensures.exact

pub returns-clause-only : goal.returns-clause-only
returns-clause-only c = λ p is.
    let P : Result Packet NotPacket → Type 0 = λ r. Gives packet c.located.result r in
    subst P (packet_again p c.args.bytes.now is) c.located.ensures.exact

pub returns-clause-small : goal.returns-clause-small
returns-clause-small c = is_small c.args.bytes.now c.located.result (λ i. omega (arith, c.type_inv.bytes i)) c.located.ensures.exact

has_home : (bytes : List ℕ) (r : Result PacketRef NotPacket) → Gives packet r (packet_of bytes) → IfOk r (λ p. IsTrue (is_routable_if_any p.head.home))
has_home bytes (Ok p) e = home_routable (packet p) bytes (packet_takes bytes (packet p) e)
has_home bytes (Err fault) e = tt

has_behind : (bytes : List ℕ) (r : Result PacketRef NotPacket) → IfOk r (λ p. IsAt p bytes) → IfOk r (λ p. p.place ≡ length bytes - length p.body.now)
has_behind bytes (Ok p) at = place_is p.place bytes p.body.now at.1 at.2
has_behind bytes (Err fault) at = tt

has_near : (bytes : List ℕ) (r : Result PacketRef NotPacket) → IsBytes bytes → Gives packet r (packet_of bytes) → IfOk r (λ p. IsAt p bytes) → IfOk r (λ p. p.place < 2 ^ 32 - 1)
has_near bytes (Ok p) are e at = place_near p.place (packet p) bytes are (packet_takes bytes (packet p) e) at.1
has_near bytes (Err fault) are e at = tt

pub returns-clause-home : goal.returns-clause-home
returns-clause-home c = has_home c.args.bytes.now c.located.result c.located.ensures.exact

pub returns-clause-behind : goal.returns-clause-behind
returns-clause-behind c = has_behind c.args.bytes.now c.located.result c.located.ensures.place

pub returns-clause-near : goal.returns-clause-near
returns-clause-near c = has_near c.args.bytes.now c.located.result (λ i. omega (arith, c.type_inv.bytes i)) c.located.ensures.exact c.located.ensures.place
