-- What passes the checks is the message of the packet, and what comes out of a tunnel stands in it.
use Rattle.std.proofs.Common.{◌≡◌, ℕ, Bool, true, false}
use Rattle.std.specs.Prelude.{Option, Some, None, Result, Ok, Err, not, ◌==◌, if◌then◌else◌}
use Rattle.std.specs.Result.{result_ok}
use Rattle.std.proofs.lemmas.Bool.{cond_both, eqb-true}
use Rattle.mip_words.specs.Protocols.{mobility_header}
use Rattle.mip_words.specs.declared.address.Address.{Address}
use Rattle.mip_ipv6.specs.declared.not_packet.NotPacket.{NotPacket}
use Rattle.mip_ipv6.specs.Packet.{Packet, source_of, destination_of}
use Rattle.mip_ipv6.specs.Reading.{packet_of}
use Rattle.mip_mobhdr.specs.declared.fault.Fault.{Fault}
use Rattle.mip_mobhdr.specs.Said.{Said}
use Rattle.mip_mobhdr.specs.Reading.{message_of}
use Rattle.mip_ipv6.specs.Tunnel.{inner, opened}
use Rattle.mip_reception.specs.Says.{message_in}
use Rattle.mip_reception.specs.declared.address_match.AddressMatch.{AddressMatch}
use Rattle.mip_reception.specs.Checks.{message_or_refusal, message_at, checked}
use Rattle.mip_reception.proofs.CheckedMessages.{either, checked_message}

-- what passes is the message of the packet
read-in : (place : ℕ) (p : Packet) (r : Result Said Fault) (m : Option Said) → message_or_refusal place p.head.home r ≡ Ok m → result_ok r ≡ m
read-in place p (Ok message) m e = cc
read-in place p (Err fault) m e = absurd cc

pub checked-in : (standing : AddressMatch) (place : ℕ) (p : Packet) (m : Option Said) → checked standing place p ≡ Ok m → message_in p ≡ m
unfolding message_at
checked-in standing place p m e = by (p.head.proto == mobility_header) (checked_message standing place p m e)
  where
    by : (b : Bool) → (if b then message_or_refusal place p.head.home (message_of (source_of p.head) (destination_of p.head) p.body) else Ok None) ≡ Ok m
        → (if b then result_ok (message_of (source_of p.head) (destination_of p.head) p.body) else None) ≡ m
    by true e = read-in place p (message_of (source_of p.head) (destination_of p.head) p.body) m e
    by false e = cc

-- a packet with a message has a mobility header, and the message is read from it
some-result : (r : Result Said Fault) (m : Said) → result_ok r ≡ Some m → r ≡ Ok m
some-result (Ok message) m e = cc
some-result (Err fault) m e = absurd cc

pub in-proto : (p : Packet) (m : Said) → message_in p ≡ Some m → p.head.proto ≡ 135
in-proto p m =
    cond_both (p.head.proto == 135) _ _ (λ (o : Option Said). o ≡ Some m → p.head.proto ≡ 135) (λ is e. eqb-true p.head.proto 135 is) (λ other e. absurd cc)

pub in-reads : (p : Packet) (m : Said) → message_in p ≡ Some m → message_of (source_of p.head) (destination_of p.head) p.body ≡ Ok m
in-reads p m e = by (p.head.proto == mobility_header) e
  where
    by : (b : Bool) → (if b then result_ok (message_of (source_of p.head) (destination_of p.head) p.body) else None) ≡ Some m → message_of (source_of p.head) (destination_of p.head) p.body ≡ Ok m
    by true e = some-result (message_of (source_of p.head) (destination_of p.head) p.body) m e
    by false e = absurd cc

-- what comes out of a tunnel is read from its body
inner-reads : (r : Result Packet NotPacket) (q : Packet) → inner r ≡ Ok q → r ≡ Ok q
inner-reads (Ok p) q e = cc
inner-reads (Err fault) q e = absurd cc

pub opened-reads : (agent : Address) (p q : Packet) → opened agent p ≡ Ok q → packet_of p.body ≡ Ok q
unfolding opened
opened-reads agent p q =
    either (Ok q) (not (p.head.proto == 41)) _ _ (λ e. absurd cc)
    (either (Ok q) (not (p.head.source.0 == agent.0)) _ _ (λ e. absurd cc) (inner-reads (packet_of p.body) q))
