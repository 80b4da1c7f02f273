-- Whatever is refused is refused for a reason that stands in a `dropped` entry.
use Rattle.std.proofs.Common.{◌≡◌, ℕ, refl, subst, Bool, true, not, ◌||◌, ◌&&◌}
use Rattle.std.proofs.lemmas.Bool.{cond_both}
use Rattle.std.specs.Prelude.{◌==◌, Option, Some, None, is_some, Result, Ok, Err}
use Rattle.mip_words.specs.declared.address.Address.{Address}
use Rattle.mip_ipv6.specs.Packet.{Packet, source_of, destination_of}
use Rattle.mip_ipv6.specs.declared.not_packet.NotPacket.{NotPacket}
use Rattle.mip_ipv6.specs.declared.not_packet.NotPacket.TheVariants as packets
use Rattle.mip_mobhdr.specs.declared.fault.Fault.{Fault}
use Rattle.mip_mobhdr.specs.declared.fault.Fault.TheVariants as faults
use Rattle.mip_mobhdr.specs.Said.{Said}
use Rattle.mip_mobhdr.specs.Reading.{message_of}
use Rattle.mip_entries.specs.Reasons.{is_dropped_why}
use Rattle.mip_reception.specs.declared.refusal.Refusal.{Refusal}
use Rattle.mip_reception.specs.declared.address_match.AddressMatch.{AddressMatch}
use Rattle.mip_reception.specs.Words.{packet_why, message_why}
use Rattle.mip_reception.specs.Checks.{message_or_refusal, message_at, is_probe, is_update, with_home, then_home, checked}

pub packet_why-dropped : (fault : NotPacket) → is_dropped_why (packet_why fault) ≡ true
packet_why-dropped packets.Short = refl
packet_why-dropped packets.Version = refl
packet_why-dropped packets.Length = refl
packet_why-dropped (packets.Header number) = refl
packet_why-dropped packets.Route = refl
packet_why-dropped (packets.Option type) = refl

message_why-dropped : (fault : Fault) → is_dropped_why (message_why fault) ≡ true
message_why-dropped faults.Size = refl
message_why-dropped faults.Checksum = refl
message_why-dropped (faults.Unknown type) = refl
message_why-dropped faults.Proto = refl
message_why-dropped faults.HeaderLen = refl
message_why-dropped (faults.Option place) = refl

-- what is refused is so for such a reason
abbrev pub RefusesRight : Result (Option Said) Refusal → Type 0
RefusesRight (Ok message) = Unit {0}
RefusesRight (Err refusal) = is_dropped_why refusal.why ≡ true

home-right : (holds : Bool) (home : Option Address) (m : Option Said) → RefusesRight (with_home holds home m)
home-right holds None m = tt
home-right holds (Some home) m =
    cond_both (is_probe m) _ _ RefusesRight (λ probe. refl) (λ no_probe.
    cond_both (is_update m || holds) _ _ RefusesRight (λ allowed. tt) (λ unheld. refl))

then-right : (holds : Bool) (home : Option Address) (r : Result (Option Said) Refusal) → RefusesRight r → RefusesRight (then_home holds home r)
then-right holds home (Ok m) right = home-right holds home m
then-right holds home (Err refusal) right = right

message-right : (place : ℕ) (p : Packet) → RefusesRight (message_at place p)
unfolding message_at
message-right place p =
    cond_both (p.head.proto == 135) _ _ RefusesRight (λ mobility. by (message_of (source_of p.head) (destination_of p.head) p.body)) (λ other. tt)
  where
    by : (r : Result Said Fault) → RefusesRight (message_or_refusal place p.head.home r)
    by (Ok m) = tt
    by (Err fault) = message_why-dropped fault

pub checked-right : (s : AddressMatch) (place : ℕ) (p : Packet) → RefusesRight (checked s place p)
unfolding checked
checked-right s place p =
    cond_both (not s.is_mine) _ _ RefusesRight (λ other. refl) (λ mine.
    cond_both (is_some p.head.route && not s.takes_route) _ _ RefusesRight (λ routed. refl) (λ straight.
    then-right s.holds p.head.home (message_at place p) (message-right place p)))

pub refused-right : (s : AddressMatch) (place : ℕ) (p : Packet) (refusal : Refusal) → checked s place p ≡ Err refusal → is_dropped_why refusal.why ≡ true
refused-right s place p refusal e = subst RefusesRight e (checked-right s place p)
