-- The packets that a mobile sends have their fixed header.
use Rattle.std.proofs.Common.{ℕ, List, Bool, true, false, subst}
use Rattle.std.specs.Prelude.{is_some}
use Rattle.mip_words.specs.declared.address.Address.{Address}
use Rattle.mip_ipv6.specs.Tunnel.{encapsulated}
use Rattle.mip_reception.proofs.Longs.{IsLong, packet-long, data-long, message-long, authenticated-long}
use Rattle.mip_rules_correspondent.specs.declared.identity.Identity.{Identity}
use Rattle.mip_rules_correspondent.proofs.Wholes as parts
use Rattle.mip_rules_mobile.specs.Calls.{Call}
use Rattle.mip_rules_mobile.specs.Sendings.{Inner, OfPart, AsksHome, Given, Sending, FromHome, ByTunnel, AsksCareof, RegistersHome, DeregistersHome, PeerUpdate, inner_packet, registration_packet, deregistration_packet, discovery_packet, solicitation_packet, packet_of_sending, update_bytes, update_packet}
use Rattle.mip_rules_mobile.specs.Known.{Known}
use Rattle.mip_rules_mobile.specs.Doing.{transition_of}
use Rattle.mip_rules_mobile.specs.Fitting.{IsInner, IsSentBy}
use Rattle.mip_rules_mobile.specs.Answering.{EachAnswer, CanBeAsked, IsWhole}
use Rattle.mip_rules_mobile.proofs.Fits.{call-fits}
use Rattle.mip_rules_mobile.proofs.Answers.{each-answer}

inner-long : (c : Call) (me : Identity) (now : ℕ) (home : Address) (inner : Inner) → CanBeAsked c → IsInner c me now inner → IsLong (inner_packet home inner)
inner-long c me now home (OfPart packet) can is = parts.sending-long me is.call now is.sending packet is.is
inner-long c me now home (AsksHome peer cookie) can is = message-long _ _
inner-long c me now home (Given packet) can is = subst CanBeAsked is can

tunnel-long : (entry exit : Address) (packet : List ℕ) → IsLong (encapsulated entry exit packet)
unfolding encapsulated
tunnel-long entry exit packet = packet-long _

sending-long : (c : Call) (now : ℕ) (k : Known) (x : Sending) → CanBeAsked c → IsSentBy c now k x → IsLong (packet_of_sending x)
unfolding registration_packet deregistration_packet discovery_packet solicitation_packet
sending-long c now k (FromHome home inner) can is = inner-long c k.part.identity now home inner can is.1
sending-long c now k (ByTunnel home careof agent inner) can is = tunnel-long _ _ _
sending-long c now k (AsksCareof careof peer cookie) can is = message-long _ _
sending-long c now k (RegistersHome home careof agent sequence) can is = message-long _ _
sending-long c now k (DeregistersHome home agent sequence) can is = message-long _ _
sending-long c now k _ can is = data-long _ _

update-long : (u : PeerUpdate) → IsLong (update_packet u)
unfolding update_packet
update-long u = by (is_some u.made.careof)
  where
    by : (binds : Bool) → IsLong (update_bytes u binds)
    by true = authenticated-long _ _ _ _ _
    by false = authenticated-long _ _ _ _ _

pub call-whole : (k : Known) (now : ℕ) (c : Call) → CanBeAsked c → EachAnswer IsWhole now k (transition_of k now c).steps
call-whole k now c can =
    each-answer IsWhole (λ k. Unit {0}) c now (λ k step i. tt) (λ k e is. is) (λ k x i is. sending-long c now k x can is) (λ k row u i is. update-long u)
    k (transition_of k now c).steps tt (call-fits k now c)
