-- What is said stays the same on a packet's way.
use Rattle.std.proofs.Common.{◌≡◌, ℕ, ◌<◌, ◌^◌, List, length, refl, sym, ap, ◌∙◌, arith, cond}
use Rattle.std.specs.Prelude.{Bool, true, false, not, ◌==◌, Option, Some, Result, Ok, Err}
use Rattle.std.specs.Option.{option_map_or}
use Rattle.std.specs.Result.{result_ok}
use Rattle.std.proofs.lemmas.Bool.{cond_both, cond-true, cond-false, eqb-true, eq-eqb, ne_eqb, not-false}
use Rattle.mip_words.specs.declared.address.Address.{Address}
use Rattle.mip_ipv6.specs.declared.not_packet.NotPacket.{NotPacket}
use Rattle.mip_ipv6.specs.Packet.{Packet, source_of, destination_of}
use Rattle.mip_ipv6.specs.Reading.{packet_of}
use Rattle.mip_mobhdr.specs.declared.fault.Fault.{Fault}
use Rattle.mip_mobhdr.specs.Said.{Said}
use Rattle.mip_mobhdr.specs.Reading.{message_of}
use Rattle.mip_ipv6.specs.Tunnel.{lowered, lowered_packet, tunnel_packet, encapsulated, opened}
use Rattle.mip_ipv6.specs.TunnelLaws.{lowered_if_read}
use Rattle.mip_ipv6.specs.declared.exit_fault.ExitFault.{ExitFault}
use Rattle.mip_ipv6.proofs.Tunnels.{packet_of_lowered, packet_of_encapsulated}
use Rattle.mip_packets.specs.Says.{innermost, message_in, Carried, Other, said_by, says, carried}
use Rattle.mip_packets.proofs.Nesting.{within_if_read, innermost_is}

-- what a packet that was read says
abbrev pub said_within : Packet → Carried
said_within p = cond (p.head.proto == 41) (carried p.body) (says p)

abbrev pub said_if_read : Result Packet NotPacket → Carried
said_if_read (Ok p) = said_within p
said_if_read (Err fault) = Other

-- one packet further in
pub carried_is : (bytes : List ℕ) → carried bytes ≡ said_if_read (packet_of bytes)
unfolding carried
carried_is bytes = ap (λ (o : Option Packet). option_map_or says o Other) (innermost_is bytes) ∙ by (packet_of bytes)
  where
    at : (b : Bool) (p : Packet) → option_map_or says (cond b (innermost p.body) (Some p)) Other ≡ cond b (option_map_or says (innermost p.body) Other) (says p)
    at true p = refl
    at false p = refl

    by : (r : Result Packet NotPacket) → option_map_or says (within_if_read r) Other ≡ said_if_read r
    by (Ok p) = at (p.head.proto == 41) p
    by (Err fault) = refl

says_lowered : (p : Packet) → says (lowered_packet p) ≡ says p
unfolding says
says_lowered p = refl

pub carried_lowered : (bytes : List ℕ) → carried (lowered bytes) ≡ carried bytes
carried_lowered bytes =
    carried_is (lowered bytes) ∙ ap said_if_read (packet_of_lowered bytes) ∙ by (packet_of bytes) ∙ sym (carried_is bytes)
  where
    by : (r : Result Packet NotPacket) → said_if_read (lowered_if_read r) ≡ said_if_read r
    by (Ok p) = ap (λ (c : Carried). cond (p.head.proto == 41) (carried p.body) c) (says_lowered p)
    by (Err fault) = refl

-- a packet whose body is a packet says what that one says
pub carried_outer : (bytes : List ℕ) (p : Packet) → packet_of bytes ≡ Ok p → p.head.proto ≡ 41 → carried bytes ≡ carried p.body
carried_outer bytes p e tunnel =
    carried_is bytes ∙ ap said_if_read e ∙ cond-true (p.head.proto == 41) (carried p.body) (says p) (eq-eqb p.head.proto 41 tunnel)

-- any other says what its message says
pub carried_plain : (bytes : List ℕ) (p : Packet) → packet_of bytes ≡ Ok p → (p.head.proto ≡ 41 → ⊥) → carried bytes ≡ says p
carried_plain bytes p e other =
    carried_is bytes ∙ ap said_if_read e ∙ cond-false (p.head.proto == 41) (carried p.body) (says p) (ne_eqb p.head.proto 41 other)

pub carried_encapsulated : (entry exit : Address) (bytes : List ℕ) → entry.0 < 2 ^ 128 → exit.0 < 2 ^ 128 → length bytes < 65536 → carried (encapsulated entry exit bytes) ≡ carried bytes
carried_encapsulated entry exit bytes first second fits =
    carried_outer (encapsulated entry exit bytes) (tunnel_packet entry exit bytes) (packet_of_encapsulated entry exit bytes first second fits) refl
    ∙ carried_lowered bytes

-- only packets whose body is a packet are opened
opened_is : (entry : Address) (p inner : Packet) → opened entry p ≡ Ok inner → p.head.proto ≡ 41
unfolding opened
opened_is entry p inner =
    cond_both (not (p.head.proto == 41)) _ _ (λ (r : Result Packet ExitFault). r ≡ Ok inner → p.head.proto ≡ 41)
    (λ other e. absurd cc) (λ tunnel e. eqb-true p.head.proto 41 (not-false _ tunnel))

pub carried_opened : (bytes : List ℕ) (p inner : Packet) (entry : Address) → packet_of bytes ≡ Ok p → opened entry p ≡ Ok inner → carried bytes ≡ carried p.body
carried_opened bytes p inner entry read e = carried_outer bytes p read (opened_is entry p inner e)

-- a packet with a mobility message says what the message says
pub carried_message : (bytes : List ℕ) (p : Packet) (m : Said) → packet_of bytes ≡ Ok p → p.head.proto ≡ 135 → message_of (source_of p.head) (destination_of p.head) p.body ≡ Ok m
    → carried bytes ≡ said_by p.head.source (source_of p.head) p.head.destination p.body m
unfolding says
carried_message bytes p m read proto e =
    let message : message_in p ≡ Some m = cond-true _ _ _ (eq-eqb p.head.proto 135 proto) ∙ ap (λ (r : Result Said Fault). result_ok r) e in
    carried_plain bytes p read (λ t. omega (arith, proto, t))
    ∙ ap (λ (o : Option Said). option_map_or (said_by p.head.source (source_of p.head) p.head.destination p.body) o Other) message

pub carried_other : (bytes : List ℕ) (p : Packet) → packet_of bytes ≡ Ok p → (p.head.proto ≡ 135 → ⊥) → (p.head.proto ≡ 41 → ⊥) → carried bytes ≡ Other
unfolding says
carried_other bytes p read other plain =
    carried_plain bytes p read plain
    ∙ ap (λ (o : Option Said). option_map_or (said_by p.head.source (source_of p.head) p.head.destination p.body) o Other)
    (cond-false _ _ _ (ne_eqb p.head.proto 135 other))
