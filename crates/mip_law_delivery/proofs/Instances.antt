-- What the laws ask of a node that is handed data can be met: one packet, and a node of each kind.
use Rattle.std.proofs.Common.{◌≡◌, ℕ, ◌^◌, ◌<◌, List, [], length, true, refl, ap, ◌∙◌, arith, length-append}
use Rattle.std.specs.Prelude.{Some, None, Ok}
use Rattle.mip_words.specs.declared.address.Address.{Address}
use Rattle.mip_ipv6.specs.Packet.{Packet}
use Rattle.mip_ipv6.specs.Reading.{packet_of}
use Rattle.mip_ipv6.specs.Spelling.{first_number, second_number, behind_bytes, fixed_bytes, packet_bytes}
use Rattle.mip_ipv6.proofs.Canonical.{packet_back, length_fixed, length_behind, length_routing, length_options}
use Rattle.mip_nonce.specs.Secrets.{Life}
use Rattle.mip_packets.specs.Packets.{straight}
use Rattle.mip_ipv6.specs.Tunnel.{lowered_packet, tunnel_packet, encapsulated}
use Rattle.mip_ipv6.specs.TunnelLaws.{lowered_if_read}
use Rattle.mip_ipv6.proofs.Tunnels.{packet_of_lowered, packet_of_encapsulated, opened_tunnel}
use Rattle.mip_reception.specs.declared.address_match.AddressMatch.{AddressMatch}
use Rattle.mip_reception.specs.Checks.{checked}
use Rattle.mip_rules_correspondent.specs.Questions as correspondents
use Rattle.mip_rules_correspondent.specs.Rules.{standing_of, place_in}
use Rattle.mip_rules_agent.specs.declared.identity.Identity as agent
use Rattle.mip_rules_agent.specs.Known as agents
use Rattle.mip_rules_agent.specs.Questions.{careof_at}
use Rattle.mip_rules_agent.specs.Rules as agent_rules
use Rattle.mip_rules_agent.specs.Rules.{is_careof}
use Rattle.mip_rules_mobile.specs.declared.attachment.Attachment.TheVariants.{Away}
use Rattle.mip_rules_mobile.specs.Known.{Known}
use Rattle.mip_rules_mobile.specs.Questions.{fresh}
use Rattle.mip_rules_mobile.specs.ReceivingRules as mobiles
use Rattle.mip_law_delivery.specs.Legs.{CanBeSent, IsFromHome, IsDataHere, IsDataStraight, IsDataTunnelled}
use Rattle.mip_law_delivery.proofs.Passing.{data_passed}

abbrev pub address : ℕ → Address
address n = record { 0 = n }

-- data without a payload, from one address to another
abbrev pub data_from : ℕ → ℕ → Packet
data_from a b = record { head = straight (address a) (address b) 17; body = [] }

bytes_from : ℕ → ℕ → List ℕ
bytes_from a b = packet_bytes (data_from a b)

behind_from : (a b : ℕ) → length (behind_bytes (data_from a b)) ≡ 0
behind_from a b = length_behind (data_from a b) ∙ omega (arith, length_routing None 17, length_options None 17)

pub can_from : (a b : ℕ) → a < 2 ^ 128 → b < 2 ^ 128 → CanBeSent (straight (address a) (address b) 17) []
can_from a b source destination = record {
  plain = refl;
  range = record { source = source; destination = destination; class = omega arith; route = tt; home = tt };
  size = omega (arith, behind_from a b);
}

read_from : (a b : ℕ) → a < 2 ^ 128 → b < 2 ^ 128 → packet_of (bytes_from a b) ≡ Ok (data_from a b)
unfolding bytes_from
read_from a b source destination =
    let can = can_from a b source destination in packet_back (data_from a b) can.plain can.range can.size

length_from : (a b : ℕ) → length (bytes_from a b) ≡ 40
unfolding bytes_from packet_bytes
length_from a b =
    let p : Packet = data_from a b in
    let first : ℕ = first_number p.head.route (second_number p.head.home p.head.proto) in
    omega (arith, length-append (fixed_bytes p.head first (length (behind_bytes p))) (behind_bytes p), length_fixed p.head first (length (behind_bytes p)), behind_from a b)

pub passes_from : (s : AddressMatch) (place a b : ℕ) → s.is_mine ≡ true → checked s place (data_from a b) ≡ Ok None
passes_from s place a b mine = data_passed s place (data_from a b) (λ e. omega (arith, e)) mine (λ e. absurd cc) (λ e. absurd cc)

module _ (secrets : Life) (now : ℕ) where
  -- a correspondent with address 2
  here : IsDataHere (record { own = address 2; secrets = secrets; room = 16 }) (correspondents.fresh 16 1) now (bytes_from 1 2) (data_from 1 2)
  here = record {
    read = read_from 1 2 (omega arith) (omega arith);
    plain = refl;
    passes = passes_from (standing_of (record { own = address 2; secrets = secrets; room = 16 }) (correspondents.fresh 16 1) now (straight (address 1) (address 2) 17)) (place_in (bytes_from 1 2) (data_from 1 2)) 1 2 refl;
  }

  -- a mobile at home, with home address 2
  abbrev at_home : Known
  at_home = fresh (address 2) None 1 secrets

  outside : IsDataStraight at_home now (bytes_from 1 2) (data_from 1 2)
  outside = record {
    read = read_from 1 2 (omega arith) (omega arith);
    plain = refl;
    passes = passes_from (mobiles.standing_of at_home now (straight (address 1) (address 2) 17)) (place_in (bytes_from 1 2) (data_from 1 2)) 1 2 refl;
  }

  -- a mobile away at address 3, whose agent has address 9
  abbrev away : Known
  away = record at_home { standing = Away (address 3); agent = Some (address 9) }

  tunnelled : IsDataTunnelled away now (encapsulated (address 9) (address 3) (bytes_from 1 2)) (tunnel_packet (address 9) (address 3) (bytes_from 1 2)) (lowered_packet (data_from 1 2))
  tunnelled =
      let outer : Packet = tunnel_packet (address 9) (address 3) (bytes_from 1 2) in
      let p : Packet = lowered_packet (data_from 1 2) in
      record {
        read = packet_of_encapsulated (address 9) (address 3) (bytes_from 1 2) (omega arith) (omega arith) (omega (arith, length_from 1 2));
        tunnel = refl;
        passes = data_passed (mobiles.standing_of away now outer.head) (place_in (encapsulated (address 9) (address 3) (bytes_from 1 2)) outer) outer (λ e. omega (arith, e)) refl (λ e. absurd cc) (λ e. absurd cc);
        agent = address 9;
        is_agent = refl;
        inside = opened_tunnel (address 9) (address 3) (bytes_from 1 2) (data_from 1 2) (read_from 1 2 (omega arith) (omega arith));
        plain = refl;
        home = refl;
        straight = refl;
        inner_passes = data_passed (mobiles.inner_standing away now p.head) (place_in outer.body p) p (λ e. omega (arith, e)) refl (λ e. absurd cc) (λ e. absurd cc);
      }

-- an agent with address 9, which is no home of its own, that has home 5 registered at address 3
abbrev me : agent.Identity
me = record { own = address 9; preference = 0; life = 1800; room = 16 }

from_home : (knows : agents.Known) → careof_at knows 0 (address 9) ≡ None → is_careof knows 0 (address 5) (address 3) ≡ true → IsFromHome me knows 0 (encapsulated (address 3) (address 9) (bytes_from 5 7)) (tunnel_packet (address 3) (address 9) (bytes_from 5 7)) (lowered_packet (data_from 5 7))
from_home knows own registered =
    let outer : Packet = tunnel_packet (address 3) (address 9) (bytes_from 5 7) in
    record {
      read = packet_of_encapsulated (address 3) (address 9) (bytes_from 5 7) (omega arith) (omega arith) (omega (arith, length_from 5 7));
      tunnel = refl;
      exit = refl;
      own = own;
      passes = data_passed (agent_rules.standing_of me knows 0 outer.head) (agent_rules.place_in (encapsulated (address 3) (address 9) (bytes_from 5 7)) outer) outer (λ e. omega (arith, e)) refl (λ e. absurd cc) (λ e. absurd cc);
      inside = packet_of_lowered (bytes_from 5 7) ∙ ap lowered_if_read (read_from 5 7 (omega arith) (omega arith));
      registered = registered;
      further = λ e. omega (arith, e);
      plain = λ e. omega (arith, e);
    }
