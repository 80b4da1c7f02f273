-- Packets of data on their way, straight and in a tunnel: what is read of their bytes.
use Rattle.std.proofs.Common.{◌≡◌, ◌≢◌, ℕ, ◌+◌, ◌-◌, ◌<◌, ◌≤◌, ◌^◌, List, length, true, refl, ap, ◌∙◌, arith, length-append}
use Rattle.std.specs.Prelude.{Option, Some, None, Ok, ◌==◌}
use Rattle.std.proofs.lemmas.Bool.{cond-false, ne_eqb}
use Rattle.mip_words.specs.declared.address.Address.{Address}
use Rattle.mip_ipv6.specs.declared.head.Head.{Head}
use Rattle.mip_ipv6.specs.Packet.{Packet, is_plain}
use Rattle.mip_ipv6.specs.PacketLaws.{IsInRange}
use Rattle.mip_ipv6.specs.Reading.{packet_of}
use Rattle.mip_ipv6.specs.Spelling.{routing_bytes, options_bytes, first_number, second_number, behind_bytes, fixed_bytes, packet_bytes}
use Rattle.mip_ipv6.proofs.Canonical.{packet_back, length_fixed, length_behind, length_routing, length_options}
use Rattle.mip_entries.specs.declared.entry.Entry.{Entry}
use Rattle.mip_packets.specs.Says.{innermost}
use Rattle.mip_packets.proofs.Nesting.{within_if_read, innermost_is}
use Rattle.mip_packets.specs.Packets.{data_packet}
use Rattle.mip_ipv6.specs.Tunnel.{lowered, encapsulated}
use Rattle.mip_ipv6.specs.TunnelLaws.{lowered_if_read}
use Rattle.mip_ipv6.proofs.Tunnels.{packet_of_lowered, packet_of_encapsulated, length_lowered}
use Rattle.mip_provenance.specs.Entries.{packet_in}
use Rattle.mip_history.specs.Delivery.{handed_over}
use Rattle.mip_law_delivery.specs.Legs.{CanBeSent}
use Rattle.mip_law_delivery.specs.Answers.{HasData}

-- the way of data: from and to these addresses, with a routing header and a Home Address option where there are any
pub record Way : Type 0 where
  pub source : Address
  pub destination : Address
  pub route : Option Address
  pub home : Option Address
  pub proto : ℕ
  pub payload : List ℕ

abbrev pub head_on : Way → ℕ → Head
head_on w hop = record { source = w.source; destination = w.destination; hop = hop; class = 0; flow = 0; route = w.route; home = w.home; proto = w.proto }

abbrev pub data_on : Way → ℕ → Packet
data_on w hop = record { head = head_on w hop; body = w.payload }

-- these bytes are data on its way, and fit into a tunnel
pub record Carries (w : Way) (hop : ℕ) (bytes : List ℕ) : Type 0 where
  pub read : packet_of bytes ≡ Ok (data_on w hop)
  pub size : length bytes ≤ 65535

-- a tunnel packet with such bytes in it
pub record Tunnels (entry exit : Address) (w : Way) (hop : ℕ) (bytes : List ℕ) : Type 0 where
  pub outer : ℕ
  pub inner : List ℕ
  pub read : packet_of bytes ≡ Ok (record { head = record { source = entry; destination = exit; hop = outer; class = 0; flow = 0; route = None; home = None; proto = 41 }; body = inner })
  pub inside : Carries w hop inner

pub carries_lowered : (w : Way) (hop : ℕ) (bytes : List ℕ) → Carries w hop bytes → Carries w (hop - 1) (lowered bytes)
carries_lowered w hop bytes c = record {
  read = packet_of_lowered bytes ∙ ap lowered_if_read c.read;
  size = omega (arith, c.size, length_lowered bytes);
}

-- as it is handed over, its hop limit may be one less
pub record Over (w : Way) (hop : ℕ) (bytes : List ℕ) : Type 0 where
  pub left : ℕ
  pub near : hop ≤ left + 1
  pub carries : Carries w left bytes

pub carried_over : (w : Way) (hop : ℕ) (bytes : List ℕ) (link : Option ℕ) → Carries w hop bytes → Over w hop (handed_over bytes link)
carried_over w hop bytes None c = record { left = hop; near = omega arith; carries = c }
carried_over w hop bytes (Some l) c = record { left = hop - 1; near = omega arith; carries = carries_lowered w hop bytes c }

pub tunnelled_over : (entry exit : Address) (w : Way) (hop : ℕ) (bytes : List ℕ) (link : Option ℕ) → Tunnels entry exit w hop bytes → Tunnels entry exit w hop (handed_over bytes link)
tunnelled_over entry exit w hop bytes None t = t
tunnelled_over entry exit w hop bytes (Some l) t = record { outer = t.outer - 1; inner = t.inner; read = packet_of_lowered bytes ∙ ap lowered_if_read t.read; inside = t.inside }

-- what goes into a tunnel loses one of its hop limit
abbrev pub carries_into : (entry exit : Address) (w : Way) (hop : ℕ) (bytes : List ℕ) → entry.0 < 2 ^ 128 → exit.0 < 2 ^ 128 → Carries w hop bytes → Tunnels entry exit w (hop - 1) (encapsulated entry exit bytes)
carries_into entry exit w hop bytes first second c = record {
  outer = 64;
  inner = lowered bytes;
  read = packet_of_encapsulated entry exit bytes first second (omega (arith, c.size));
  inside = carries_lowered w hop bytes c;
}

-- extension headers are short
routing_short : (route : Option Address) (next : ℕ) → length (routing_bytes route next) ≤ 24
routing_short None next = omega (arith, length_routing None next)
routing_short (Some a) next = omega (arith, length_routing (Some a) next)

options_short : (home : Option Address) (next : ℕ) → length (options_bytes home next) ≤ 24
options_short None next = omega (arith, length_options None next)
options_short (Some a) next = omega (arith, length_options (Some a) next)

-- what stands behind the fixed header of data that is sent is short
behind_short : (w : Way) → length w.payload ≤ 512 → length (behind_bytes (data_on w 64)) ≤ 560
behind_short w short = omega (arith, length_behind (data_on w 64), routing_short w.route (second_number w.home w.proto), options_short w.home w.proto, short)

pub can_be_sent : (w : Way) → is_plain (head_on w 64) ≡ true → IsInRange (head_on w 64) → length w.payload ≤ 512 → CanBeSent (head_on w 64) w.payload
can_be_sent w plain range short = record { plain = plain; range = range; size = omega (arith, behind_short w short) }

-- it is read as it was made
pub carries_sent : (w : Way) → CanBeSent (head_on w 64) w.payload → length w.payload ≤ 512 → Carries w 64 (data_packet (head_on w 64) w.payload)
unfolding data_packet packet_bytes
carries_sent w can short =
    let p : Packet = data_on w 64 in
    let first : ℕ = first_number w.route (second_number w.home w.proto) in
    record {
      read = packet_back p can.plain can.range can.size;
      size =
          omega (arith, length-append (fixed_bytes p.head first (length (behind_bytes p))) (behind_bytes p), length_fixed p.head first (length (behind_bytes p)), behind_short w short);
    }

-- its data is found at any depth of tunnels
carried_data : (w : Way) (hop : ℕ) (bytes : List ℕ) → w.proto ≢ 41 → Carries w hop bytes → innermost bytes ≡ Some (data_on w hop)
carried_data w hop bytes plain c = innermost_is bytes ∙ ap within_if_read c.read ∙ cond-false (w.proto == 41) _ _ (ne_eqb w.proto 41 plain)

pub has_carried : (past : List Entry) (k : ℕ) (w : Way) (hop : ℕ) (bytes : List ℕ) → packet_in past k ≡ Some bytes → w.proto ≢ 41 → Carries w hop bytes → HasData past k w.proto w.payload
has_carried past k w hop bytes posted plain c =
    record { packet = bytes; posted = posted; inner = data_on w hop; read = carried_data w hop bytes plain c; is_proto = refl; is_payload = refl }

pub has_tunnelled : (past : List Entry) (k : ℕ) (entry exit : Address) (w : Way) (hop : ℕ) (bytes : List ℕ) → packet_in past k ≡ Some bytes → w.proto ≢ 41 → Tunnels entry exit w hop bytes → HasData past k w.proto w.payload
has_tunnelled past k entry exit w hop bytes posted plain t =
    record { packet = bytes; posted = posted; inner = data_on w hop; read = innermost_is bytes ∙ ap within_if_read t.read ∙ carried_data w hop t.inner plain t.inside; is_proto = refl; is_payload = refl }
