-- A home registration is read as it was written.
use Rattle.std.proofs.Common.{◌≡◌, ℕ, ◌+◌, ◌^◌, ◌<◌, ◌≤◌, List, length, Bool, true, false, refl, ap, subst, ◌∙◌, arith}
use Rattle.std.specs.Prelude.{Some, None, Result, Ok, if◌then◌else◌, not, nat_lt}
use Rattle.std.specs.Result.{result_ok}
use Rattle.std.proofs.lemmas.Bool.{ne_eqb, ltb-true}
use Rattle.std.proofs.lemmas.Bool.Decides.{nat_tests}
use Rattle.mip_words.specs.Numbers.{number_bytes}
use Rattle.mip_words.specs.declared.address.Address.{Address}
use Rattle.mip_ipv6.specs.declared.head.Head.{Head}
use Rattle.mip_ipv6.specs.Packet.{Packet, is_plain, source_of, destination_of}
use Rattle.mip_ipv6.specs.PacketLaws.{IsInRange}
use Rattle.mip_ipv6.specs.Reading.{packet_of}
use Rattle.mip_ipv6.specs.Spelling.{behind_bytes}
use Rattle.mip_ipv6.specs.Sum.{checksum_of}
use Rattle.mip_ipv6.proofs.Sums.{length-with_number_at}
use Rattle.mip_ipv6.proofs.Canonical.{packet_back}
use Rattle.mip_mobhdr.specs.Said.{Said}
use Rattle.mip_mobhdr.specs.Said.Said.{Update}
use Rattle.mip_mobhdr.specs.OptionValues.{Values, nothing}
use Rattle.mip_mobhdr.specs.OptionValuesLaws as options
use Rattle.mip_mobhdr.specs.declared.fault.Fault.{Fault}
use Rattle.mip_mobhdr.specs.Reading.{message_of}
use Rattle.mip_mobhdr.specs.Spelling.{field_bytes, message_bytes, unsummed, rest_bytes}
use Rattle.mip_mobhdr.specs.OptionWriting.{canonical, closed, with_authorization, with_alternate as writes_alternate, with_number, with_nonces, with_advice, aligned, padding, gap}
use Rattle.mip_mobhdr.proofs.Drafts.{read_back_is}
use Rattle.mip_mobhdr.proofs.OptionsCanonical.{canonical_spelled}
use Rattle.mip_packets.specs.Packets.{node_head, straight, message_packet}
use Rattle.mip_packets.proofs.Sizes.{not_too_big}
use Rattle.mip_rules_mobile.specs.Sendings.{registration_packet, deregistration_packet, with_alternate}
use Rattle.mip_past.specs.Registering.{agent_by, packet_agent}
use Rattle.mip_past.specs.Sending.{IsAway, IsReadAsSent}

abbrev registers : (sequence : ℕ) → Address → Said
registers sequence careof = Update sequence true true false false 900 (with_alternate careof)

abbrev deregisters : (sequence : ℕ) → Said
deregisters sequence = Update sequence true true false false 0 nothing

length_registration : (sequence : ℕ) (careof : Address) → length (unsummed (registers sequence careof)) ≡ 32
unfolding unsummed rest_bytes canonical closed with_authorization writes_alternate with_number with_nonces with_advice aligned padding gap number_bytes
length_registration sequence careof = refl

length_deregistration : (sequence : ℕ) → length (unsummed (deregisters sequence)) ≡ 16
unfolding unsummed rest_bytes canonical closed with_authorization writes_alternate with_number with_nonces with_advice aligned padding gap number_bytes
length_deregistration sequence = refl

-- a packet with a short mobility message is read as it was written
reads_back : (head : Head) (m : Said) (n : ℕ) → length (unsummed m) ≡ n → 6 ≤ n → n ≤ 2048 → is_plain head ≡ true → IsInRange head
    → packet_of (message_packet head m) ≡ Ok (let p : Packet = record { head = head; body = message_bytes (source_of head) (destination_of head) m } in p)
unfolding message_packet message_bytes
reads_back head m n long six short plain range =
    packet_back (record { head = head; body = message_bytes (source_of head) (destination_of head) m }) plain range small
  where
    size : length (message_bytes (source_of head) (destination_of head) m) ≡ length (unsummed m)
    size = length-with_number_at 4 (checksum_of (source_of head) (destination_of head) 135 (unsummed m) 4) (unsummed m) (omega (arith, long, six))

    outer : List ℕ
    outer = behind_bytes (record { head = head; body = message_bytes (source_of head) (destination_of head) m })

    small : length outer < 65536
    small = by (nat_lt (length outer) 65536) refl
      where
        by : (b : Bool) → nat_lt (length outer) 65536 ≡ b → length outer < 65536
        by true is = ltb-true (length outer) 65536 is
        by false is = absurd (not_too_big head (message_bytes (source_of head) (destination_of head) m) (omega (arith, size, long, short)) (let more : 65535 < length outer = grind (arith, nat_tests) in more))

message_back : (source destination : Address) (sequence lifetime : ℕ) (o : Values) → sequence < 65536 → lifetime < 65536 → options.IsInRange o
    → message_of source destination (message_bytes source destination (Update sequence true true false false lifetime o)) ≡ Ok (Update sequence true true false false lifetime o)
message_back source destination sequence lifetime o one two range =
    read_back_is source destination (Update sequence true true false false lifetime o) (message_bytes source destination (Update sequence true true false false lifetime o)) (one, two) (canonical_spelled (6 + length (field_bytes (Update sequence true true false false lifetime o))) o range) refl

plain_options : options.IsInRange nothing
plain_options = record {
  advice_fits = λ units is. absurd cc;
  alternate_fits = λ address is. absurd cc;
  nonces_fit = λ i is. absurd cc;
  number_fits = λ n is. absurd cc;
  authorization_fits = λ bytes is. absurd cc;
}

alternate_options : (careof : Address) → careof.0 < 2 ^ 128 → options.IsInRange (with_alternate careof)
alternate_options careof fits = record {
  advice_fits = λ units is. absurd cc;
  alternate_fits = λ address is. let same : careof ≡ address = cc in subst (λ (a : Address). a.0 < 2 ^ 128) same fits;
  nonces_fit = λ i is. absurd cc;
  number_fits = λ n is. absurd cc;
  authorization_fits = λ bytes is. absurd cc;
}

-- a deregistration asks none
pub ends_none : (home agent : Address) (sequence : ℕ) → home.0 < 2 ^ 128 → agent.0 < 2 ^ 128 → sequence < 65536 → packet_agent (packet_of (deregistration_packet home agent sequence)) ≡ None
unfolding deregistration_packet
ends_none home agent sequence home_fits agent_fits few =
    ap packet_agent (reads_back (straight home agent 135) (deregisters sequence) 16 (length_deregistration sequence) (omega arith) (omega arith) refl (record {
      source = home_fits;
      destination = agent_fits;
      class = omega arith;
      route = tt;
      home = tt;
    }))
    ∙ ap (λ (r : Result Said Fault). agent_by (record { head = straight home agent 135; body = message_bytes home agent (deregisters sequence) }) (result_ok r)) (message_back home agent sequence 0 nothing few (omega arith) plain_options)

module _ (home careof agent : Address) (sequence : ℕ) (away : IsAway home careof agent) (few : sequence < 65536) where
  abbrev out : Head
  out = node_head careof agent None (Some home) 135

  asks : packet_agent (packet_of (message_packet out (registers sequence careof))) ≡ Some agent
  asks =
      ap packet_agent (reads_back out (registers sequence careof) 32 (length_registration sequence careof) (omega arith) (omega arith) away.routable (record {
        source = away.careof_fits;
        destination = away.agent_fits;
        class = omega arith;
        route = tt;
        home = away.home_fits;
      }))
      ∙ ap (λ (r : Result Said Fault). agent_by (record { head = out; body = message_bytes home agent (registers sequence careof) }) (result_ok r)) (message_back home agent sequence 900 (with_alternate careof) few (omega arith) (alternate_options careof away.careof_fits))
      ∙ ap (λ (b : Bool). if not b then Some agent else None) (ne_eqb careof.0 home.0 away.apart)

pub read_as_sent : (home careof agent : Address) (sequence : ℕ) → IsAway home careof agent → sequence < 65536 → IsReadAsSent home careof agent sequence
unfolding registration_packet
read_as_sent home careof agent sequence away few = record { registers = asks home careof agent sequence away few; ends = ends_none home agent sequence away.home_fits away.agent_fits few }
