-- What steady steps and acknowledgements keep, a packet that is handed over keeps; but for one that is dropped at once,
-- perhaps with an answer to its source, and one for the correspondent part.
use Rattle.std.proofs.Common.{◌≡◌, ℕ, List, [], ◌∷◌, refl}
use Rattle.std.specs.Prelude.{Option, Some, None, Bool, true, false, not, ◌==◌, ◌&&◌, is_some, is_none, if◌then◌else◌, Result, Ok, Err}
use Rattle.mip_words.specs.Protocols.{ipv6, icmpv6, no_next_header, mobility_header}
use Rattle.mip_words.specs.declared.address.Address.{Address}
use Rattle.mip_words.specs.declared.shield.Shield.{Shield}
use Rattle.mip_words.specs.declared.why.Why.{Why}
use Rattle.mip_words.specs.declared.why.Why.TheVariants as whys
use Rattle.mip_ipv6.specs.declared.not_packet.NotPacket.{NotPacket}
use Rattle.mip_ipv6.specs.Packet.{Packet, source_of, destination_of}
use Rattle.mip_ipv6.specs.Reading.{packet_of}
use Rattle.mip_mobhdr.specs.Said.{Said}
use Rattle.mip_mobhdr.specs.Said.Said.{Refresh, HomeTest, CareofTest, Acknowledgement, Error}
use Rattle.mip_mobhdr.specs.OptionValues.{Values}
use Rattle.mip_icmp.specs.declared.fault.IcmpFault.{IcmpFault}
use Rattle.mip_icmp.specs.declared.options.IcmpSet.{IcmpSet}
use Rattle.mip_icmp.specs.declared.prefix_info.PrefixInfo.{PrefixInfo}
use Rattle.mip_icmp.specs.Said as icmp
use Rattle.mip_icmp.specs.Reading.{icmp_of}
use Rattle.mip_ipv6.specs.declared.exit_fault.ExitFault.{ExitFault}
use Rattle.mip_ipv6.specs.declared.exit_fault.ExitFault.TheVariants.{NotTunnel, WrongEntry, Inner}
use Rattle.mip_ipv6.specs.Tunnel.{opened}
use Rattle.mip_reception.specs.Says.{message_in}
use Rattle.mip_reception.specs.declared.refusal.Refusal.{Refusal}
use Rattle.mip_reception.specs.Words.{packet_why}
use Rattle.mip_reception.specs.Checks.{checked}
use Rattle.mip_reception.proofs.Reasons.{packet_why-dropped, refused-right}
use Rattle.mip_entries.specs.Reasons.{is_dropped_why}
use Rattle.mip_rules_correspondent.specs.Rules.{is_for_part, place_in}
use Rattle.mip_rules_mobile.specs.declared.attachment.Attachment.{Attachment}
use Rattle.mip_rules_mobile.specs.declared.attachment.Attachment.TheVariants.{Detached, AtHome, Away}
use Rattle.mip_rules_mobile.specs.declared.home_update.HomeUpdate.{HomeUpdate}
use Rattle.mip_rules_mobile.specs.Calls as calls
use Rattle.mip_rules_mobile.specs.Calls.{Call}
use Rattle.mip_rules_mobile.specs.Steps.{Drops, Finds, Chooses, Learns, Stops}
use Rattle.mip_rules_mobile.specs.HomeQuestions.{home_of, agent_of}
use Rattle.mip_rules_mobile.specs.TimerQuestions.{seeking}
use Rattle.mip_rules_mobile.specs.Transitions.{Transition, noted}
use Rattle.mip_rules_mobile.specs.HomeRules.{home_answered, takes_home_ack, registers}
use Rattle.mip_rules_mobile.specs.IcmpRules.{agents_named, is_matched, drops_icmp, finds, takes_discovery_reply, is_from_agent, learns, takes_prefix_reply, by_icmp, takes_icmp}
use Rattle.mip_rules_mobile.specs.ReceivingRules.{acks_by, takes_ack, takes_for_part, by_message, by_role, refuses, after_inner_checks, inner_standing, takes_inner, opens_with, opens_from, opens, after_checks, standing_of, receives, takes}
use Rattle.mip_rules_mobile.specs.Coming.{IsOfTake}
use Rattle.mip_rules_mobile.proofs.Steady.{Goes, at-noted}
use Rattle.mip_rules_mobile.proofs.Checks.{checked-in}
use Rattle.mip_rules_mobile.proofs.Trusts.{shielded-not, handed-home, handed-careof, answer-counts, answer-is, acknowledged-is}
use Rattle.mip_rules_mobile.proofs.HomeWalks.{Acks, every-home_ack, every-registers}
use Rattle.mip_rules_mobile.proofs.PeerWalks.{every-home_test, every-careof_test, every-ack_of, every-error, every-refresh}

module _ (c : Call) (P : Transition → Type 0) (more : Goes c P) (acks : Acks c P) (Q : Transition → Type 0) (done : (u : Transition) → P u → Q u) (t : Transition) (p : P t)
    (drops : (number : ℕ) (why : Why) → is_dropped_why why ≡ true → Q (noted (Drops number why) t)) where
  every-ack : (number : ℕ) (tunnelled : Bool) (shield : Option Shield) (packet : Packet) → IsOfTake c t.known t.now number tunnelled shield packet
      → (status : ℕ) (key : Bool) (sequence lifetime : ℕ) (options : Values) → message_in packet ≡ Some (Acknowledgement status key sequence lifetime options)
      → Q (takes_ack number tunnelled shield packet status sequence lifetime options t)
  unfolding takes_ack
  every-ack number tunnelled shield packet handed status key sequence lifetime options says =
      by (home_answered t.known tunnelled shield (source_of packet.head) status sequence) refl
    where
      by : (u : Option HomeUpdate) → home_answered t.known tunnelled shield (source_of packet.head) status sequence ≡ u
          → Q (acks_by u number (source_of packet.head) status sequence lifetime options.authorization packet.body t)
      by (Some u) is =
          let counts = answer-counts t.known.standing tunnelled shield (source_of packet.head) status sequence t.known.latest u is in
          done (takes_home_ack u status sequence lifetime t)
          (every-home_ack c P more acks u status sequence lifetime t counts.there
          (answer-is c t.known t.now number tunnelled shield packet handed status key sequence lifetime options says u counts) p)
      by None is =
          every-ack_of c P more acks Q done t p drops number (source_of packet.head) status sequence lifetime options.authorization packet.body
          (λ row u placed pending right low. acknowledged-is c t.known t.now number tunnelled shield packet handed status key sequence lifetime options says row u placed pending right low)

  every-discovery : (number identifier : ℕ) (agents : List ℕ) → Q (takes_discovery_reply number identifier agents t)
  unfolding takes_discovery_reply
  every-discovery number identifier agents = by (is_matched t.known.discovery identifier) t.known.standing (agents_named agents) refl
    where
      by : (right : Bool) (s : Attachment) (list : List Address) → t.known.standing ≡ s → Q (if right then finds number s list t else drops_icmp number t)
      by false s list here = drops number whys.Icmp refl
      by true (Away careof) (agent ∷ others) here =
          let one = noted (Finds (agent ∷ others)) t in
          let two = noted (Stops seeking) one in
          let at1 = at-noted (Away careof) (home_of t.known) (Finds (agent ∷ others)) t refl (here, refl) in
          let at2 = at-noted (Away careof) (home_of t.known) (Stops seeking) one refl at1 in
          let at3 = at-noted (Away careof) (home_of t.known) (Chooses agent) two refl at2 in
          done (registers careof (noted (Chooses agent) two))
          (every-registers c P more careof (noted (Chooses agent) two) at3.0
          (more (Chooses agent) two refl tt (more (Stops seeking) one refl refl (more (Finds (agent ∷ others)) t refl tt p))))
      by true (Away careof) [] here = drops number whys.Icmp refl
      by true Detached list here = drops number whys.Icmp refl
      by true AtHome list here = drops number whys.Icmp refl

  every-prefixes : (number : ℕ) (shield : Option Shield) (options : IcmpSet) → Q (takes_prefix_reply number shield options t)
  unfolding takes_prefix_reply
  every-prefixes number shield options = by (is_from_agent shield (agent_of t.known t.now)) options.prefix
    where
      by : (right : Bool) (o : Option PrefixInfo) → Q (learns number right o t)
      by right None = drops number whys.Icmp refl
      by true (Some x) = done (noted (Learns x.valid x.preferred) t) (more (Learns x.valid x.preferred) t refl tt p)
      by false (Some x) = drops number whys.Icmp refl

  every-icmp : (number : ℕ) (shield : Option Shield) (packet : Packet) → Q (takes_icmp number shield packet t)
  unfolding takes_icmp
  every-icmp number shield packet = by (icmp_of (source_of packet.head) (destination_of packet.head) packet.body)
    where
      by : (r : Result icmp.Said IcmpFault) → Q (by_icmp number shield r t)
      by (Err fault) = drops number whys.Icmp refl
      by (Ok (icmp.DiscoverReply identifier agents)) = every-discovery number identifier agents
      by (Ok (icmp.PrefixReply identifier options)) = every-prefixes number shield options
      by (Ok _) = drops number whys.Icmp refl

  every-message : (number : ℕ) (tunnelled : Bool) (shield : Option Shield) (packet : Packet) (message : Option Said) → IsOfTake c t.known t.now number tunnelled shield packet → message_in packet ≡ message
      → Q (by_message number tunnelled shield packet message t)
  every-message number tunnelled shield packet None handed says = by (packet.head.proto == icmpv6) (packet.head.proto == no_next_header)
    where
      by : (icmp none : Bool) → Q (if icmp then takes_icmp number shield packet t else if none then noted (Drops number whys.NoNext) t else noted (Drops number whys.Role) t)
      by true none = every-icmp number shield packet
      by false true = drops number whys.NoNext refl
      by false false = drops number whys.Role refl
  every-message number tunnelled shield packet (Some (HomeTest index cookie token options)) handed says =
      every-home_test c P more acks Q done t p drops number tunnelled (source_of packet.head) index cookie token
      (λ right. handed-home c t.known t.now number tunnelled shield packet handed index cookie token options says right)
  every-message number tunnelled shield packet (Some (CareofTest index cookie token options)) handed says =
      every-careof_test c P more acks Q done t p drops number tunnelled (source_of packet.head) index cookie token
      (handed-careof c t.known t.now number tunnelled shield packet handed index cookie token options says)
  every-message number tunnelled shield packet (Some (Acknowledgement status key sequence lifetime options)) handed says =
      every-ack number tunnelled shield packet handed status key sequence lifetime options says
  every-message number tunnelled shield packet (Some (Error status home options)) handed says =
      every-error c P more acks Q done t p drops number (source_of packet.head) status home
  every-message number tunnelled shield packet (Some (Refresh options)) handed says =
      every-refresh c P more acks Q done t p drops number (source_of packet.head)
  every-message number tunnelled shield packet (Some _) handed says = drops number whys.Role refl

  module _ (refusing : (number : ℕ) (bytes : List ℕ) (source : Address) (refusal : Refusal) → is_dropped_why refusal.why ≡ true → Q (refuses number bytes source refusal t))
      (parting : (number : ℕ) (tunnelled : Bool) (shield : Option Shield) (packet : Packet) (message : Option Said) → IsOfTake c t.known t.now number tunnelled shield packet → message_in packet ≡ message → is_for_part packet.head.proto message ≡ true
      → Q (takes_for_part number tunnelled packet message t)) where
    every-role : (number : ℕ) (tunnelled : Bool) (shield : Option Shield) (packet : Packet) (message : Option Said) → IsOfTake c t.known t.now number tunnelled shield packet → message_in packet ≡ message
        → Q (by_role number tunnelled shield packet message t)
    unfolding by_role
    every-role number tunnelled shield packet message handed says = by (is_for_part packet.head.proto message) refl
      where
        by : (mine : Bool) → is_for_part packet.head.proto message ≡ mine → Q (if mine then takes_for_part number tunnelled packet message t else by_message number tunnelled shield packet message t)
        by true is = parting number tunnelled shield packet message handed says is
        by false is = every-message number tunnelled shield packet message handed says

    module _ (number : ℕ) (shield : Option Shield) (bytes : List ℕ) (call : c ≡ calls.Take number shield bytes) where
      every-inner : (outer packet : Packet) (agent : Address) → packet_of bytes ≡ Ok outer → agent_of t.known t.now ≡ Some agent → opened agent outer ≡ Ok packet → Q (takes_inner number shield outer.body packet t)
      unfolding takes_inner
      every-inner outer packet agent read of opens =
          by (packet.head.proto == ipv6) (not (packet.head.destination.0 == (home_of t.known).0)) (is_some packet.head.route) ((packet.head.proto == mobility_header) && is_none shield)
          (checked (inner_standing t.known t.now packet.head) (place_in outer.body packet) packet) refl refl
        where
          came : ((packet.head.proto == mobility_header) && is_none shield) ≡ false → IsOfTake c t.known t.now number true shield packet
          came bare = record {
            bytes = bytes;
            call = call;
            came = record { outer = outer; agent = agent; read = read; of = of; opens = opens; shielded = λ mobility. shielded-not packet.head.proto shield mobility bare };
          }

          by : (nested other routed bare : Bool) (r : Result (Option Said) Refusal) → ((packet.head.proto == mobility_header) && is_none shield) ≡ bare → checked (inner_standing t.known t.now packet.head) (place_in outer.body packet) packet ≡ r
              → Q (if nested then noted (Drops number whys.Nested) t else if other then noted (Drops number whys.Address) t else if routed then noted (Drops number whys.Route) t else if bare then noted (Drops number whys.Unshielded) t else after_inner_checks number shield outer.body packet r t)
          by true other routed bare r so is = drops number whys.Nested refl
          by false true routed bare r so is = drops number whys.Address refl
          by false false true bare r so is = drops number whys.Route refl
          by false false false true r so is = drops number whys.Unshielded refl
          by false false false false (Err refusal) so is =
              refusing number outer.body packet.head.source refusal (refused-right (inner_standing t.known t.now packet.head) (place_in outer.body packet) packet refusal is)
          by false false false false (Ok message) so is =
              every-role number true shield packet message (came so) (checked-in (inner_standing t.known t.now packet.head) (place_in outer.body packet) packet message is)

      every-opens : (packet : Packet) → packet_of bytes ≡ Ok packet → Q (opens number shield packet t)
      unfolding opens
      every-opens packet read = by (agent_of t.known t.now) refl
        where
          opening : (agent : Address) (r : Result Packet ExitFault) → agent_of t.known t.now ≡ Some agent → opened agent packet ≡ r → Q (opens_with number shield packet.body r t)
          opening agent (Ok inside) of is = every-inner packet inside agent read of is
          opening agent (Err NotTunnel) of is = drops number whys.Entry refl
          opening agent (Err (WrongEntry seen)) of is = drops number whys.Entry refl
          opening agent (Err (Inner fault)) of is = drops number (packet_why fault) (packet_why-dropped fault)

          by : (agent : Option Address) → agent_of t.known t.now ≡ agent → Q (opens_from agent number shield packet t)
          by None of = drops number whys.Entry refl
          by (Some agent) of = opening agent (opened agent packet) of refl

      pub every-takes : Q (takes number shield bytes t)
      unfolding takes
      every-takes = by (packet_of bytes) refl
        where
          outer : (packet : Packet) → packet_of bytes ≡ Ok packet → (message : Option Said) → message_in packet ≡ message → (tunnel : Bool) → Q (if tunnel then opens number shield packet t else by_role number false shield packet message t)
          outer packet read message is true = every-opens packet read
          outer packet read message is false = every-role number false shield packet message (record { bytes = bytes; call = call; came = read }) is

          checks : (packet : Packet) → packet_of bytes ≡ Ok packet → (r : Result (Option Said) Refusal) → checked (standing_of t.known t.now packet.head) (place_in bytes packet) packet ≡ r → Q (after_checks number shield bytes packet r t)
          checks packet read (Err refusal) is =
              refusing number bytes packet.head.source refusal (refused-right (standing_of t.known t.now packet.head) (place_in bytes packet) packet refusal is)
          checks packet read (Ok message) is =
              outer packet read message (checked-in (standing_of t.known t.now packet.head) (place_in bytes packet) packet message is) (packet.head.proto == ipv6)

          by : (r : Result Packet NotPacket) → packet_of bytes ≡ r → Q (receives number shield bytes r t)
          by (Err fault) read = drops number (packet_why fault) (packet_why-dropped fault)
          by (Ok packet) read = checks packet read (checked (standing_of t.known t.now packet.head) (place_in bytes packet) packet) refl
