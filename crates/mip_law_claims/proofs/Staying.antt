-- In a call by which a mobile stays where it stands, and goes on living, it claims no address and gives up none.
use Rattle.std.proofs.Common.{◌≡◌, ℕ, zero, suc, List, [], ◌∷◌, length, refl}
use Rattle.std.specs.Prelude.{Option, Some, None, Bool, true, false, not, ◌==◌, ◌&&◌, is_some, is_none, if◌then◌else◌, Result, Ok, Err}
use Rattle.mip_words.specs.Constants.{initial_bindack_timeout}
use Rattle.mip_words.specs.Protocols.{ipv6, icmpv6, no_next_header, mobility_header}
use Rattle.mip_words.specs.declared.address.Address.{Address}
use Rattle.mip_words.specs.declared.shield.Shield.{Shield}
use Rattle.mip_words.specs.declared.why.Why.TheVariants as whys
use Rattle.mip_ipv6.specs.declared.not_packet.NotPacket.{NotPacket}
use Rattle.mip_ipv6.specs.Packet.{Packet, source_of, destination_of}
use Rattle.mip_ipv6.specs.Reading.{packet_of}
use Rattle.mip_mobhdr.specs.OptionValues.{Values}
use Rattle.mip_mobhdr.specs.Said.{Said}
use Rattle.mip_mobhdr.specs.Said.Said.{Refresh, HomeInit, CareofInit, HomeTest, CareofTest, Update, Acknowledgement, Error}
use Rattle.mip_icmp.specs.declared.fault.IcmpFault.{IcmpFault}
use Rattle.mip_icmp.specs.declared.options.IcmpSet.{IcmpSet}
use Rattle.mip_icmp.specs.declared.prefix_info.PrefixInfo.{PrefixInfo}
use Rattle.mip_icmp.specs.Said as icmp
use Rattle.mip_icmp.specs.Reading.{icmp_of}
use Rattle.mip_ipv6.specs.declared.exit_fault.ExitFault.{ExitFault}
use Rattle.mip_ipv6.specs.declared.exit_fault.ExitFault.TheVariants.{NotTunnel, WrongEntry, Inner as InnerFault}
use Rattle.mip_ipv6.specs.Tunnel.{opened}
use Rattle.mip_reception.specs.declared.refusal.Refusal.{Refusal}
use Rattle.mip_reception.specs.Checks.{checked}
use Rattle.mip_reception.specs.Statuses.{accepts_it, sequence_out_of_window}
use Rattle.mip_bulist.specs.declared.any.Any.{Any}
use Rattle.mip_bulist.specs.declared.any.Any.TheVariants.{Idle, Probing, Proved, Pending, Bound}
use Rattle.mip_bulist.specs.declared.list_full.ListFull.{ListFull}
use Rattle.mip_bulist.specs.declared.state.Pending as pending
use Rattle.mip_bulist.specs.declared.trial.Trial.{Trial}
use Rattle.mip_bulist.specs.declared.home_timer.HomeTimer.{HomeTimer}
use Rattle.mip_bulist.specs.declared.home_timer.HomeTimer.TheVariants as home_timers
use Rattle.mip_bulist.specs.declared.work.Work.{Work}
use Rattle.mip_bulist.specs.declared.work.Work.TheVariants.{Resend, Renew, End, Home}
use Rattle.mip_bulist.specs.Rows.{given_row}
use Rattle.mip_bulist.specs.Timers.{due_work}
use Rattle.mip_rules_correspondent.specs.Calls as parts
use Rattle.mip_rules_correspondent.specs.Rules.{is_for_part, place_in}
use Rattle.mip_rules_mobile.specs.declared.attachment.Attachment.{Attachment}
use Rattle.mip_rules_mobile.specs.declared.attachment.Attachment.TheVariants.{Detached, AtHome, Away}
use Rattle.mip_rules_mobile.specs.declared.home_update.HomeUpdate.{HomeUpdate}
use Rattle.mip_rules_mobile.specs.declared.registered.Registered.{Registered}
use Rattle.mip_rules_mobile.specs.Calls as calls
use Rattle.mip_rules_mobile.specs.Calls.{Call}
use Rattle.mip_rules_mobile.specs.Timing.{doubled}
use Rattle.mip_rules_mobile.specs.Trials.{Rest, is_bound, is_idle, binds_to}
use Rattle.mip_rules_mobile.specs.Trials as trials
use Rattle.mip_rules_mobile.specs.Sendings.{Given}
use Rattle.mip_rules_mobile.specs.Steps.{Step, Drops, Meets, Tries, Unbinds, Rings, Stops}
use Rattle.mip_rules_mobile.specs.HomeQuestions.{home_of, registered_agent, agent_of, registration_of}
use Rattle.mip_rules_mobile.specs.RowQuestions.{peer_of_row, trial_of, row_of, is_bound_row, bound_row_of}
use Rattle.mip_rules_mobile.specs.TimerQuestions.{moment}
use Rattle.mip_rules_mobile.specs.Transitions.{Transition, noted}
use Rattle.mip_rules_mobile.specs.OutRules.{asks_part}
use Rattle.mip_rules_mobile.specs.TrialRules.{starts, updates}
use Rattle.mip_rules_mobile.specs.HomeRules.{home_answered}
use Rattle.mip_rules_mobile.specs.PeerRules.{tells_of_nonces, begins_at, meets, comes_right, test_at, cookie, home_row, careof_row, keeps_home, keeps_careof, takes_home_test, takes_careof_test, acknowledges, binds_from, ends_for, is_granted, rests, takes_peer_ack, acks_trial, acks_row, takes_ack_of, loses, takes_error, renews, takes_refresh}
use Rattle.mip_rules_mobile.specs.IcmpRules.{agents_named, is_matched, drops_icmp, finds, takes_discovery_reply, is_from_agent, learns, takes_prefix_reply, by_icmp, takes_icmp}
use Rattle.mip_rules_mobile.specs.ReceivingRules.{acks_by, takes_ack, then_meets, takes_for_part, by_message, by_role, refuses, after_inner_checks, inner_standing, takes_inner, opens_with, opens_from, opens, after_checks, standing_of, receives, takes}
use Rattle.mip_rules_mobile.specs.RingingRules.{registers_if_away, ends_home, ends_at, ends_row, rings_home, does_work, rings, rings_on, ticks, ticks_all}
use Rattle.mip_rules_mobile.specs.PartLaws.{is_restart}
use Rattle.mip_rules_mobile.specs.Answering.{stays_put}
use Rattle.mip_rules_mobile.specs.Doing.{transmits_from, transmits, solicits_from, solicits, handles}
use Rattle.mip_rules_mobile.proofs.Steady.{Notings}
use Rattle.mip_law_claims.proofs.StayingRules.{is_plain, still_out, still_part, still_replies, still_starts, still_updates, still_row, still_search, still_registers, still_resends, still_home_ack}

-- what each step keeps that does not move the mobile
module _ (P : Transition → Type 0) (one : (step : Step) (t : Transition) → is_plain step ≡ true → P t → P (noted step t)) (notes : Notings P) where
  -- messages of a peer
  still_meets : (peer : Address) (t : Transition) → P t → P (meets peer t)
  unfolding meets
  still_meets peer t p = by (given_row peer t.known.list.rows)
    where
      first : Transition
      first = noted (Meets peer) t

      q : P first
      q = one (Meets peer) t refl p

      if-due : (due : Bool) (row : ℕ) → P (if due then starts row first else first)
      if-due true row = still_starts P one notes row first q
      if-due false row = q

      by : (r : Result ℕ ListFull) → P (begins_at r first)
      by (Ok row) = if-due (is_idle (trial_of first.known row) && (not (is_bound_row first.known first.now row) && is_some (registration_of first.known first.now))) row
      by (Err full) = q

  still_rests : (row : ℕ) (t : Transition) → P t → P (rests row t)
  unfolding rests
  still_rests row t p = one _ _ refl (one _ t refl p)

  still_granted : (row : ℕ) (u : Trial pending.Pending) (sequence lifetime : ℕ) (t : Transition) → P t → P (is_granted row u sequence lifetime t)
  unfolding is_granted
  still_granted row u sequence lifetime t p = by (binds_to u)
    where
      first : Transition
      first = noted (Tries row (trials.Acknowledge sequence lifetime)) (noted (Stops (Resend row)) t)

      q : P first
      q = one _ _ refl (one _ t refl p)

      if-none : (none : Bool) → P (if none then first else binds_from u row lifetime first)
      if-none true = q
      if-none false = one _ first refl q

      by : (to : Option Address) → P (ends_for to u row lifetime first)
      by None = one _ first refl q
      by (Some careof) = if-none (lifetime == 0)

  still_peer_ack : (row : ℕ) (u : Trial pending.Pending) (status sequence lifetime : ℕ) (t : Transition) → P t → P (takes_peer_ack row u status sequence lifetime t)
  unfolding takes_peer_ack
  still_peer_ack row u status sequence lifetime t p = by (accepts_it status) (status == sequence_out_of_window) (tells_of_nonces status)
    where
      by : (accepted behind expired : Bool) → P (if accepted then is_granted row u sequence lifetime t else if behind then updates row initial_bindack_timeout (noted (Tries row (trials.Resequence sequence)) t) else if expired then starts row t else rests row t)
      by true behind expired = still_granted row u sequence lifetime t p
      by false true expired = still_updates P one notes row initial_bindack_timeout (noted (Tries row (trials.Resequence sequence)) t) (one _ t refl p)
      by false false true = still_starts P one notes row t p
      by false false false = still_rests row t p

  module _ (t : Transition) (p : P t) where
    still_home_test : (number : ℕ) (tunnelled : Bool) (peer : Address) (index c : ℕ) (token : List ℕ) → P (takes_home_test number tunnelled peer index c token t)
    unfolding takes_home_test
    still_home_test number tunnelled peer index c token = by (comes_right t.known.standing tunnelled) (home_row t.known peer (cookie c) (test_at t.now index token) (row_of t.known peer))
      where
        by : (right : Bool) (row : Option ℕ) → P (if right then keeps_home number peer (cookie c) (test_at t.now index token) row t else noted (Drops number whys.Cookie) t)
        by true None = one _ t refl p
        by true (Some row) = still_updates P one notes row initial_bindack_timeout _ (one _ t refl p)
        by false row = one _ t refl p

    still_careof_test : (number : ℕ) (tunnelled : Bool) (peer : Address) (index c : ℕ) (token : List ℕ) → P (takes_careof_test number tunnelled peer index c token t)
    unfolding takes_careof_test
    still_careof_test number tunnelled peer index c token = by (comes_right t.known.standing (not tunnelled)) (careof_row t.known peer (cookie c) (test_at t.now index token) (row_of t.known peer))
      where
        by : (right : Bool) (row : Option ℕ) → P (if right then keeps_careof number peer (cookie c) (test_at t.now index token) row t else noted (Drops number whys.Cookie) t)
        by true None = one _ t refl p
        by true (Some row) = still_updates P one notes row initial_bindack_timeout _ (one _ t refl p)
        by false row = one _ t refl p

    still_ack_of : (number : ℕ) (peer : Address) (status sequence lifetime : ℕ) (authenticator : Option (List ℕ)) (message : List ℕ) → P (takes_ack_of number peer status sequence lifetime authenticator message t)
    unfolding takes_ack_of
    still_ack_of number peer status sequence lifetime authenticator message = by (row_of t.known peer)
      where
        home : Address
        home = home_of t.known

        pend : (row : ℕ) (u : Trial pending.Pending) (mine : Bool) → P (if mine then takes_peer_ack row u status sequence lifetime t else noted (Drops number whys.Ack) t)
        pend row u true = still_peer_ack row u status sequence lifetime t p
        pend row u false = one _ t refl p

        of : (row : ℕ) (o : Option Any) → P (acks_trial number row home status sequence lifetime authenticator message o t)
        of row (Some (Pending u)) = pend row u (acknowledges home status sequence authenticator message u)
        of row (Some (Idle u)) = one _ t refl p
        of row (Some (Probing u)) = one _ t refl p
        of row (Some (Proved u)) = one _ t refl p
        of row (Some (Bound u)) = one _ t refl p
        of row None = one _ t refl p

        by : (o : Option ℕ) → P (acks_row number o status sequence lifetime authenticator message t)
        by None = one _ t refl p
        by (Some row) = of row (trial_of t.known row)

    still_error : (number : ℕ) (peer : Address) (status : ℕ) (home : Address) → P (takes_error number peer status home t)
    unfolding takes_error
    still_error number peer status home = by ((status == 1) && (home.0 == (home_of t.known).0)) (bound_row_of t.known t.now peer)
      where
        by : (mine : Bool) (o : Option ℕ) → P (if mine then loses number o peer t else noted (Drops number whys.Error) t)
        by true None = one _ t refl p
        by true (Some row) = still_rests row (noted (Unbinds row peer) t) (one _ t refl p)
        by false o = one _ t refl p

    still_refresh : (number : ℕ) (peer : Address) → P (takes_refresh number peer t)
    unfolding takes_refresh
    still_refresh number peer = by (bound_row_of t.known t.now peer)
      where
        by : (o : Option ℕ) → P (renews number o t)
        by None = one _ t refl p
        by (Some row) = still_starts P one notes row t p

    still_ack : (number : ℕ) (tunnelled : Bool) (shield : Option Shield) (packet : Packet) (status sequence lifetime : ℕ) (options : Values) → P (takes_ack number tunnelled shield packet status sequence lifetime options t)
    unfolding takes_ack
    still_ack number tunnelled shield packet status sequence lifetime options = by (home_answered t.known tunnelled shield (source_of packet.head) status sequence)
      where
        by : (u : Option HomeUpdate) → P (acks_by u number (source_of packet.head) status sequence lifetime options.authorization packet.body t)
        by (Some u) = still_home_ack P one notes u status sequence lifetime t p
        by None = still_ack_of number (source_of packet.head) status sequence lifetime options.authorization packet.body

    -- what agents say
    still_discovery : (number identifier : ℕ) (agents : List ℕ) → P (takes_discovery_reply number identifier agents t)
    unfolding takes_discovery_reply
    still_discovery number identifier agents = by (is_matched t.known.discovery identifier) t.known.standing (agents_named agents)
      where
        by : (right : Bool) (s : Attachment) (list : List Address) → P (if right then finds number s list t else drops_icmp number t)
        by false s list = one _ t refl p
        by true (Away careof) (agent ∷ others) = still_registers P one notes careof _ (one _ _ refl (one _ _ refl (one _ t refl p)))
        by true (Away careof) [] = one _ t refl p
        by true Detached list = one _ t refl p
        by true AtHome list = one _ t refl p

    still_prefixes : (number : ℕ) (shield : Option Shield) (options : IcmpSet) → P (takes_prefix_reply number shield options t)
    unfolding takes_prefix_reply
    still_prefixes number shield options = by (is_from_agent shield (agent_of t.known t.now)) options.prefix
      where
        by : (right : Bool) (o : Option PrefixInfo) → P (learns number right o t)
        by right None = one _ t refl p
        by true (Some x) = one _ t refl p
        by false (Some x) = one _ t refl p

    still_icmp : (number : ℕ) (shield : Option Shield) (packet : Packet) → P (takes_icmp number shield packet t)
    unfolding takes_icmp
    still_icmp number shield packet = by (icmp_of (source_of packet.head) (destination_of packet.head) packet.body)
      where
        by : (r : Result icmp.Said IcmpFault) → P (by_icmp number shield r t)
        by (Err fault) = one _ t refl p
        by (Ok (icmp.DiscoverReply identifier agents)) = still_discovery number identifier agents
        by (Ok (icmp.PrefixReply identifier options)) = still_prefixes number shield options
        by (Ok (icmp.Parameter pointer quoted)) = one _ t refl p
        by (Ok (icmp.Advertisement hop agent life options)) = one _ t refl p
        by (Ok (icmp.DiscoverAsk identifier)) = one _ t refl p
        by (Ok (icmp.PrefixAsk identifier)) = one _ t refl p

    -- a packet is handed over
    still_message : (number : ℕ) (tunnelled : Bool) (shield : Option Shield) (packet : Packet) (message : Option Said) → P (by_message number tunnelled shield packet message t)
    still_message number tunnelled shield packet None = by (packet.head.proto == icmpv6) (packet.head.proto == no_next_header)
      where
        by : (icmp none : Bool) → P (if icmp then takes_icmp number shield packet t else if none then noted (Drops number whys.NoNext) t else noted (Drops number whys.Role) t)
        by true none = still_icmp number shield packet
        by false true = one _ t refl p
        by false false = one _ t refl p
    still_message number tunnelled shield packet (Some (HomeTest index cookie token options)) = still_home_test number tunnelled (source_of packet.head) index cookie token
    still_message number tunnelled shield packet (Some (CareofTest index cookie token options)) = still_careof_test number tunnelled (source_of packet.head) index cookie token
    still_message number tunnelled shield packet (Some (Acknowledgement status key sequence lifetime options)) = still_ack number tunnelled shield packet status sequence lifetime options
    still_message number tunnelled shield packet (Some (Error status home options)) = still_error number (source_of packet.head) status home
    still_message number tunnelled shield packet (Some (Refresh options)) = still_refresh number (source_of packet.head)
    still_message number tunnelled shield packet (Some (HomeInit cookie options)) = one _ t refl p
    still_message number tunnelled shield packet (Some (CareofInit cookie options)) = one _ t refl p
    still_message number tunnelled shield packet (Some (Update s a h l k t' o)) = one _ t refl p

    still_for_part : (number : ℕ) (tunnelled : Bool) (packet : Packet) (message : Option Said) → P (takes_for_part number tunnelled packet message t)
    unfolding takes_for_part
    still_for_part number tunnelled packet message = by (tunnelled && is_none message)
      where
        first : Transition
        first = asks_part (parts.Part number packet) t

        q : P first
        q = still_part P one notes calls.Tick (parts.Part number packet) tt t p

        by : (met : Bool) → P (then_meets met packet first)
        by true = still_meets (source_of packet.head) first q
        by false = q

    still_role : (number : ℕ) (tunnelled : Bool) (shield : Option Shield) (packet : Packet) (message : Option Said) → P (by_role number tunnelled shield packet message t)
    unfolding by_role
    still_role number tunnelled shield packet message = by (is_for_part packet.head.proto message)
      where
        by : (mine : Bool) → P (if mine then takes_for_part number tunnelled packet message t else by_message number tunnelled shield packet message t)
        by true = still_for_part number tunnelled packet message
        by false = still_message number tunnelled shield packet message

    still_refuses : (number : ℕ) (bytes : List ℕ) (source : Address) (refusal : Refusal) → P (refuses number bytes source refusal t)
    unfolding refuses
    still_refuses number bytes source refusal = still_replies P one notes source bytes refusal.reply (noted (Drops number refusal.why) t) (one _ t refl p)

    still_inner : (number : ℕ) (shield : Option Shield) (bytes : List ℕ) (packet : Packet) → P (takes_inner number shield bytes packet t)
    unfolding takes_inner
    still_inner number shield bytes packet =
        by (packet.head.proto == ipv6) (not (packet.head.destination.0 == (home_of t.known).0)) (is_some packet.head.route) ((packet.head.proto == mobility_header) && is_none shield)
        (checked (inner_standing t.known t.now packet.head) (place_in bytes packet) packet)
      where
        by : (nested other routed bare : Bool) (r : Result (Option Said) Refusal)
            → P (if nested then noted (Drops number whys.Nested) t else if other then noted (Drops number whys.Address) t else if routed then noted (Drops number whys.Route) t else if bare then noted (Drops number whys.Unshielded) t else after_inner_checks number shield bytes packet r t)
        by true other routed bare r = one _ t refl p
        by false true routed bare r = one _ t refl p
        by false false true bare r = one _ t refl p
        by false false false true r = one _ t refl p
        by false false false false (Err refusal) = still_refuses number bytes packet.head.source refusal
        by false false false false (Ok message) = still_role number true shield packet message

    still_opens : (number : ℕ) (shield : Option Shield) (packet : Packet) → P (opens number shield packet t)
    unfolding opens
    still_opens number shield packet = by (agent_of t.known t.now)
      where
        opening : (r : Result Packet ExitFault) → P (opens_with number shield packet.body r t)
        opening (Ok inside) = still_inner number shield packet.body inside
        opening (Err NotTunnel) = one _ t refl p
        opening (Err (WrongEntry seen)) = one _ t refl p
        opening (Err (InnerFault fault)) = one _ t refl p

        by : (agent : Option Address) → P (opens_from agent number shield packet t)
        by None = one _ t refl p
        by (Some agent) = opening (opened agent packet)

    still_takes : (number : ℕ) (shield : Option Shield) (bytes : List ℕ) → P (takes number shield bytes t)
    unfolding takes
    still_takes number shield bytes = by (packet_of bytes)
      where
        outer : (packet : Packet) (message : Option Said) (tunnel : Bool) → P (if tunnel then opens number shield packet t else by_role number false shield packet message t)
        outer packet message true = still_opens number shield packet
        outer packet message false = still_role number false shield packet message

        checks : (packet : Packet) (r : Result (Option Said) Refusal) → P (after_checks number shield bytes packet r t)
        checks packet (Err refusal) = still_refuses number bytes packet.head.source refusal
        checks packet (Ok message) = outer packet message (packet.head.proto == ipv6)

        by : (r : Result Packet NotPacket) → P (receives number shield bytes r t)
        by (Err fault) = one _ t refl p
        by (Ok packet) = checks packet (checked (standing_of t.known t.now packet.head) (place_in bytes packet) packet)

    -- it is asked to send
    still_transmits : (to : Address) (proto : ℕ) (payload : List ℕ) → P (transmits to proto payload t)
    unfolding transmits
    still_transmits to proto payload = by t.known.standing (bound_row_of t.known t.now to)
      where
        part : P (asks_part (parts.Send to proto payload) t)
        part = still_part P one notes (calls.Send to proto payload) (parts.Send to proto payload) refl t p

        by : (s : Attachment) (row : Option ℕ) → P (transmits_from s row to proto payload t)
        by (Away careof) (Some row) = one _ t refl p
        by (Away careof) None = part
        by Detached row = part
        by AtHome row = part

    still_solicits : P (solicits t)
    unfolding solicits
    still_solicits = by t.known.standing (registered_agent t.known t.now)
      where
        by : (s : Attachment) (agent : Option Address) → P (solicits_from s agent t)
        by (Away careof) (Some agent) = one _ t refl p
        by (Away careof) None = one _ t refl p
        by Detached agent = one _ t refl p
        by AtHome agent = one _ t refl p

  -- due work
  still_renews : (s : Attachment) (t : Transition) → P t → P (registers_if_away s t)
  still_renews Detached t p = p
  still_renews AtHome t p = p
  still_renews (Away careof) t p = still_registers P one notes careof t p

  still_ends_home : (r : Option Registered) (t : Transition) → P t → P (ends_home r t)
  still_ends_home None t p = p
  still_ends_home (Some r) t p = one _ t refl p

  still_ends : (row : ℕ) (t : Transition) → P t → P (ends_row row t)
  unfolding ends_row
  still_ends row t p = by (peer_of_row t.known row)
    where
      resting : (bound : Bool) (u : Transition) → P u → P (if bound then noted (Tries row Rest) u else u)
      resting true u q = one _ u refl q
      resting false u q = q

      by : (peer : Option Address) → P (ends_at peer row t)
      by None = p
      by (Some peer) = let u = noted (Unbinds row peer) t in resting (is_bound (trial_of u.known row)) u (one _ t refl p)

  still_rings_home : (timer : HomeTimer) (t : Transition) → P t → P (rings_home timer t)
  still_rings_home home_timers.Resend t p = still_resends P one notes (doubled t.known.wait) t p
  still_rings_home home_timers.Renew t p = still_renews t.known.standing t p
  still_rings_home home_timers.End t p = still_ends_home t.known.registered t p
  still_rings_home home_timers.Discover t p = still_search P one notes t p

  still_work : (work : Work) (t : Transition) → P t → P (does_work work t)
  still_work (Resend row) t p = still_row P one notes row t p
  still_work (Renew row) t p = still_starts P one notes row t p
  still_work (End row) t p = still_ends row t p
  still_work (Home timer) t p = still_rings_home timer t p

  still_rings : (work : Work) (t : Transition) → P t → P (rings work t)
  unfolding rings
  still_rings work t p = still_work work (noted (Rings work) t) (one _ t refl p)

  still_ticks : (n : ℕ) (t : Transition) → P t → P (ticks n t)
  unfolding ticks
  still_ticks zero t p = p
  still_ticks (suc n) t p = by (λ u q. still_ticks n u q) (due_work (moment t.now) t.known.list.timers)
    where
      by : ((u : Transition) → P u → P (ticks n u)) → (work : Option Work) → P (rings_on (ticks n) work t)
      by again None = p
      by again (Some work) = again (rings work t) (still_rings work t p)

  still_due : (t : Transition) → P t → P (ticks_all t)
  unfolding ticks_all
  still_due t p = still_ticks (length t.known.list.timers) t p

  -- the call
  pub still_handles : (t : Transition) → P t → (c : Call) → stays_put c ≡ true → is_restart c ≡ false → P (handles c t)
  still_handles t p (calls.Attach prefix of_home of_address) stays lives = absurd cc
  still_handles t p (calls.Leave of_home) stays lives = absurd cc
  still_handles t p (calls.Restart secrets) stays lives = absurd cc
  still_handles t p (calls.Take number shield packet) stays lives = still_takes t p number shield packet
  still_handles t p calls.Tick stays lives = still_due t p
  still_handles t p (calls.Send to proto payload) stays lives = still_transmits t p to proto payload
  still_handles t p (calls.Refresh home) stays lives = still_part P one notes calls.Tick (parts.Refresh home) tt t p
  still_handles t p calls.Ask stays lives = still_solicits t p
  still_handles t p (calls.Tunnel inner) stays lives = still_out P one notes (Given inner) t p
