-- What counts of the packets that are handed to a mobile: each rule of receiving refuses one, or it is as it should be.
use Rattle.std.proofs.Common.{◌≡◌, ℕ, ◌<◌, ◌≤◌, List, [], ◌∷◌, Bool, true, false, ◌⊎◌, inl, inr, refl, sym, ap, ◌∙◌, subst, arith}
use Rattle.std.specs.Prelude.{Option, Some, None, not, ◌==◌, ◌&&◌, ◌||◌, is_some, is_none, nat_le, nat_lt, option_map, slice_get, if◌then◌else◌, Result, Ok, Err}
use Rattle.std.specs.Option.{option_map_or, option_or}
use Rattle.std.specs.List.{list_any}
use Rattle.std.specs.Result.{result_ok}
use Rattle.std.proofs.lemmas.Bool.{and_parts, eqb-true, eqb-false, eq-eqb}
use Rattle.std.proofs.lemmas.Bool.Decides.{nat_tests}
use Rattle.std.proofs.lemmas.List.Folds.{list_any-append}
use Rattle.mip_words.specs.Protocols.{ipv6, icmpv6, no_next_header, mobility_header}
use Rattle.mip_words.specs.declared.address.Address.{Address}
use Rattle.mip_words.specs.declared.moment.Moment.{Moment}
use Rattle.mip_words.specs.declared.shield.Shield.{Shield}
use Rattle.mip_words.specs.declared.why.Why.{Why}
use Rattle.mip_words.specs.declared.why.Why.TheVariants as whys
use Rattle.mip_ipv6.specs.declared.head.Head.{Head}
use Rattle.mip_ipv6.specs.declared.not_packet.NotPacket.{NotPacket}
use Rattle.mip_ipv6.specs.declared.exit_fault.ExitFault.{ExitFault}
use Rattle.mip_ipv6.specs.declared.exit_fault.ExitFault.TheVariants.{NotTunnel, WrongEntry, Inner}
use Rattle.mip_ipv6.specs.Packet.{Packet, source_of, destination_of}
use Rattle.mip_ipv6.specs.Reading.{packet_of}
use Rattle.mip_ipv6.specs.Tunnel.{opened}
use Rattle.mip_mobhdr.specs.OptionValues.{Values}
use Rattle.mip_mobhdr.specs.Said.{Said}
use Rattle.mip_mobhdr.specs.Reading.{message_of}
use Rattle.mip_mobhdr.specs.Said.Said.{Refresh, HomeTest, CareofTest, Acknowledgement, Error}
use Rattle.mip_icmp.specs.declared.fault.IcmpFault.{IcmpFault}
use Rattle.mip_icmp.specs.declared.options.IcmpSet.{IcmpSet}
use Rattle.mip_icmp.specs.declared.prefix_info.PrefixInfo.{PrefixInfo}
use Rattle.mip_icmp.specs.Said as icmp
use Rattle.mip_icmp.specs.Reading.{icmp_of}
use Rattle.mip_discovery.specs.Retries.{DiscoverySeen}
use Rattle.mip_bulist.specs.declared.any.Any.{Any}
use Rattle.mip_bulist.specs.declared.any.Any.TheVariants.{Pending}
use Rattle.mip_bulist.specs.declared.state.Pending as pending
use Rattle.mip_bulist.specs.declared.tested.Test.{Test}
use Rattle.mip_bulist.specs.declared.trial.Trial.{Trial}
use Rattle.mip_reception.specs.Says.{message_in}
use Rattle.mip_reception.specs.declared.refusal.Refusal.{Refusal}
use Rattle.mip_reception.specs.Checks.{checked}
use Rattle.mip_reception.specs.Passing.{Passes}
use Rattle.mip_reception.specs.Statuses.{sequence_out_of_window}
use Rattle.mip_reception.specs.Words.{packet_why}
use Rattle.mip_reception.proofs.Passings.{passes}
use Rattle.mip_entries.proofs.TransitionLaws.{noted-now, noted-known, noted-steps}
use Rattle.mip_rules_correspondent.specs.Rules.{is_for_part, place_in}
use Rattle.mip_rules_mobile.specs.declared.attachment.Attachment.{Attachment}
use Rattle.mip_rules_mobile.specs.declared.attachment.Attachment.TheVariants.{Detached, AtHome, Away}
use Rattle.mip_rules_mobile.specs.declared.registered.Registered.{Registered}
use Rattle.mip_rules_mobile.specs.declared.home_update.HomeUpdate.{HomeUpdate}
use Rattle.mip_rules_mobile.specs.declared.peer.Peer.{Peer}
use Rattle.mip_rules_mobile.specs.Calls as calls
use Rattle.mip_rules_mobile.specs.Calls.{Call}
use Rattle.mip_rules_mobile.specs.Trials.{last_made}
use Rattle.mip_rules_mobile.specs.Steps.{Step, Called, Drops}
use Rattle.mip_rules_mobile.specs.Known.{Known}
use Rattle.mip_rules_mobile.specs.HomeQuestions.{home_of, standing_registration, agent_of}
use Rattle.mip_rules_mobile.specs.RowQuestions.{row_of, trial_of, lies_ahead, is_bound_row, if_bound, bound_row_of}
use Rattle.mip_rules_mobile.specs.Questions.{after}
use Rattle.mip_rules_mobile.specs.Transitions.{Transition, begun, noted}
use Rattle.mip_rules_mobile.specs.HomeRules.{home_answered}
use Rattle.mip_rules_mobile.specs.PeerRules.{comes_right, test_at, cookie, home_row, careof_row, keeps_home, keeps_careof, takes_home_test, takes_careof_test, is_genuine, is_trusted, acknowledges, takes_peer_ack, acks_trial, acks_row, takes_ack_of, loses, takes_error, renews, takes_refresh}
use Rattle.mip_rules_mobile.specs.IcmpRules.{agents_named, is_matched, drops_icmp, finds, takes_discovery_reply, is_from_agent, learns, takes_prefix_reply, by_icmp, takes_icmp}
use Rattle.mip_rules_mobile.specs.ReceivingRules.{takes_for_part, acks_by, takes_ack, by_role, refuses, after_inner_checks, inner_standing, takes_inner, opens_with, opens_from, opens, after_checks, is_address_of, is_routed, takes_route, standing_of, receives, takes}
use Rattle.mip_rules_mobile.specs.Doing.{does, transition_of}
use Rattle.mip_rules_mobile.specs.Refusing.{is_refusal}
use Rattle.mip_rules_mobile.specs.TakenLaws.{AreRefusingUnless, IsFor, Home, Careof, IsAgent, IsOfTunnel, IsHandled, Itself, Within, IsOfPending, IsBoundPeer, IsHeeded, IsIcmpHeeded}
use Rattle.mip_rules_mobile.proofs.Checks.{checked-in, opened-reads}
use Rattle.mip_rules_mobile.proofs.Trusts.{opened-source, answer-counts, shielded-not}
use Rattle.mip_rules_mobile.proofs.OutWalks.{every-replies}

-- something was refused, and stays so
abbrev pub HasRefused : Transition → Type 0
HasRefused t = list_any is_refusal t.steps ≡ true

or-last : (b : Bool) → (b || true) ≡ true
or-last true = refl
or-last false = refl

refused-noted : (step : Step) (t : Transition) → HasRefused t → HasRefused (noted step t)
refused-noted step t refused =
    ap (list_any is_refusal) (noted-steps after step t) ∙ list_any-append is_refusal t.steps (step ∷ []) ∙ ap (λ (b : Bool). b || (is_refusal step || false)) refused

dropped : (number : ℕ) (why : Why) (t : Transition) → HasRefused (noted (Drops number why) t)
dropped number why t =
    ap (list_any is_refusal) (noted-steps after (Drops number why) t) ∙ list_any-append is_refusal t.steps (Drops number why ∷ []) ∙ or-last (list_any is_refusal t.steps)

answered : (number : ℕ) (bytes : List ℕ) (source : Address) (refusal : Refusal) (t : Transition) → HasRefused (refuses number bytes source refusal t)
unfolding refuses
answered number bytes source refusal t =
    every-replies calls.Tick HasRefused (λ step u steady fits refused. refused-noted step u refused) source bytes refusal.reply (noted (Drops number refusal.why) t) (dropped number refusal.why t)

-- what an agent of tunnels is
agent-is : (k : Known) (now : ℕ) (agent : Address) → agent_of k now ≡ Some agent → IsAgent k.registered k.agent now agent
agent-is k now agent = by k.registered
  where
    ahead : (r : Registered) (b : Bool) → nat_lt now r.end.0 ≡ b → option_or (option_map (λ (x : Registered). x.agent) (if b then Some r else None)) k.agent ≡ Some agent → IsAgent (Some r) k.agent now agent
    ahead r true is e = let before : now < r.end.0 = grind (arith, nat_tests) in let same : r.agent ≡ agent = cc in inl (r, refl, before, same)
    ahead r false is e = inr e

    by : (o : Option Registered) → option_or (option_map (λ (x : Registered). x.agent) (standing_registration now o)) k.agent ≡ Some agent → IsAgent o k.agent now agent
    by None e = inr e
    by (Some r) e = ahead r (nat_lt now r.end.0) refl e

-- whom a packet is for
for-it : (s : Attachment) (home : Address) (head : Head) → is_address_of s home head.destination ≡ true → (is_some head.route && not (takes_route s home head.route)) ≡ false → IsFor home s head
for-it Detached home head mine straight = absurd cc
for-it AtHome home head mine straight = Home refl (eqb-true head.destination.0 home.0 mine) (by head.route straight)
  where
    by : (o : Option Address) → (is_some o && true) ≡ false → o ≡ None
    by None is = refl
    by (Some route) is = absurd cc
for-it (Away careof) home head mine straight = Careof careof refl (eqb-true head.destination.0 careof.0 mine) (λ route is. by route head.route straight is)
  where
    same : (route : Address) (b : Bool) → (route.0 == home.0) ≡ b → (true && not b) ≡ false → route.0 ≡ home.0
    same route true is e = eqb-true route.0 home.0 is
    same route false is e = absurd cc

    by : (route : Address) (o : Option Address) → (is_some o && not (is_routed home o)) ≡ false → o ≡ Some route → route.0 ≡ home.0
    by route None e is = absurd cc
    by route (Some r) e is = let own : r ≡ route = cc in subst (λ (a : Address). a.0 ≡ home.0) own (same r (r.0 == home.0) refl e)

-- the row of a peer that has the binding
bound-is : (k : Known) (now : ℕ) (peer : Address) (row : ℕ) → bound_row_of k now peer ≡ Some row → IsBoundPeer k now peer
bound-is k now peer row = by (row_of k peer) refl
  where
    ends : (at : ℕ) (p : Peer) (end : Option Moment) → row_of k peer ≡ Some at → slice_get k.peers at ≡ Some p → p.bound ≡ end → lies_ahead now end ≡ true → IsBoundPeer k now peer
    ends at p None placed is until e = absurd cc
    ends at p (Some end) placed is until e =
        let before : now < end.0 = grind (arith, nat_tests) in
        (at, end, placed, ap (λ (o : Option Peer). option_map_or (λ (x : Peer). x.bound) o None) is ∙ until, before)

    kept : (at : ℕ) (o : Option Peer) → row_of k peer ≡ Some at → slice_get k.peers at ≡ o → option_map_or (λ (x : Peer). lies_ahead now x.bound) o false ≡ true → IsBoundPeer k now peer
    kept at None placed is e = absurd cc
    kept at (Some p) placed is e = ends at p p.bound placed is refl e

    if-kept : (at : ℕ) (b : Bool) → row_of k peer ≡ Some at → is_bound_row k now at ≡ b → (if b then Some at else None) ≡ Some row → IsBoundPeer k now peer
    if-kept at true placed is e = kept at (slice_get k.peers at) placed refl is
    if-kept at false placed is e = absurd cc

    by : (o : Option ℕ) → row_of k peer ≡ o → if_bound k now o ≡ Some row → IsBoundPeer k now peer
    by None placed e = absurd cc
    by (Some at) placed e = if-kept at (is_bound_row k now at) placed refl e

-- an acknowledgement of the last update to a peer
pending-is : (home : Address) (status sequence : ℕ) (authenticator : Option (List ℕ)) (message : List ℕ) (u : Trial pending.Pending) → acknowledges home status sequence authenticator message u ≡ true
    → IsOfPending home status sequence authenticator message u
pending-is home status sequence authenticator message u is =
    let parts = and_parts (is_trusted home u status authenticator message) ((sequence == (last_made u).sequence) || (status == sequence_out_of_window)) is in
    record { trusted = trusted authenticator parts.0; answers = answers (sequence == (last_made u).sequence) (status == sequence_out_of_window) refl refl parts.1 }
  where
    trusted : (o : Option (List ℕ)) → is_trusted home u status o message ≡ true → ((is_some o ≡ true) × (is_genuine home u message ≡ true)) ⊎ ((o ≡ None) × (136 ≤ status) × (status ≤ 138))
    trusted None told =
        let both = and_parts (nat_le 136 status) (nat_le status 138) told in
        let high : 136 ≤ status = grind (arith, nat_tests) in
        let low : status ≤ 138 = grind (arith, nat_tests) in
        inr (refl, high, low)
    trusted (Some a) genuine = inl (refl, genuine)

    answers : (same behind : Bool) → (sequence == (last_made u).sequence) ≡ same → (status == sequence_out_of_window) ≡ behind → (same || behind) ≡ true → (sequence ≡ (last_made u).sequence) ⊎ (status ≡ 135)
    answers true behind e f so = inl (eqb-true sequence (last_made u).sequence e)
    answers false true e f so = inr (eqb-true status 135 f)
    answers false false e f so = absurd cc

not-false-true : (b : Bool) → not b ≡ true → b ≡ false
not-false-true false is = refl
not-false-true true is = absurd cc

module _ (t : Transition) (number : ℕ) (tunnelled : Bool) (shield : Option Shield) (packet : Packet) where
  abbrev Right : Said → Transition → Type 0
  Right m u = HasRefused u ⊎ IsHeeded t.known t.now tunnelled shield packet m

  drops : (X : Type 0) (why : Why) → HasRefused (noted (Drops number why) t) ⊎ X
  drops X why = inl (dropped number why t)

  home-test : (index c : ℕ) (token : List ℕ) (options : Values) → Right (HomeTest index c token options) (takes_home_test number tunnelled (source_of packet.head) index c token t)
  unfolding takes_home_test
  home-test index c token options = by (comes_right t.known.standing tunnelled) refl
    where
      peer : Address
      peer = source_of packet.head

      test : Test
      test = test_at t.now index token

      by : (b : Bool) → comes_right t.known.standing tunnelled ≡ b
          → Right (HomeTest index c token options) (if b then keeps_home number peer (cookie c) test (home_row t.known peer (cookie c) test (row_of t.known peer)) t else noted (Drops number whys.Cookie) t)
      by true is = inr (λ careof away. subst (λ (s : Attachment). comes_right s tunnelled ≡ true) away is)
      by false is = drops (IsHeeded t.known t.now tunnelled shield packet (HomeTest index c token options)) whys.Cookie

  careof-test : (index c : ℕ) (token : List ℕ) (options : Values) → Right (CareofTest index c token options) (takes_careof_test number tunnelled (source_of packet.head) index c token t)
  unfolding takes_careof_test
  careof-test index c token options = by (comes_right t.known.standing (not tunnelled)) refl
    where
      peer : Address
      peer = source_of packet.head

      test : Test
      test = test_at t.now index token

      by : (b : Bool) → comes_right t.known.standing (not tunnelled) ≡ b
          → Right (CareofTest index c token options) (if b then keeps_careof number peer (cookie c) test (careof_row t.known peer (cookie c) test (row_of t.known peer)) t else noted (Drops number whys.Cookie) t)
      by true is = inr (λ careof away. not-false-true tunnelled (subst (λ (s : Attachment). comes_right s (not tunnelled) ≡ true) away is))
      by false is = drops (IsHeeded t.known t.now tunnelled shield packet (CareofTest index c token options)) whys.Cookie

  ack : (status : ℕ) (key : Bool) (sequence lifetime : ℕ) (options : Values) → Right (Acknowledgement status key sequence lifetime options) (takes_ack number tunnelled shield packet status sequence lifetime options t)
  unfolding takes_ack takes_ack_of
  ack status key sequence lifetime options = by (home_answered t.known tunnelled shield source status sequence) refl
    where
      source : Address
      source = source_of packet.head

      R : Transition → Type 0
      R = Right (Acknowledgement status key sequence lifetime options)

      refuse : R (noted (Drops number whys.Ack) t)
      refuse = drops (IsHeeded t.known t.now tunnelled shield packet (Acknowledgement status key sequence lifetime options)) whys.Ack

      mine : (row : ℕ) (u : Trial pending.Pending) (b : Bool) → row_of t.known source ≡ Some row → trial_of t.known row ≡ Some (Pending u)
          → acknowledges (home_of t.known) status sequence options.authorization packet.body u ≡ b → R (if b then takes_peer_ack row u status sequence lifetime t else noted (Drops number whys.Ack) t)
      mine row u true placed is right = inr (inr (row, u, placed, is, pending-is (home_of t.known) status sequence options.authorization packet.body u right))
      mine row u false placed is right = refuse

      of : (row : ℕ) (o : Option Any) → row_of t.known source ≡ Some row → trial_of t.known row ≡ o → R (acks_trial number row (home_of t.known) status sequence lifetime options.authorization packet.body o t)
      of row (Some (Pending u)) placed is = mine row u (acknowledges (home_of t.known) status sequence options.authorization packet.body u) placed is refl
      of row _ placed is = refuse

      placed : (o : Option ℕ) → row_of t.known source ≡ o → R (acks_row number o status sequence lifetime options.authorization packet.body t)
      placed None is = refuse
      placed (Some row) is = of row (trial_of t.known row) is refl

      by : (o : Option HomeUpdate) → home_answered t.known tunnelled shield source status sequence ≡ o → R (acks_by o number source status sequence lifetime options.authorization packet.body t)
      by (Some u) is =
          let counts = answer-counts t.known.standing tunnelled shield source status sequence t.known.latest u is in
          inr (inl (record { straight = counts.straight; shielded = counts.shielded; update = u; last = counts.last; from = counts.from; answers = counts.answers; there = counts.undone }))
      by None is = placed (row_of t.known source) refl

  error : (status : ℕ) (home : Address) (options : Values) → Right (Error status home options) (takes_error number (source_of packet.head) status home t)
  unfolding takes_error
  error status home options = by (status == 1) (home.0 == (home_of t.known).0) refl refl (bound_row_of t.known t.now (source_of packet.head)) refl
    where
      R : Transition → Type 0
      R = Right (Error status home options)

      refuse : R (noted (Drops number whys.Error) t)
      refuse = drops (IsHeeded t.known t.now tunnelled shield packet (Error status home options)) whys.Error

      by : (one own : Bool) → (status == 1) ≡ one → (home.0 == (home_of t.known).0) ≡ own → (o : Option ℕ) → bound_row_of t.known t.now (source_of packet.head) ≡ o
          → R (if one && own then loses number o (source_of packet.head) t else noted (Drops number whys.Error) t)
      by true true e f (Some row) is = inr (eqb-true status 1 e, eqb-true home.0 (home_of t.known).0 f, bound-is t.known t.now (source_of packet.head) row is)
      by true true e f None is = refuse
      by true false e f o is = refuse
      by false own e f o is = refuse

  refresh : (options : Values) → Right (Refresh options) (takes_refresh number (source_of packet.head) t)
  unfolding takes_refresh
  refresh options = by (bound_row_of t.known t.now (source_of packet.head)) refl
    where
      by : (o : Option ℕ) → bound_row_of t.known t.now (source_of packet.head) ≡ o → Right (Refresh options) (renews number o t)
      by None is = drops (IsHeeded t.known t.now tunnelled shield packet (Refresh options)) whys.Refresh
      by (Some row) is = inr (bound-is t.known t.now (source_of packet.head) row is)

  -- a message of the packet counts by right
  said : (m : Said) → Right m (by_role number tunnelled shield packet (Some m) t)
  unfolding by_role
  said (HomeTest index c token options) = home-test index c token options
  said (CareofTest index c token options) = careof-test index c token options
  said (Acknowledgement status key sequence lifetime options) = ack status key sequence lifetime options
  said (Error status home options) = error status home options
  said (Refresh options) = refresh options
  said _ = inr tt

  abbrev IcmpRight : icmp.Said → Transition → Type 0
  IcmpRight m u = HasRefused u ⊎ IsIcmpHeeded t.known t.now shield m

  discovery : (identifier : ℕ) (agents : List ℕ) → IcmpRight (icmp.DiscoverReply identifier agents) (takes_discovery_reply number identifier agents t)
  unfolding takes_discovery_reply
  discovery identifier agents = by t.known.discovery refl
    where
      R : Transition → Type 0
      R = IcmpRight (icmp.DiscoverReply identifier agents)

      refuse : R (drops_icmp number t)
      refuse = drops (IsIcmpHeeded t.known t.now shield (icmp.DiscoverReply identifier agents)) whys.Icmp

      there : (d : DiscoverySeen) → t.known.discovery ≡ Some d → identifier ≡ d.identifier → (s : Attachment) → t.known.standing ≡ s → (list : List Address) → R (finds number s list t)
      there d runs same (Away careof) here (agent ∷ others) = inr ((careof, here), (d, runs, same))
      there d runs same (Away careof) here [] = refuse
      there d runs same Detached here list = refuse
      there d runs same AtHome here list = refuse

      matches : (d : DiscoverySeen) (b : Bool) → t.known.discovery ≡ Some d → (identifier == d.identifier) ≡ b → R (if b then finds number t.known.standing (agents_named agents) t else drops_icmp number t)
      matches d true runs is = there d runs (eqb-true identifier d.identifier is) t.known.standing refl (agents_named agents)
      matches d false runs is = refuse

      by : (o : Option DiscoverySeen) → t.known.discovery ≡ o → R (if is_matched o identifier then finds number t.known.standing (agents_named agents) t else drops_icmp number t)
      by None runs = refuse
      by (Some d) runs = matches d (identifier == d.identifier) runs refl

  prefixes : (identifier : ℕ) (options : IcmpSet) → IcmpRight (icmp.PrefixReply identifier options) (takes_prefix_reply number shield options t)
  unfolding takes_prefix_reply
  prefixes identifier options = by shield (agent_of t.known t.now) refl refl options.prefix
    where
      R : Transition → Type 0
      R = IcmpRight (icmp.PrefixReply identifier options)

      refuse : R (drops_icmp number t)
      refuse = drops (IsIcmpHeeded t.known t.now shield (icmp.PrefixReply identifier options)) whys.Icmp

      from : (s : Shield) (agent : Address) (b : Bool) → shield ≡ Some s → agent_of t.known t.now ≡ Some agent → (s.from.0 == agent.0) ≡ b → (o : Option PrefixInfo) → R (learns number b o t)
      from s agent b under of is None = refuse
      from s agent true under of is (Some p) = inr (s, under, agent, agent-is t.known t.now agent of, eqb-true s.from.0 agent.0 is)
      from s agent false under of is (Some p) = refuse

      bare : (o : Option PrefixInfo) → R (learns number false o t)
      bare None = refuse
      bare (Some p) = refuse

      by : (o : Option Shield) (a : Option Address) → shield ≡ o → agent_of t.known t.now ≡ a → (p : Option PrefixInfo) → R (learns number (is_from_agent o a) p t)
      by None a under of p = bare p
      by (Some s) None under of p = bare p
      by (Some s) (Some agent) under of p = from s agent (s.from.0 == agent.0) under of refl p

  -- so does an ICMPv6 message
  icmp-said : (m : icmp.Said) → IcmpRight m (by_icmp number shield (Ok m) t)
  icmp-said (icmp.DiscoverReply identifier agents) = discovery identifier agents
  icmp-said (icmp.PrefixReply identifier options) = prefixes identifier options
  icmp-said _ = inl (dropped number whys.Icmp t)

  icmp-taken : (m : icmp.Said) → packet.head.proto ≡ 58 → icmp_of (source_of packet.head) (destination_of packet.head) packet.body ≡ Ok m → IcmpRight m (by_role number tunnelled shield packet None t)
  unfolding by_role takes_icmp
  icmp-taken m proto reads =
      subst (λ (n : ℕ). IcmpRight m (let u : Transition = (if is_for_part n None then takes_for_part number tunnelled packet None t
      else if n == icmpv6 then takes_icmp number shield packet t else if n == no_next_header then noted (Drops number whys.NoNext) t else noted (Drops number whys.Role) t) in u)) (sym proto)
      (subst (λ (r : Result icmp.Said IcmpFault). IcmpRight m (by_icmp number shield r t)) (sym reads) (icmp-said m))

-- whichever packet is handled, it is the only one
one-packet : (bytes : List ℕ) (p q : Packet) (a b : Bool) → IsHandled bytes p a → IsHandled bytes q b → (p ≡ q) × (a ≡ b)
one-packet bytes p q a b (Itself read other) (Itself again more) = let same : p ≡ q = cc in (same, refl)
one-packet bytes p q a b (Itself read other) (Within outer again tunnel inside) = absurd (other (let same : p ≡ outer = cc in ap (λ (x : Packet). x.head.proto) same ∙ tunnel))
one-packet bytes p q a b (Within outer read tunnel inside) (Itself again other) = absurd (other (let same : outer ≡ q = cc in sym (ap (λ (x : Packet). x.head.proto) same) ∙ tunnel))
one-packet bytes p q a b (Within outer read tunnel inside) (Within other again more within) = let same : outer ≡ other = cc in let both : p ≡ q = cc in (both, refl)

module _ (t : Transition) (number : ℕ) (shield : Option Shield) (bytes : List ℕ) where
  -- the packet is for the mobile
  addressed : (packet : Packet) → packet_of bytes ≡ Ok packet → HasRefused (takes number shield bytes t) ⊎ IsFor (home_of t.known) t.known.standing packet.head
  unfolding takes
  addressed packet read =
      subst (λ (r : Result Packet NotPacket). HasRefused (receives number shield bytes r t) ⊎ IsFor (home_of t.known) t.known.standing packet.head) (sym read)
      (by (checked (standing_of t.known t.now packet.head) (place_in bytes packet) packet) refl)
    where
      by : (r : Result (Option Said) Refusal) → checked (standing_of t.known t.now packet.head) (place_in bytes packet) packet ≡ r
          → HasRefused (after_checks number shield bytes packet r t) ⊎ IsFor (home_of t.known) t.known.standing packet.head
      by (Err refusal) is = inl (answered number bytes packet.head.source refusal t)
      by (Ok message) is =
          let right : Passes (standing_of t.known t.now packet.head) (place_in bytes packet) packet message = (passes (standing_of t.known t.now packet.head) (place_in bytes packet) packet message).0 is in
          inr (for-it t.known.standing (home_of t.known) packet.head right.address right.route)

  abbrev InTunnel : Packet → Type 0
  InTunnel outer = IsOfTunnel (home_of t.known) t.known.registered t.known.agent t.now shield outer

  -- what a tunnel packet has in it
  module _ (outer : Packet) (agent : Address) (of : agent_of t.known t.now ≡ Some agent) where
    inner-is : (packet : Packet) → opened agent outer ≡ Ok packet → HasRefused (takes_inner number shield outer.body packet t) ⊎ InTunnel outer
    unfolding takes_inner
    inner-is packet opens =
        by (packet.head.proto == ipv6) (packet.head.destination.0 == (home_of t.known).0) packet.head.route ((packet.head.proto == mobility_header) && is_none shield) refl refl refl refl
      where
        R : Transition → Type 0
        R u = HasRefused u ⊎ InTunnel outer

        by : (nested mine : Bool) (route : Option Address) (bare : Bool) → (packet.head.proto == ipv6) ≡ nested → (packet.head.destination.0 == (home_of t.known).0) ≡ mine → packet.head.route ≡ route
            → ((packet.head.proto == mobility_header) && is_none shield) ≡ bare
            → R (let u : Transition = (if nested then noted (Drops number whys.Nested) t else if not mine then noted (Drops number whys.Address) t else if is_some route then noted (Drops number whys.Route) t
            else if bare then noted (Drops number whys.Unshielded) t else after_inner_checks number shield outer.body packet (checked (inner_standing t.known t.now packet.head) (place_in outer.body packet) packet) t) in u)
        by true mine route bare a b c d = inl (dropped number whys.Nested t)
        by false false route bare a b c d = inl (dropped number whys.Address t)
        by false true (Some r) bare a b c d = inl (dropped number whys.Route t)
        by false true None true a b c d = inl (dropped number whys.Unshielded t)
        by false true None false a b c d = inr (record {
          agent = agent;
          of = agent-is t.known t.now agent of;
          from = opened-source agent outer packet opens;
          packet = packet;
          inside = opened-reads agent outer packet opens;
          single = λ is. eqb-false packet.head.proto 41 a is;
          mine = eqb-true packet.head.destination.0 (home_of t.known).0 b;
          straight = c;
          shielded = λ mobility. shielded-not packet.head.proto shield mobility d;
        })

    opening : (r : Result Packet ExitFault) → opened agent outer ≡ r → HasRefused (opens_with number shield outer.body r t) ⊎ InTunnel outer
    opening (Ok packet) is = inner-is packet is
    opening (Err NotTunnel) is = inl (dropped number whys.Entry t)
    opening (Err (WrongEntry seen)) is = inl (dropped number whys.Entry t)
    opening (Err (Inner fault)) is = inl (dropped number (packet_why fault) t)

  -- a tunnel packet goes on only so
  tunnelled-is : (packet : Packet) → packet_of bytes ≡ Ok packet → packet.head.proto ≡ 41 → HasRefused (takes number shield bytes t) ⊎ InTunnel packet
  unfolding takes opens
  tunnelled-is packet read tunnel =
      subst (λ (r : Result Packet NotPacket). HasRefused (receives number shield bytes r t) ⊎ InTunnel packet) (sym read)
      (by (checked (standing_of t.known t.now packet.head) (place_in bytes packet) packet))
    where
      from : (agent : Option Address) → agent_of t.known t.now ≡ agent → HasRefused (opens_from agent number shield packet t) ⊎ InTunnel packet
      from None of = inl (dropped number whys.Entry t)
      from (Some agent) of = opening packet agent of (opened agent packet) refl

      by : (r : Result (Option Said) Refusal) → HasRefused (after_checks number shield bytes packet r t) ⊎ InTunnel packet
      by (Err refusal) = inl (answered number bytes packet.head.source refusal t)
      by (Ok message) =
          subst (λ (b : Bool). HasRefused (let u : Transition = (if b then opens number shield packet t else by_role number false shield packet message t) in u) ⊎ InTunnel packet)
          (sym (eq-eqb packet.head.proto 41 tunnel)) (from (agent_of t.known t.now) refl)

  -- what is true of the role's part, whatever packet is handled, is true of the whole
  module _ (X : Type 0) (role : (tunnelled : Bool) (packet : Packet) (message : Option Said) → IsHandled bytes packet tunnelled → message_in packet ≡ message → HasRefused (by_role number tunnelled shield packet message t) ⊎ X) where
    within : (outer packet : Packet) → packet_of bytes ≡ Ok outer → outer.head.proto ≡ 41 → packet_of outer.body ≡ Ok packet → HasRefused (takes_inner number shield outer.body packet t) ⊎ X
    unfolding takes_inner
    within outer packet read tunnel inside =
        by (packet.head.proto == ipv6) (not (packet.head.destination.0 == (home_of t.known).0)) (is_some packet.head.route) ((packet.head.proto == mobility_header) && is_none shield)
        (checked (inner_standing t.known t.now packet.head) (place_in outer.body packet) packet) refl
      where
        by : (nested other routed bare : Bool) (r : Result (Option Said) Refusal) → checked (inner_standing t.known t.now packet.head) (place_in outer.body packet) packet ≡ r
            → HasRefused (let u : Transition = (if nested then noted (Drops number whys.Nested) t else if other then noted (Drops number whys.Address) t else if routed then noted (Drops number whys.Route) t
            else if bare then noted (Drops number whys.Unshielded) t else after_inner_checks number shield outer.body packet r t) in u) ⊎ X
        by true other routed bare r is = inl (dropped number whys.Nested t)
        by false true routed bare r is = inl (dropped number whys.Address t)
        by false false true bare r is = inl (dropped number whys.Route t)
        by false false false true r is = inl (dropped number whys.Unshielded t)
        by false false false false (Err refusal) is = inl (answered number outer.body packet.head.source refusal t)
        by false false false false (Ok message) is =
            role true packet message (Within outer read tunnel inside) (checked-in (inner_standing t.known t.now packet.head) (place_in outer.body packet) packet message is)

    straight-or : (packet : Packet) → packet_of bytes ≡ Ok packet → (b : Bool) → (packet.head.proto == ipv6) ≡ b → (message : Option Said) → message_in packet ≡ message
        → HasRefused (let u : Transition = (if b then opens number shield packet t else by_role number false shield packet message t) in u) ⊎ X
    unfolding opens
    straight-or packet read false other message is = role false packet message (Itself read (λ same. eqb-false packet.head.proto 41 other same)) is
    straight-or packet read true tunnel message is = from (agent_of t.known t.now)
      where
        opened-to : (agent : Address) (r : Result Packet ExitFault) → opened agent packet ≡ r → HasRefused (opens_with number shield packet.body r t) ⊎ X
        opened-to agent (Ok q) so = within packet q read (eqb-true packet.head.proto 41 tunnel) (opened-reads agent packet q so)
        opened-to agent (Err NotTunnel) so = inl (dropped number whys.Entry t)
        opened-to agent (Err (WrongEntry seen)) so = inl (dropped number whys.Entry t)
        opened-to agent (Err (Inner fault)) so = inl (dropped number (packet_why fault) t)

        from : (agent : Option Address) → HasRefused (opens_from agent number shield packet t) ⊎ X
        from None = inl (dropped number whys.Entry t)
        from (Some agent) = opened-to agent (opened agent packet) refl

    all : HasRefused (takes number shield bytes t) ⊎ X
    unfolding takes
    all = by (packet_of bytes) refl
      where
        checks : (packet : Packet) → packet_of bytes ≡ Ok packet → (r : Result (Option Said) Refusal) → checked (standing_of t.known t.now packet.head) (place_in bytes packet) packet ≡ r
            → HasRefused (after_checks number shield bytes packet r t) ⊎ X
        checks packet read (Err refusal) is = inl (answered number bytes packet.head.source refusal t)
        checks packet read (Ok message) is =
            straight-or packet read (packet.head.proto == ipv6) refl message (checked-in (standing_of t.known t.now packet.head) (place_in bytes packet) packet message is)

        by : (r : Result Packet NotPacket) → packet_of bytes ≡ r → HasRefused (receives number shield bytes r t) ⊎ X
        by (Err fault) read = inl (dropped number (packet_why fault) t)
        by (Ok packet) read = checks packet read (checked (standing_of t.known t.now packet.head) (place_in bytes packet) packet) refl

  -- so each message, and each ICMPv6 message, counts by right
  message-is : (tunnelled : Bool) (packet : Packet) (m : Said) → IsHandled bytes packet tunnelled → message_in packet ≡ Some m → HasRefused (takes number shield bytes t) ⊎ IsHeeded t.known t.now tunnelled shield packet m
  message-is tunnelled packet m handled says = all (IsHeeded t.known t.now tunnelled shield packet m) role
    where
      role : (through : Bool) (q : Packet) (message : Option Said) → IsHandled bytes q through → message_in q ≡ message → HasRefused (by_role number through shield q message t) ⊎ IsHeeded t.known t.now tunnelled shield packet m
      role through q message other is =
          let same = one-packet bytes packet q tunnelled through handled other in
          let told : Some m ≡ message = sym says ∙ ap message_in same.0 ∙ is in
          subst (λ (o : Option Said). HasRefused (by_role number through shield q o t) ⊎ IsHeeded t.known t.now tunnelled shield packet m) told
          (subst (λ (x : Packet). HasRefused (by_role number through shield x (Some m) t) ⊎ IsHeeded t.known t.now tunnelled shield packet m) same.0
          (subst (λ (b : Bool). HasRefused (by_role number b shield packet (Some m) t) ⊎ IsHeeded t.known t.now tunnelled shield packet m) same.1
          (said t number tunnelled shield packet m)))

  no-message : (packet : Packet) → packet.head.proto ≡ 58 → message_in packet ≡ None
  no-message packet proto = subst (λ (n : ℕ). (if n == 135 then result_ok (message_of (source_of packet.head) (destination_of packet.head) packet.body) else None) ≡ None) (sym proto) refl

  icmp-is : (tunnelled : Bool) (packet : Packet) (m : icmp.Said) → IsHandled bytes packet tunnelled → packet.head.proto ≡ 58 → icmp_of (source_of packet.head) (destination_of packet.head) packet.body ≡ Ok m
      → HasRefused (takes number shield bytes t) ⊎ IsIcmpHeeded t.known t.now shield m
  icmp-is tunnelled packet m handled proto reads = all (IsIcmpHeeded t.known t.now shield m) role
    where
      role : (through : Bool) (q : Packet) (message : Option Said) → IsHandled bytes q through → message_in q ≡ message → HasRefused (by_role number through shield q message t) ⊎ IsIcmpHeeded t.known t.now shield m
      role through q message other is =
          let same = one-packet bytes packet q tunnelled through handled other in
          let none : None ≡ message = sym (no-message packet proto) ∙ ap message_in same.0 ∙ is in
          subst (λ (o : Option Said). HasRefused (by_role number through shield q o t) ⊎ IsIcmpHeeded t.known t.now shield m) none
          (subst (λ (x : Packet). HasRefused (by_role number through shield x None t) ⊎ IsIcmpHeeded t.known t.now shield m) same.0
          (subst (λ (b : Bool). HasRefused (by_role number b shield packet None t) ⊎ IsIcmpHeeded t.known t.now shield m) same.1
          (icmp-taken t number tunnelled shield packet m proto reads)))

-- what is known as the packet is looked at is what was known before, but for the moment
begins : (k : Known) (now : ℕ) (c : Call) → (noted (Called c) (begun now k)).known ≡ after k (record { at = now; step = Called c })
begins k now c = noted-known after (Called c) (begun now k)

heeded-before : (k : Known) (at : ℕ) (c : Call) (now : ℕ) (tunnelled : Bool) (shield : Option Shield) (packet : Packet) (m : Said)
    → IsHeeded (after k (record { at = at; step = Called c })) now tunnelled shield packet m → IsHeeded k now tunnelled shield packet m
unfolding after
heeded-before k at c now tunnelled shield packet (HomeTest index cookie token options) is = is
heeded-before k at c now tunnelled shield packet (CareofTest index cookie token options) is = is
heeded-before k at c now tunnelled shield packet (Acknowledgement status key sequence lifetime options) is = is
heeded-before k at c now tunnelled shield packet (Error status home options) is = is
heeded-before k at c now tunnelled shield packet (Refresh options) is = is
heeded-before k at c now tunnelled shield packet _ is = tt

icmp-before : (k : Known) (at : ℕ) (c : Call) (now : ℕ) (shield : Option Shield) (m : icmp.Said) → IsIcmpHeeded (after k (record { at = at; step = Called c })) now shield m → IsIcmpHeeded k now shield m
unfolding after
icmp-before k at c now shield (icmp.DiscoverReply identifier agents) is = is
icmp-before k at c now shield (icmp.PrefixReply identifier options) is = is
icmp-before k at c now shield _ is = is

module _ (k : Known) (now number : ℕ) (shield : Option Shield) (bytes : List ℕ) where
  abbrev c : Call
  c = calls.Take number shield bytes

  abbrev t : Transition
  t = noted (Called c) (begun now k)

  pub is-for : (packet : Packet) → packet_of bytes ≡ Ok packet → AreRefusingUnless (transition_of k now c).steps (IsFor (home_of k) k.standing packet.head)
  unfolding does after
  is-for packet read =
      subst (λ (l : Known). HasRefused (takes number shield bytes t) ⊎ IsFor (home_of l) l.standing packet.head) (begins k now c) (addressed t number shield bytes packet read)

  pub is-of-tunnel : (packet : Packet) → packet_of bytes ≡ Ok packet → packet.head.proto ≡ 41
      → AreRefusingUnless (transition_of k now c).steps (IsOfTunnel (home_of k) k.registered k.agent now shield packet)
  unfolding does after
  is-of-tunnel packet read tunnel =
      subst (λ (l : Known). HasRefused (takes number shield bytes t) ⊎ IsOfTunnel (home_of l) l.registered l.agent now shield packet) (begins k now c)
      (subst (λ (n : ℕ). HasRefused (takes number shield bytes t) ⊎ IsOfTunnel (home_of t.known) t.known.registered t.known.agent n shield packet) (noted-now after (Called c) (begun now k))
      (tunnelled-is t number shield bytes packet read tunnel))

  pub is-heeded : (tunnelled : Bool) (packet : Packet) (m : Said) → IsHandled bytes packet tunnelled → message_in packet ≡ Some m
      → AreRefusingUnless (transition_of k now c).steps (IsHeeded k now tunnelled shield packet m)
  unfolding does
  is-heeded tunnelled packet m handled says =
      subst (λ (n : ℕ). HasRefused (takes number shield bytes t) ⊎ IsHeeded k n tunnelled shield packet m) (noted-now after (Called c) (begun now k))
      (by (message-is t number shield bytes tunnelled packet m handled says))
    where
      by : HasRefused (takes number shield bytes t) ⊎ IsHeeded t.known t.now tunnelled shield packet m → HasRefused (takes number shield bytes t) ⊎ IsHeeded k t.now tunnelled shield packet m
      by (inl refused) = inl refused
      by (inr right) = inr (heeded-before k now c t.now tunnelled shield packet m (subst (λ (l : Known). IsHeeded l t.now tunnelled shield packet m) (begins k now c) right))

  pub is-icmp-heeded : (tunnelled : Bool) (packet : Packet) (m : icmp.Said) → IsHandled bytes packet tunnelled → packet.head.proto ≡ 58 → icmp_of (source_of packet.head) (destination_of packet.head) packet.body ≡ Ok m
      → AreRefusingUnless (transition_of k now c).steps (IsIcmpHeeded k now shield m)
  unfolding does
  is-icmp-heeded tunnelled packet m handled proto reads =
      subst (λ (n : ℕ). HasRefused (takes number shield bytes t) ⊎ IsIcmpHeeded k n shield m) (noted-now after (Called c) (begun now k))
      (by (icmp-is t number shield bytes tunnelled packet m handled proto reads))
    where
      by : HasRefused (takes number shield bytes t) ⊎ IsIcmpHeeded t.known t.now shield m → HasRefused (takes number shield bytes t) ⊎ IsIcmpHeeded k t.now shield m
      by (inl refused) = inl refused
      by (inr right) = inr (icmp-before k now c t.now shield m (subst (λ (l : Known). IsIcmpHeeded l t.now shield m) (begins k now c) right))
