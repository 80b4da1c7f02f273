-- A home agent neither registers nor gives up an address that it does not serve.
use Rattle.std.proofs.Common.{◌≡◌, ◌≢◌, ℕ, List, [], ◌∷◌, Bool, true, false, take, drop, ◌⊎◌, inr, refl, sym, ap, ◌∙◌, subst}
use Rattle.std.specs.Prelude.{Option, Some, None, is_some, Result, Ok, Err, not, ◌&&◌, ◌||◌, ◌==◌, nat_lt, if◌then◌else◌, insert, length}
use Rattle.std.specs.List.{list_any, filter, AllByRecursion}
use Rattle.std.proofs.lemmas.List.{take-append-drop}
use Rattle.std.proofs.lemmas.List.Folds.{list_any-append}
use Rattle.std.proofs.lemmas.Bool.{or_parts, eqb-false, ne_eqb}
use Rattle.mip_words.specs.declared.address.Address.{Address}
use Rattle.mip_words.specs.declared.why.Why.{Why}
use Rattle.mip_words.specs.declared.why.Why.TheVariants as whys
use Rattle.mip_ipv6.specs.declared.not_packet.NotPacket.{NotPacket}
use Rattle.mip_ipv6.specs.Packet.{Packet, source_of, destination_of}
use Rattle.mip_ipv6.specs.Reading.{packet_of}
use Rattle.mip_icmp.specs.declared.fault.IcmpFault.{IcmpFault}
use Rattle.mip_icmp.specs.Said as icmp
use Rattle.mip_icmp.specs.Reading.{icmp_of}
use Rattle.mip_mobhdr.specs.Said.{Said}
use Rattle.mip_mobhdr.specs.Said.Said.{Refresh, HomeInit, CareofInit, HomeTest, CareofTest, Update, Acknowledgement, Error}
use Rattle.mip_ipv6.specs.Tunnel.{hop_of, encapsulated}
use Rattle.mip_reception.specs.declared.refusal.Refusal.{Refusal}
use Rattle.mip_reception.specs.Checks.{checked}
use Rattle.mip_reception.specs.Replies.{reply_packet}
use Rattle.mip_entries.proofs.ShowLaws.{answers-noted}
use Rattle.mip_entries.proofs.TransitionLaws.{noted-known}
use Rattle.mip_reception.specs.declared.registration.Registration.{Registration}
use Rattle.mip_reception.specs.Registrations.{registration, home_of, deletes}
use Rattle.mip_rules_agent.specs.declared.identity.Identity.{Identity}
use Rattle.mip_rules_agent.specs.declared.home_binding.HomeBinding.{HomeBinding}
use Rattle.mip_rules_agent.specs.declared.home_row.HomeRow.{HomeRow}
use Rattle.mip_rules_agent.specs.declared.served.Served.{Served}
use Rattle.mip_rules_agent.specs.declared.home_verdict.HomeVerdict.{HomeVerdict}
use Rattle.mip_rules_agent.specs.declared.home_verdict.HomeVerdict.TheVariants.{Refuse, Deny, Accept}
use Rattle.mip_rules_agent.specs.declared.ending.Ending.{Ending}
use Rattle.mip_rules_agent.specs.Known.{Known}
use Rattle.mip_rules_agent.specs.Calls as calls
use Rattle.mip_rules_agent.specs.Calls.{Call}
use Rattle.mip_rules_agent.specs.Steps.{Step, Called, Sends, Registers, Claims, Releases, Denies, Drops, Rang, answer_of, answers_of}
use Rattle.mip_binding.specs.Rows.{find_by}
use Rattle.mip_rules_agent.specs.Questions.{key_of, place_of, without_end, with_end, careof_at, holds, is_served, if_standing, row_if, rows_at, due_ends, after}
use Rattle.mip_rules_agent.specs.Transitions.{Transition, begun, noted}
use Rattle.mip_rules_agent.specs.Verdicts.{is_from, verdict, binding_for}
use Rattle.mip_rules_agent.specs.Rules.{Handing, shield_for, intercepts, is_careof, opens, takes_tunnel, bench, claim_with, acknowledges, denies, claims_if, answers_if, accepts, judged, takes_update, names_agents, advertises, answers_solicitation, takes_icmp, by_proto, by_role, replies, refuses, standing_of, after_checks, place_in, by_destination, receives}
use Rattle.mip_rules_agent.specs.Doing.{takes, releases_all, ticks, advertises_all, plans, does, transition_of}
use Rattle.mip_rules_agent.proofs.Pasts.{served-same}
use Rattle.mip_rules_agent.proofs.VerdictLaws.{sound}
use Rattle.mip_history.proofs.Reasons.{all_append}
use Rattle.mip_law_delivery.proofs.Reaching.{MayAnswer}

module _ (g : ℕ) (own : Address) where
  -- an address that may be given up: by another node, or another one
  abbrev pub may : ℕ → Address → Type 0
  may who a = (who ≢ g) ⊎ (a.0 ≢ own.0)

  abbrev IsFine : Step → Type 0
  IsFine (Registers number home b) = home.0 ≢ own.0
  IsFine (Releases home) = home.0 ≢ own.0
  IsFine _ = Unit {0}

  abbrev is_end_of : Ending → Bool
  is_end_of e = e.home.0 == own.0

  -- the agent does not serve its own address, and no end of a registration is of it
  pub record IsApart (k : Known) : Type 0 where
    pub unserved : is_served k own ≡ false
    pub ends : list_any is_end_of k.ends ≡ false

  none_kept : (p : Ending → Bool) (es : List Ending) → list_any is_end_of es ≡ false → list_any is_end_of (filter p es) ≡ false
  none_kept p [] none = refl
  none_kept p (e ∷ es) none = let parts = or_parts (is_end_of e) (list_any is_end_of es) none in by (p e) parts.0 (none_kept p es parts.1)
    where
      by : (b : Bool) → is_end_of e ≡ false → list_any is_end_of (filter p es) ≡ false → list_any is_end_of (if b then e ∷ filter p es else filter p es) ≡ false
      by true one more = ap (λ (x : Bool). x || list_any is_end_of (filter p es)) one ∙ more
      by false one more = more

  none_inserted : (e : Ending) (n : ℕ) (es : List Ending) → is_end_of e ≡ false → list_any is_end_of es ≡ false → list_any is_end_of (insert es n e) ≡ false
  none_inserted e n es one none =
      let split = or_parts (list_any is_end_of (take n es)) (list_any is_end_of (drop n es)) (sym (list_any-append is_end_of (take n es) (drop n es)) ∙ ap (list_any is_end_of) (take-append-drop n es) ∙ none) in
      list_any-append is_end_of (take n es) (e ∷ drop n es)
      ∙ ap (λ (x : Bool). x || list_any is_end_of (e ∷ drop n es)) split.0
      ∙ ap (λ (x : Bool). x || list_any is_end_of (drop n es)) one ∙ split.1

  ends_after_fine : (k : Known) (at : ℕ) (step : Step) → IsFine step → list_any is_end_of k.ends ≡ false → list_any is_end_of (let x : Known = after k (record { at = at; step = step }) in x.ends) ≡ false
  unfolding after
  ends_after_fine k at (Registers number home b) fine none = by (b.careof.0 == home.0)
    where
      others : list_any is_end_of (without_end home k.ends) ≡ false
      others = none_kept _ k.ends none

      by : (x : Bool) → list_any is_end_of (if x then without_end home k.ends else with_end (record { home = home; end = b.end }) (without_end home k.ends)) ≡ false
      by true = others
      by false = none_inserted (record { home = home; end = b.end }) (place_of b.end.0 (without_end home k.ends)) (without_end home k.ends) (ne home fine) others
        where
          ne : (h : Address) → h.0 ≢ own.0 → (h.0 == own.0) ≡ false
          ne h other = ne_eqb h.0 own.0 other
  ends_after_fine k at Rang fine none = none_kept _ k.ends none
  ends_after_fine k at _ fine none = none

  -- what a transition has answered and knows
  pub record IsGood (t : Transition) : Type 0 where
    pub answers : AllByRecursion (MayAnswer may g) (answers_of t.steps)
    pub apart : IsApart t.known

  fine_answers : (step : Step) → IsFine step → AllByRecursion (MayAnswer may g) (answer_of step)
  fine_answers (Called call) fine = tt
  fine_answers (Sends shield packet) fine = (tt, tt)
  fine_answers (Registers number home b) fine = (tt, tt)
  fine_answers (Claims home) fine = (tt, tt)
  fine_answers (Releases home) fine = (inr fine, tt)
  fine_answers (Denies number status) fine = (tt, tt)
  fine_answers (Drops number why) fine = (tt, tt)
  fine_answers Rang fine = tt

  more : (step : Step) (t : Transition) → IsFine step → IsGood t → IsGood (noted step t)
  more step t fine good =
      let a = good.apart in
      record {
        answers =
            subst (AllByRecursion (MayAnswer may g)) (sym (answers-noted answer_of after step t))
            (all_append (MayAnswer may g) (answers_of t.steps) (answer_of step) good.answers (fine_answers step fine));
        apart = subst IsApart (sym (noted-known after step t)) (record { unserved = served-same own t.known t.now step ∙ a.unserved; ends = ends_after_fine t.known t.now step fine a.ends });
      }

  either : (b : Bool) (x y : Transition) → IsGood x → IsGood y → IsGood (if b then x else y)
  either true x y p q = p
  either false x y p q = q

  -- over a packet that is handed over
  module _ (h : Handing) (known_apart : IsApart h.known) where
    dropped : (why : Why) (t : Transition) → IsGood t → IsGood (noted (Drops h.number why) t)
    dropped why t p = more (Drops h.number why) t tt p

    caught : (home careof : Address) (proto : ℕ) (t : Transition) → IsGood t → IsGood (intercepts h home careof proto t)
    unfolding intercepts
    caught home careof proto t p =
        either (nat_lt (hop_of h.bytes) 2) _ _ (dropped whys.Hop t p)
        (either (nat_lt 65535 (length h.bytes)) _ _ (dropped whys.Size t p) (more (Sends (shield_for h.me.own home proto) (encapsulated h.me.own careof h.bytes)) t tt p))

    opened : (outer : Packet) (r : Result Packet NotPacket) (t : Transition) → IsGood t → IsGood (opens h outer r t)
    opened outer (Err fault) t p = dropped _ t p
    opened outer (Ok q) t p =
        either (not (is_careof h.known h.now q.head.source outer.head.source)) _ _ (dropped whys.Entry t p)
        (either (q.head.destination.0 == h.me.own.0) _ _ (dropped whys.Nested t p)
        (either ((q.head.proto == 135) && not (is_from q.head.source h.shield)) _ _ (dropped whys.Unshielded t p) (more (Sends None outer.body) t tt p)))

    tunnelled : (outer : Packet) (t : Transition) → IsGood t → IsGood (takes_tunnel h outer t)
    unfolding takes_tunnel
    tunnelled outer t p = opened outer (packet_of outer.body) t p

    acknowledged : (r : Registration) (status sequence lifetime : ℕ) (t : Transition) → IsGood t → IsGood (acknowledges h.me r status sequence lifetime t)
    unfolding acknowledges
    acknowledged r status sequence lifetime t p = more (Sends _ _) t tt p

    claimed : (held ends : Bool) (home : Address) (t : Transition) → home.0 ≢ own.0 → IsGood t → IsGood (claims_if held ends home t)
    claimed true true home t other p = more (Releases home) t other p
    claimed true false home t other p = p
    claimed false true home t other p = p
    claimed false false home t other p = more (Claims home) t tt p

    answered : (ack : Bool) (r : Registration) (granted : ℕ) (t : Transition) → IsGood t → IsGood (answers_if ack h.me r granted t)
    answered true r granted t p = acknowledged r 0 r.sequence granted t p
    answered false r granted t p = p

    -- an update that is accepted is of a home that the agent serves
    served : (r : Registration) (home careof : Address) (sequence granted : ℕ)
        → verdict (bench h.me h.known h.now r) h.shield (claim_with (holds h.known (home_of r)) h.claim) r ≡ Accept home careof sequence granted → home.0 ≢ own.0
    served r home careof sequence granted is same =
        let s = sound (bench h.me h.known h.now r) h.shield (claim_with (holds h.known (home_of r)) h.claim) r home careof sequence granted is in
        let fit = s.fit in
        let one : own ≡ home_of r = ap (λ (n : ℕ). let a : Address = record { 0 = n } in a) (sym same) ∙ s.of_home in
        absurd (let both : true ≡ false = sym fit.served ∙ ap (is_served h.known) (sym one) ∙ known_apart.unserved in cc)

    decided : (r : Registration) (v : HomeVerdict) → verdict (bench h.me h.known h.now r) h.shield (claim_with (holds h.known (home_of r)) h.claim) r ≡ v → (t : Transition) → IsGood t
        → IsGood (judged h r (holds h.known (home_of r)) v t)
    unfolding denies accepts
    decided r (Refuse why) is t p = dropped why t p
    decided r (Deny status last) is t p = acknowledged r status last 0 (noted (Denies h.number status) t) (more (Denies h.number status) t tt p)
    decided r (Accept home careof sequence granted) is t p =
        let step : Step = Registers h.number home (binding_for h.now careof sequence granted) in
        let other = served r home careof sequence granted is in
        answered r.ack r granted (claims_if (holds h.known (home_of r)) (deletes r) home (noted step t)) (claimed (holds h.known (home_of r)) (deletes r) home (noted step t) other (more step t other p))

    updated : (r : Registration) (t : Transition) → IsGood t → IsGood (takes_update h r t)
    unfolding takes_update
    updated r t p = decided r _ refl t p

    solicited : (home : Address) (identifier : ℕ) (careof : Option Address) (t : Transition) → IsGood t → IsGood (answers_solicitation h home identifier careof t)
    unfolding advertises
    solicited home identifier None t p = dropped _ t p
    solicited home identifier (Some careof) t p = either _ _ _ (more (Sends _ _) t tt p) (dropped _ t p)

    icmp_taken : (packet : Packet) (r : Result icmp.Said IcmpFault) (t : Transition) → IsGood t → IsGood (takes_icmp h packet r t)
    unfolding names_agents
    icmp_taken packet (Ok (icmp.DiscoverAsk identifier)) t p = more (Sends _ _) t tt p
    icmp_taken packet (Ok (icmp.PrefixAsk identifier)) t p = solicited (source_of packet.head) identifier (careof_at h.known h.now (source_of packet.head)) t p
    icmp_taken packet (Ok (icmp.Parameter pointer quoted)) t p = dropped _ t p
    icmp_taken packet (Ok (icmp.Advertisement hop agent life options)) t p = dropped _ t p
    icmp_taken packet (Ok (icmp.DiscoverReply identifier agents)) t p = dropped _ t p
    icmp_taken packet (Ok (icmp.PrefixReply identifier options)) t p = dropped _ t p
    icmp_taken packet (Err fault) t p = dropped _ t p

    proto_taken : (packet : Packet) (t : Transition) → IsGood t → IsGood (by_proto h packet t)
    proto_taken packet t p =
        either _ _ _ (tunnelled packet t p) (either _ _ _ (icmp_taken packet (icmp_of (source_of packet.head) (destination_of packet.head) packet.body) t p) (dropped _ t p))

    role_taken : (packet : Packet) (message : Option Said) (t : Transition) → IsGood t → IsGood (by_role h packet message t)
    role_taken packet None t p = proto_taken packet t p
    role_taken packet (Some (Update s a f l k t' o)) t p = updated (registration packet.head.source packet.head.home s a f t' o) t p
    role_taken packet (Some (Refresh options)) t p = dropped _ t p
    role_taken packet (Some (HomeInit cookie options)) t p = dropped _ t p
    role_taken packet (Some (CareofInit cookie options)) t p = dropped _ t p
    role_taken packet (Some (HomeTest index cookie token options)) t p = dropped _ t p
    role_taken packet (Some (CareofTest index cookie token options)) t p = dropped _ t p
    role_taken packet (Some (Acknowledgement s k q t' o)) t p = dropped _ t p
    role_taken packet (Some (Error status home options)) t p = dropped _ t p

    replied : (reply : Option (List ℕ)) (t : Transition) → IsGood t → IsGood (replies reply t)
    replied None t p = p
    replied (Some packet) t p = more (Sends None packet) t tt p

    check_taken : (packet : Packet) (r : Result (Option Said) Refusal) (t : Transition) → IsGood t → IsGood (after_checks h packet r t)
    unfolding refuses
    check_taken packet (Err refusal) t p = replied (reply_packet h.me.own packet.head.source h.bytes refusal.reply) (noted (Drops h.number refusal.why) t) (dropped refusal.why t p)
    check_taken packet (Ok message) t p = role_taken packet message t p

    destination_taken : (packet : Packet) (careof : Option Address) (t : Transition) → IsGood t → IsGood (by_destination h packet careof t)
    destination_taken packet (Some careof) t p = caught packet.head.destination careof packet.head.proto t p
    destination_taken packet None t p = check_taken packet (checked (standing_of h.me h.known h.now packet.head) (place_in h.bytes packet) packet) t p

    receipt_taken : (r : Result Packet NotPacket) (t : Transition) → IsGood t → IsGood (receives h r t)
    receipt_taken (Err fault) t p = dropped _ t p
    receipt_taken (Ok packet) t p = destination_taken packet (careof_at h.known h.now packet.head.destination) t p

    taken : (t : Transition) → IsGood t → IsGood (takes h t)
    unfolding takes
    taken t p = receipt_taken (packet_of h.bytes) t p

  released : (es : List Ending) (t : Transition) → list_any is_end_of es ≡ false → IsGood t → IsGood (releases_all es t)
  released [] t none p = p
  released (e ∷ es) t none p =
      let parts = or_parts (is_end_of e) (list_any is_end_of es) none in released es (noted (Releases e.home) t) parts.1 (more (Releases e.home) t (eqb-false e.home.0 own.0 parts.0) p)

  ticked : (t : Transition) → IsGood t → IsGood (ticks t)
  unfolding ticks
  ticked t p =
      let a = p.apart in
      more Rang (releases_all (due_ends t.now t.known.ends) t) tt (released (due_ends t.now t.known.ends) t (none_kept _ t.known.ends a.ends) p)

  advertised : (me : Address) (k : Known) (now : ℕ) (rows : List HomeRow) (t : Transition) → IsGood t → IsGood (advertises_all me k now rows t)
  unfolding advertises
  advertised me k now [] t p = p
  advertised me k now (r ∷ rows) t p = advertised me k now rows _ (more (Sends _ _) t tt p)

  planned : (me : Identity) (t : Transition) → IsGood t → IsGood (plans me t)
  unfolding plans
  planned me t p = advertised me.own t.known t.now (rows_at t.now t.known.homes) t p

  -- whatever the agent is asked
  pub transition_good : (me : Identity) (k : Known) (now : ℕ) (c : Call) → IsApart k → IsGood (transition_of me k now c)
  unfolding does
  transition_good me k now c apart = by c
    where
      start : (c : Call) → IsGood (noted (Called c) (begun now k))
      start c = more (Called c) (begun now k) tt (record { answers = tt; apart = apart })

      by : (c : Call) → IsGood (does me c (begun now k))
      by (calls.Take number shield packet claim) = let s = start (calls.Take number shield packet claim) in taken _ s.apart (noted (Called (calls.Take number shield packet claim)) (begun now k)) s
      by calls.Tick = ticked (noted (Called calls.Tick) (begun now k)) (start calls.Tick)
      by (calls.Plan valid preferred) = planned me (noted (Called (calls.Plan valid preferred)) (begun now k)) (start (calls.Plan valid preferred))
      by (calls.Hear agent preference life) = start (calls.Hear agent preference life)

  -- no home that it shows is its own address
  unfound : (homes : List Served) (now : ℕ) → is_some (find_by key_of own.0 homes) ≡ false → AllByRecursion (λ (r : HomeRow). may g r.home) (rows_at now homes)
  unfound [] now none = tt
  unfound (s ∷ homes) now none = by (s.home.0 == own.0) refl none (λ e. unfound homes now e)
    where
      one : s.home.0 ≢ own.0 → (b : Option HomeBinding) → AllByRecursion (λ (r : HomeRow). may g r.home) (row_if s.home b)
      one other None = tt
      one other (Some b) = (inr other, tt)

      by : (b : Bool) → (s.home.0 == own.0) ≡ b → is_some (let o : Option Served = (if b then Some s else find_by key_of own.0 homes) in o) ≡ false
          → (is_some (find_by key_of own.0 homes) ≡ false → AllByRecursion (λ (r : HomeRow). may g r.home) (rows_at now homes)) → AllByRecursion (λ (r : HomeRow). may g r.home) (rows_at now (s ∷ homes))
      by true same e again = absurd cc
      by false other e again =
          all_append (λ (r : HomeRow). may g r.home) (row_if s.home (if_standing s.home now s.binding)) (rows_at now homes) (one (eqb-false s.home.0 own.0 other) (if_standing s.home now s.binding)) (again e)

  pub rows_good : (k : Known) (now : ℕ) → IsApart k → AllByRecursion (λ (r : HomeRow). may g r.home) (rows_at now k.homes)
  rows_good k now apart = unfound k.homes now apart.unserved
