-- One walk over the calls of a home agent: what each step keeps, each call keeps.
use Rattle.std.proofs.Common.{◌≡◌, ℕ, List, [], ◌∷◌, length, refl, sym, ap, ◌∙◌, subst, arith}
use Rattle.std.specs.Option.{option_map_or}
use Rattle.std.specs.Prelude.{Bool, true, false, not, ◌&&◌, ◌==◌, nat_lt, if◌then◌else◌, Option, Some, None, Result, Ok, Err}
use Rattle.std.proofs.lemmas.Bool.{cond_both, not-false, eq-eqb, eqb-true}
use Rattle.std.proofs.lemmas.Bool.Decides.{nat_tests}
use Rattle.mip_words.specs.declared.address.Address.{Address}
use Rattle.mip_words.specs.declared.shield.Shield.{Shield}
use Rattle.mip_words.specs.declared.why.Why.{Why}
use Rattle.mip_words.specs.declared.why.Why.TheVariants as whys
use Rattle.mip_ipv6.specs.declared.not_packet.NotPacket.{NotPacket}
use Rattle.mip_ipv6.specs.Packet.{Packet, source_of, destination_of}
use Rattle.mip_ipv6.specs.Reading.{packet_of}
use Rattle.mip_icmp.specs.declared.fault.IcmpFault.{IcmpFault}
use Rattle.mip_icmp.specs.Said as icmp
use Rattle.mip_icmp.specs.Reading.{icmp_of}
use Rattle.mip_mobhdr.specs.Said.{Said}
use Rattle.mip_mobhdr.specs.Said.Said.{Update}
use Rattle.mip_ipv6.specs.Tunnel.{hop_of}
use Rattle.mip_discovery.specs.Heard.{live}
use Rattle.mip_reception.specs.declared.refusal.Refusal.{Refusal}
use Rattle.mip_mobhdr.specs.OptionValues.{Values}
use Rattle.mip_reception.specs.Checks.{message_at, checked}
use Rattle.mip_reception.specs.Replies.{reply_packet}
use Rattle.mip_reception.specs.Words.{packet_why}
use Rattle.mip_reception.proofs.Reasons.{RefusesRight as Refuses, packet_why-dropped, checked-right}
use Rattle.mip_reception.proofs.CheckedMessages.{checked_message, message_read, message_proto, update_read, update_type}
use Rattle.mip_reception.specs.declared.registration.Registration.{Registration}
use Rattle.mip_reception.specs.Registrations.{registration, registration_said, home_of, deletes}
use Rattle.mip_rules_agent.specs.declared.identity.Identity.{Identity}
use Rattle.mip_rules_agent.specs.declared.home_row.HomeRow.{HomeRow}
use Rattle.mip_rules_agent.specs.declared.home_verdict.HomeVerdict.{HomeVerdict}
use Rattle.mip_rules_agent.specs.declared.home_verdict.HomeVerdict.TheVariants.{Refuse, Deny, Accept}
use Rattle.mip_rules_agent.specs.declared.ending.Ending.{Ending}
use Rattle.mip_rules_agent.specs.Known.{Known}
use Rattle.mip_rules_agent.specs.Calls as calls
use Rattle.mip_rules_agent.specs.Calls.{Call}
use Rattle.mip_rules_agent.specs.CallsLaws.{bytes_of}
use Rattle.mip_rules_agent.specs.Steps.{Step, Called, Sends, Registers, Claims, Releases, Denies, Drops, Rang, is_call}
use Rattle.mip_rules_agent.specs.Questions.{careof_at, holds, valid_at, preferred_at, rows_at, due_ends}
use Rattle.mip_rules_agent.specs.Transitions.{Transition, noted}
use Rattle.mip_rules_agent.specs.Verdicts.{is_from, verdict, binding_for}
use Rattle.mip_entries.specs.Reasons.{is_dropped_why}
use Rattle.mip_rules_agent.proofs.Reasons.{RefusesRight, verdict-right}
use Rattle.mip_rules_agent.specs.Rules.{Handing, intercepts, is_careof, opens, takes_tunnel, bench, claim_with, acknowledges, denies, claims_if, answers_if, accepts, judged, takes_update, names_agents, advertises, answers_solicitation, takes_icmp, by_proto, by_role, replies, refuses, standing_of, after_checks, place_in, by_destination, receives}
use Rattle.mip_rules_agent.specs.Doing.{takes, releases_all, ticks, advertises_all, plans, handing, handles, does}
use Rattle.mip_rules_agent.specs.Soundness.{IsShielded}
use Rattle.mip_outside.specs.declared.claim.Claim.{Claim}
use Rattle.mip_rules_agent.specs.Taken.{IsUpdateIn}
use Rattle.mip_rules_agent.specs.Answering.{verdict_at, Tells}
use Rattle.mip_rules_agent.specs.Rights.{IsTold, SendsRightly}
use Rattle.mip_rules_agent.proofs.VerdictLaws.{shielded_is, IsHeard, verdict-heard}
use Rattle.mip_rules_agent.specs.Sendings.{SendsInto, SendsOut, SendsAck, SendsReply, SendsAgents, SendsPrefix, SendsOwn}

-- whichever way a choice goes
either : (P : Transition → Type 0) (b : Bool) (x y : Transition) → P x → P y → P (if b then x else y)
either P true x y p q = p
either P false x y p q = q

first_of : (a b : Bool) → (a && b) ≡ true → a ≡ true
first_of true b e = refl
first_of false b e = e

-- a message that is an update is the update in the packet
pub update_in : (bytes : List ℕ) (p : Packet) (place s : ℕ) (a f l key : Bool) (t : ℕ) (o : Values) → packet_of bytes ≡ Ok p → message_at place p ≡ Ok (Some (Update s a f l key t o))
    → IsUpdateIn bytes (registration p.head.source p.head.home s a f t o)
update_in bytes p place s a f l key t o read is = record {
  packet = p;
  read = read;
  mobility = message_proto place p (Update s a f l key t o) is;
  of_type = update_type p.body s a f l key t o (source_of p.head) (destination_of p.head) (message_read place p (Update s a f l key t o) is);
  asks = ap (registration_said p.head.source p.head.home)
      (update_read p.body s a f l key t o (source_of p.head) (destination_of p.head) (message_read place p (Update s a f l key t o) is));
}

-- the registered care-of address of a home is this one
pub careof-is : (k : Known) (now : ℕ) (home entry : Address) → is_careof k now home entry ≡ true → (careof : Address) × (careof_at k now home ≡ Some careof) × (careof.0 ≡ entry.0)
careof-is k now home entry is = by (careof_at k now home) refl is
  where
    by : (o : Option Address) → careof_at k now home ≡ o → option_map_or (λ (a : Address). a.0 == entry.0) o false ≡ true → (careof : Address) × (careof_at k now home ≡ Some careof) × (careof.0 ≡ entry.0)
    by None at e = absurd cc
    by (Some careof) at e = (careof, at, eqb-true careof.0 entry.0 e)

-- a mobility message that is not refused for want of a shield has that of its source
shielded-from : (proto : ℕ) (home : Address) (shield : Option Shield) → proto ≡ 135 → ((proto == 135) && not (is_from home shield)) ≡ false → IsShielded shield home
shielded-from proto home shield mobility bare =
    let is : (proto == 135) ≡ true = eq-eqb proto 135 mobility in
    let both : (true && not (is_from home shield)) ≡ false = subst (λ (b : Bool). (b && not (is_from home shield)) ≡ false) is bare in
    shielded_is shield home (not-false _ both)

-- over a packet that is handed over
module _ (h : Handing) (P : Transition → Type 0) (more : (step : Step) (t : Transition) → is_call step ≡ false → SendsRightly h.me h.known h.now h.shield h.bytes h.claim step → P t → P (noted step t)) where
  every-drop : (why : Why) → is_dropped_why why ≡ true → (t : Transition) → P t → P (noted (Drops h.number why) t)
  every-drop why right t p = more (Drops h.number why) t refl right p

  every-interception : (home careof : Address) (proto : ℕ) → careof_at h.known h.now home ≡ Some careof → (t : Transition) → P t → P (intercepts h home careof proto t)
  unfolding intercepts
  every-interception home careof proto at t p =
      either P (nat_lt (hop_of h.bytes) 2) _ _ (every-drop whys.Hop refl t p)
      (cond_both (nat_lt 65535 (length h.bytes)) _ _ P (λ big. every-drop whys.Size refl t p)
      (λ fits. more _ t refl (SendsInto home careof proto, (refl, refl, (let f : nat_lt 65535 (length h.bytes) ≡ false = fits in grind (arith, nat_tests, f))), at) p))

  every-opening : (outer : Packet) → packet_of h.bytes ≡ Ok outer → outer.head.proto ≡ 41 → (r : Result Packet NotPacket) → packet_of outer.body ≡ r → (t : Transition) → P t → P (opens h outer r t)
  every-opening outer read tunnel (Err fault) is t p = every-drop (packet_why fault) (packet_why-dropped fault) t p
  every-opening outer read tunnel (Ok q) is t p =
      cond_both (not (is_careof h.known h.now q.head.source outer.head.source)) _ _ P (λ other. every-drop whys.Entry refl t p) (λ from.
      cond_both (q.head.destination.0 == h.me.own.0) _ _ P (λ nested. every-drop whys.Nested refl t p) (λ onward.
      cond_both ((q.head.proto == 135) && not (is_from q.head.source h.shield)) _ _ P (λ bare. every-drop whys.Unshielded refl t p) (λ shielded.
      let entry = careof-is h.known h.now q.head.source outer.head.source (not-false _ from) in
      more (Sends None outer.body) t refl (
        SendsOut outer q,
        (refl, refl, read, tunnel, is),
        record {
          careof = entry.0;
          registered = entry.1;
          from = entry.2;
          onward = λ same. absurd (let both : true ≡ false = sym (eq-eqb q.head.destination.0 h.me.own.0 same) ∙ onward in cc);
          shielded = λ mobility. shielded-from q.head.proto q.head.source h.shield mobility shielded;
        },
      ) p)))

  every-tunnel : (outer : Packet) → packet_of h.bytes ≡ Ok outer → outer.head.proto ≡ 41 → (t : Transition) → P t → P (takes_tunnel h outer t)
  unfolding takes_tunnel
  every-tunnel outer read tunnel t p = every-opening outer read tunnel (packet_of outer.body) refl t p

  every-acknowledgement : (r : Registration) (status sequence lifetime : ℕ) → IsTold h.me h.known h.now h.shield h.bytes h.claim r status sequence lifetime
      → (t : Transition) → P t → P (acknowledges h.me r status sequence lifetime t)
  unfolding acknowledges
  every-acknowledgement r status sequence lifetime told t p = more _ t refl (SendsAck r status sequence lifetime, (refl, refl), told) p

  every-claim : (held ends : Bool) (home : Address) (t : Transition) → P t → P (claims_if held ends home t)
  every-claim true true home t p = more (Releases home) t refl tt p
  every-claim true false home t p = p
  every-claim false true home t p = p
  every-claim false false home t p = more (Claims home) t refl tt p

  every-answer : (ack : Bool) (r : Registration) (granted : ℕ) → IsTold h.me h.known h.now h.shield h.bytes h.claim r 0 r.sequence granted → (t : Transition) → P t → P (answers_if ack h.me r granted t)
  every-answer true r granted told t p = every-acknowledgement r 0 r.sequence granted told t p
  every-answer false r granted told t p = p

  module _ (r : Registration) (is_in : IsUpdateIn h.bytes r) where
    told-of : (v : HomeVerdict) → verdict_at h.me h.known h.now h.shield h.claim r ≡ v → IsShielded h.shield (home_of r) → (status sequence lifetime : ℕ) → Tells r v status sequence lifetime
        → IsTold h.me h.known h.now h.shield h.bytes h.claim r status sequence lifetime
    told-of v is under status sequence lifetime tells =
        record { shielded = under; is_in = is_in; tells = subst (λ (w : HomeVerdict). Tells r w status sequence lifetime) (sym is) tells }

    every-judged : (held : Bool) (v : HomeVerdict) → verdict_at h.me h.known h.now h.shield h.claim r ≡ v → RefusesRight v → IsHeard h.shield (home_of r) v → (t : Transition) → P t → P (judged h r held v t)
    unfolding denies accepts
    every-judged held (Refuse why) is right heard t p = every-drop why right t p
    every-judged held (Deny status last) is right heard t p =
        every-acknowledgement r status last 0 (told-of (Deny status last) is heard status last 0 (refl, refl, refl)) (noted (Denies h.number status) t)
        (more (Denies h.number status) t refl (record { update = r; is_in = is_in; last = last; verdict_is = is }) p)
    every-judged held (Accept home careof sequence granted) is right heard t p =
        let step : Step = Registers h.number home (binding_for h.now careof sequence granted) in
        every-answer r.ack r granted (told-of (Accept home careof sequence granted) is heard 0 r.sequence granted (refl, refl, refl)) (claims_if held (deletes r) home (noted step t))
        (every-claim held (deletes r) home (noted step t) (more step t refl tt p))

    every-update : (t : Transition) → P t → P (takes_update h r t)
    unfolding takes_update
    every-update t p =
        let held : Bool = holds h.known (home_of r) in
        let b = bench h.me h.known h.now r in
        every-judged held (verdict b h.shield (claim_with held h.claim) r) refl (verdict-right b h.shield (claim_with held h.claim) r) (verdict-heard b h.shield (claim_with held h.claim) r) t p

  every-solicitation : (home : Address) (identifier : ℕ) (careof : Option Address) → careof_at h.known h.now home ≡ careof → (t : Transition) → P t → P (answers_solicitation h home identifier careof t)
  unfolding advertises
  every-solicitation home identifier None at t p = every-drop whys.Role refl t p
  every-solicitation home identifier (Some careof) at t p =
      cond_both (is_from home h.shield) _ _ P
      (λ from. more _ t refl (SendsPrefix home careof identifier (valid_at h.known h.now) (preferred_at h.known h.now), (refl, refl), (shielded_is h.shield home from, at)) p)
      (λ other. every-drop whys.Role refl t p)

  every-icmp : (packet : Packet) (r : Result icmp.Said IcmpFault) (t : Transition) → P t → P (takes_icmp h packet r t)
  unfolding names_agents
  every-icmp packet (Ok (icmp.DiscoverAsk identifier)) t p =
      more _ t refl (SendsAgents packet.head.source identifier (live h.now h.known.agents.agents), (refl, refl), tt) p
  every-icmp packet (Ok (icmp.PrefixAsk identifier)) t p =
      every-solicitation (source_of packet.head) identifier (careof_at h.known h.now (source_of packet.head)) refl t p
  every-icmp packet _ t p = every-drop whys.Role refl t p

  every-proto : (packet : Packet) → packet_of h.bytes ≡ Ok packet → (t : Transition) → P t → P (by_proto h packet t)
  every-proto packet read t p =
      cond_both ((packet.head.proto == 41) && (packet.head.destination.0 == h.me.own.0)) _ _ P
      (λ both. every-tunnel packet read (eqb-true packet.head.proto 41 (first_of (packet.head.proto == 41) (packet.head.destination.0 == h.me.own.0) both)) t p)
      (λ other. either P (packet.head.proto == 58) _ _
      (every-icmp packet (icmp_of (source_of packet.head) (destination_of packet.head) packet.body) t p)
      (every-drop whys.Role refl t p))

  every-role : (packet : Packet) → packet_of h.bytes ≡ Ok packet → (message : Option Said) → message_at (place_in h.bytes packet) packet ≡ Ok message → (t : Transition) → P t → P (by_role h packet message t)
  every-role packet read None is t p = every-proto packet read t p
  every-role packet read (Some (Update s a f l k t' o)) is t p =
      every-update (registration packet.head.source packet.head.home s a f t' o) (update_in h.bytes packet (place_in h.bytes packet) s a f l k t' o read is) t p
  every-role packet read (Some _) is t p = every-drop whys.Role refl t p

  every-reply : (source : Address) (refusal : Refusal) (reply : Option (List ℕ)) → reply_packet h.me.own source h.bytes refusal.reply ≡ reply → (t : Transition) → P t → P (replies reply t)
  every-reply source refusal None is t p = p
  every-reply source refusal (Some packet) is t p = more (Sends None packet) t refl (SendsReply source refusal.reply, (refl, is), tt) p

  every-check : (packet : Packet) → packet_of h.bytes ≡ Ok packet → (r : Result (Option Said) Refusal) → ((m : Option Said) → r ≡ Ok m → message_at (place_in h.bytes packet) packet ≡ Ok m) → Refuses r
      → (t : Transition) → P t → P (after_checks h packet r t)
  unfolding refuses
  every-check packet read (Err refusal) is right t p =
      every-reply packet.head.source refusal (reply_packet h.me.own packet.head.source h.bytes refusal.reply) refl
      (noted (Drops h.number refusal.why) t) (every-drop refusal.why right t p)
  every-check packet read (Ok message) is right t p = every-role packet read message (is message refl) t p

  every-destination : (packet : Packet) → packet_of h.bytes ≡ Ok packet → (careof : Option Address) → careof_at h.known h.now packet.head.destination ≡ careof → (t : Transition) → P t → P (by_destination h packet careof t)
  every-destination packet read (Some careof) at t p = every-interception packet.head.destination careof packet.head.proto at t p
  every-destination packet read None at t p =
      let standing = standing_of h.me h.known h.now packet.head in
      every-check packet read (checked standing (place_in h.bytes packet) packet) (checked_message standing (place_in h.bytes packet) packet) (checked-right standing (place_in h.bytes packet) packet) t p

  every-receipt : (r : Result Packet NotPacket) → packet_of h.bytes ≡ r → (t : Transition) → P t → P (receives h r t)
  every-receipt (Err fault) read t p = every-drop (packet_why fault) (packet_why-dropped fault) t p
  every-receipt (Ok packet) read t p = every-destination packet read (careof_at h.known h.now packet.head.destination) refl t p

  pub every-take : (t : Transition) → P t → P (takes h t)
  unfolding takes
  every-take t p = every-receipt (packet_of h.bytes) refl t p

-- over the other calls
module _ (me : Identity) (P : Transition → Type 0) (more : (step : Step) (t : Transition) → is_call step ≡ false → SendsOwn me [] step → P t → P (noted step t)) where
  every-release : (es : List Ending) (t : Transition) → P t → P (releases_all es t)
  every-release [] t p = p
  every-release (e ∷ es) t p = every-release es (noted (Releases e.home) t) (more (Releases e.home) t refl tt p)

  every-tick : (t : Transition) → P t → P (ticks t)
  unfolding ticks
  every-tick t p =
      let rung : Transition = releases_all (due_ends t.now t.known.ends) t in
      more Rang rung refl tt (every-release (due_ends t.now t.known.ends) t p)

  every-advertisement : (k : Known) (now : ℕ) (rows : List HomeRow) (t : Transition) → P t → P (advertises_all me.own k now rows t)
  unfolding advertises
  every-advertisement k now [] t p = p
  every-advertisement k now (r ∷ rows) t p =
      every-advertisement k now rows _ (more _ t refl (SendsPrefix r.home r.careof 0 (valid_at k now) (preferred_at k now), (refl, refl)) p)

  every-plan : (t : Transition) → P t → P (plans me t)
  unfolding plans
  every-plan t p = every-advertisement t.known t.now (rows_at t.now t.known.homes) t p

-- what is sent by right is sent
own-of : (me : Identity) (k : Known) (now : ℕ) (shield : Option Shield) (bytes : List ℕ) (claim : Claim) (step : Step) → SendsRightly me k now shield bytes claim step → SendsOwn me bytes step
own-of me k now shield bytes claim (Sends under packet) right = (right.0, right.1)
own-of me k now shield bytes claim (Drops number why) right = right
own-of me k now shield bytes claim _ right = tt

module _ (me : Identity) (P : Transition → Type 0) where
  pub every-handles : (c : Call) → ((step : Step) (t : Transition) → is_call step ≡ false → SendsOwn me (bytes_of c) step → P t → P (noted step t)) → (t : Transition) → P t → P (handles me c t)
  every-handles (calls.Take number shield packet claim) more t p =
      every-take (handing me t.now t.known number shield packet claim) P (λ step u quiet right q. more step u quiet (own-of me t.known t.now shield packet claim step right) q) t p
  every-handles calls.Tick more t p = every-tick me P more t p
  every-handles (calls.Plan valid preferred) more t p = every-plan me P more t p
  every-handles (calls.Hear agent preference life) more t p = p

  pub every-call : (c : Call) → ((step : Step) (t : Transition) → is_call step ≡ false → SendsOwn me (bytes_of c) step → P t → P (noted step t)) → ((t : Transition) → P t → P (noted (Called c) t)) → (t : Transition) → P t → P (does me c t)
  unfolding does
  every-call c more called t p = every-handles c more (noted (Called c) t) (called t p)
