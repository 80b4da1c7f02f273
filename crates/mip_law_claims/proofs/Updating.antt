-- What a home agent does about a packet that it is handed, step by step: it claims and gives up nothing, or it accepts an update.
use Rattle.std.proofs.Common.{◌≡◌, ℕ, List, [], ◌∷◌, ◌++◌, Bool, true, false, ◌⊎◌, inl, inr, refl, sym, ap, subst, length}
use Rattle.std.specs.Prelude.{Option, Some, None, Result, Ok, Err, not, ◌==◌, ◌&&◌, nat_lt, if◌then◌else◌}
use Rattle.std.specs.List.{list_any}
use Rattle.mip_words.specs.declared.address.Address.{Address}
use Rattle.mip_words.specs.declared.shield.Shield.{Shield}
use Rattle.mip_words.specs.declared.why.Why.{Why}
use Rattle.mip_ipv6.specs.declared.not_packet.NotPacket.{NotPacket}
use Rattle.mip_ipv6.specs.Packet.{Packet, source_of, destination_of}
use Rattle.mip_ipv6.specs.Reading.{packet_of}
use Rattle.mip_icmp.specs.declared.fault.IcmpFault.{IcmpFault}
use Rattle.mip_icmp.specs.Said as icmp
use Rattle.mip_icmp.specs.Reading.{icmp_of}
use Rattle.mip_mobhdr.specs.Said.{Said}
use Rattle.mip_mobhdr.specs.Said.Said.{Refresh, HomeInit, CareofInit, HomeTest, CareofTest, Update, Acknowledgement, Error}
use Rattle.mip_ipv6.specs.Tunnel.{hop_of}
use Rattle.mip_outside.specs.declared.claim.Claim.{Claim}
use Rattle.mip_entries.specs.Stamped.{stamped}
use Rattle.mip_entries.specs.Transitions.{known_by}
use Rattle.mip_entries.proofs.TransitionLaws.{noted_all, noted_all-is}
use Rattle.mip_reception.specs.declared.refusal.Refusal.{Refusal}
use Rattle.mip_reception.specs.Checks.{checked}
use Rattle.mip_reception.specs.Replies.{reply_packet}
use Rattle.mip_reception.specs.declared.registration.Registration.{Registration}
use Rattle.mip_reception.specs.Registrations.{registration, home_of, deletes}
use Rattle.mip_reception.specs.Acks.{ack_packet}
use Rattle.mip_reception.specs.Statuses as statuses
use Rattle.mip_rules_agent.specs.declared.identity.Identity.{Identity}
use Rattle.mip_rules_agent.specs.declared.home_verdict.HomeVerdict.{HomeVerdict}
use Rattle.mip_rules_agent.specs.declared.home_verdict.HomeVerdict.TheVariants.{Refuse, Deny, Accept}
use Rattle.mip_rules_agent.specs.Known.{Known}
use Rattle.mip_rules_agent.specs.Calls as calls
use Rattle.mip_rules_agent.specs.Calls.{home_in}
use Rattle.mip_rules_agent.specs.Messages.{shield_to}
use Rattle.mip_rules_agent.specs.Steps.{Step, Called, Sends, Registers, Claims, Releases, Denies, Drops}
use Rattle.mip_rules_agent.specs.Refusing.{is_claim}
use Rattle.mip_rules_agent.specs.Questions.{careof_at, holds, after}
use Rattle.mip_rules_agent.specs.Transitions.{Transition, begun, noted}
use Rattle.mip_rules_agent.specs.Verdicts.{is_from, verdict, binding_for}
use Rattle.mip_rules_agent.specs.Rules.{Handing, intercepts, is_careof, opens, takes_tunnel, bench, claim_with, acknowledges, denies, claims_if, answers_if, accepts, judged, takes_update, names_agents, advertises, answers_solicitation, takes_icmp, by_proto, by_role, replies, refuses, standing_of, after_checks, place_in, by_destination, receives}
use Rattle.mip_rules_agent.specs.Doing.{takes, handing, does, transition_of}

-- what is claimed and given up with an update that was accepted
abbrev pub claiming_steps : (held ends : Bool) → Address → List Step
claiming_steps true true home = Releases home ∷ []
claiming_steps true false home = []
claiming_steps false true home = []
claiming_steps false false home = Claims home ∷ []

-- its acknowledgement, if it asks for one
abbrev pub acknowledging_steps : Bool → Identity → Registration → ℕ → List Step
acknowledging_steps true me r granted = Sends (shield_to me.own (home_of r)) (ack_packet me.own r statuses.accepted r.sequence granted None) ∷ []
acknowledging_steps false me r granted = []

-- these steps were taken at a moment, where this was known
abbrev pub by_steps : ℕ → Known → List Step → Transition
by_steps now k steps = record { now = now; known = known_by after k (stamped now steps); steps = steps }

module _ (me : Identity) (k : Known) (now number : ℕ) (shield : Option Shield) (bytes : List ℕ) (claim : Claim) where
  abbrev pub call : Step
  call = Called (calls.Take number shield bytes claim)

  -- nothing is claimed or given up, and the homes and their ends are as they were
  abbrev pub IsStill : Transition → Type 0
  IsStill t = (list_any is_claim t.steps ≡ false) × (t.known.homes ≡ k.homes) × (t.known.ends ≡ k.ends)

  -- an update is accepted
  pub record IsAccepted (t : Transition) : Type 0 where
    pub update : Registration
    pub of_packet : home_in (packet_of bytes) ≡ (home_of update).0
    pub home : Address
    pub careof : Address
    pub sequence : ℕ
    pub granted : ℕ
    pub verdict_is : verdict (bench me k now update) shield (claim_with (holds k (home_of update)) claim) update ≡ Accept home careof sequence granted
    pub is : t ≡ by_steps now k (call ∷ Registers number home (binding_for now careof sequence granted)
        ∷ (claiming_steps (holds k (home_of update)) (deletes update) home ++ acknowledging_steps update.ack me update granted))

  abbrev pub Is : Transition → Type 0
  Is t = IsStill t ⊎ IsAccepted t

  abbrev given : Transition
  given = noted call (begun now k)

  abbrev h : Handing
  h = handing me given.now given.known number shield bytes claim

  -- the same, where what the call leaves known is written out
  abbrev opened : Handing
  opened = handing me now (after k (record { at = now; step = call })) number shield bytes claim

  choice : (b : Bool) (x y : Transition) → Is x → Is y → Is (if b then x else y)
  choice true x y first second = first
  choice false x y first second = second

  dropped : (why : Why) → Is (noted (Drops number why) given)
  unfolding after
  dropped why = subst Is (sym (noted_all-is after (call ∷ Drops number why ∷ []) (begun now k))) (inl (refl, refl, refl))

  sent : (under : Option Shield) (packet : List ℕ) → Is (noted (Sends under packet) given)
  unfolding after
  sent under packet = subst Is (sym (noted_all-is after (call ∷ Sends under packet ∷ []) (begun now k))) (inl (refl, refl, refl))

  two : (first last : Step) → IsStill (by_steps now k (call ∷ first ∷ last ∷ [])) → Is (noted last (noted first given))
  two first last still = subst Is (sym (noted_all-is after (call ∷ first ∷ last ∷ []) (begun now k))) (inl still)

  module _ (update : Registration) (home careof : Address) (sequence granted : ℕ) where
    abbrev first : Transition
    first = noted (Registers number home (binding_for now careof sequence granted)) given

    abbrev behind : (held ends ack : Bool) → Transition
    behind held ends ack = answers_if ack me update granted (claims_if held ends home first)

    abbrev steps : (held ends ack : Bool) → List Step
    steps held ends ack = call ∷ Registers number home (binding_for now careof sequence granted) ∷ (claiming_steps held ends home ++ acknowledging_steps ack me update granted)

    stepwise : (rest : List Step) → noted_all after rest first ≡ by_steps now k (call ∷ Registers number home (binding_for now careof sequence granted) ∷ rest)
    stepwise rest = noted_all-is after (call ∷ Registers number home (binding_for now careof sequence granted) ∷ rest) (begun now k)

    answered : (held ends ack : Bool) → behind held ends ack ≡ by_steps now k (steps held ends ack)
    unfolding acknowledges
    answered true true true = stepwise (Releases home ∷ acknowledging_steps true me update granted)
    answered true true false = stepwise (Releases home ∷ [])
    answered true false true = stepwise (acknowledging_steps true me update granted)
    answered true false false = stepwise []
    answered false true true = stepwise (acknowledging_steps true me update granted)
    answered false true false = stepwise []
    answered false false true = stepwise (Claims home ∷ acknowledging_steps true me update granted)
    answered false false false = stepwise (Claims home ∷ [])

  of_verdict : (r : Registration) → home_in (packet_of bytes) ≡ (home_of r).0 → (v : HomeVerdict)
      → verdict (bench me k now r) shield (claim_with (holds k (home_of r)) claim) r ≡ v → Is (judged opened r (holds k (home_of r)) v given)
  unfolding after denies accepts acknowledges
  of_verdict r read (Refuse why) is = dropped why
  of_verdict r read (Deny status last) is = two (Denies number status) (Sends (shield_to me.own (home_of r)) (ack_packet me.own r status last 0 None)) (refl, refl, refl)
  of_verdict r read (Accept home careof sequence granted) is = inr (record {
    update = r;
    of_packet = read;
    home = home;
    careof = careof;
    sequence = sequence;
    granted = granted;
    verdict_is = is;
    is = answered r home careof sequence granted (holds k (home_of r)) (deletes r) r.ack;
  })

  of_update : (r : Registration) → home_in (packet_of bytes) ≡ (home_of r).0 → Is (takes_update h r given)
  unfolding takes_update after
  of_update r read =
      subst (λ (u : Transition). Is (takes_update (handing me u.now u.known number shield bytes claim) r given)) (sym (noted_all-is after (call ∷ []) (begun now k)))
      (of_verdict r read (verdict (bench me k now r) shield (claim_with (holds k (home_of r)) claim) r) refl)

  of_interception : (home careof : Address) (proto : ℕ) → Is (intercepts h home careof proto given)
  unfolding intercepts
  of_interception home careof proto =
      choice (nat_lt (hop_of bytes) 2) _ _ (dropped _) (choice (nat_lt 65535 (length bytes)) _ _ (dropped _) (sent _ _))

  of_tunnel : (outer : Packet) → Is (takes_tunnel h outer given)
  unfolding takes_tunnel
  of_tunnel outer = by (packet_of outer.body)
    where
      by : (r : Result Packet NotPacket) → Is (opens h outer r given)
      by (Err fault) = dropped _
      by (Ok q) =
          choice (not (is_careof given.known given.now q.head.source outer.head.source)) _ _ (dropped _)
          (choice (q.head.destination.0 == me.own.0) _ _ (dropped _)
          (choice ((q.head.proto == 135) && not (is_from q.head.source shield)) _ _ (dropped _) (sent _ _)))

  of_solicitation : (home : Address) (identifier : ℕ) (careof : Option Address) → Is (answers_solicitation h home identifier careof given)
  unfolding advertises
  of_solicitation home identifier None = dropped _
  of_solicitation home identifier (Some careof) = choice (is_from home shield) _ _ (sent _ _) (dropped _)

  of_icmp : (p : Packet) (r : Result icmp.Said IcmpFault) → Is (takes_icmp h p r given)
  unfolding names_agents
  of_icmp p (Ok (icmp.DiscoverAsk identifier)) = sent _ _
  of_icmp p (Ok (icmp.PrefixAsk identifier)) = of_solicitation (source_of p.head) identifier (careof_at given.known given.now (source_of p.head))
  of_icmp p (Ok (icmp.Parameter pointer quoted)) = dropped _
  of_icmp p (Ok (icmp.Advertisement hop agent life options)) = dropped _
  of_icmp p (Ok (icmp.DiscoverReply identifier agents)) = dropped _
  of_icmp p (Ok (icmp.PrefixReply identifier options)) = dropped _
  of_icmp p (Err fault) = dropped _

  of_proto : (p : Packet) → Is (by_proto h p given)
  of_proto p =
      choice ((p.head.proto == 41) && (p.head.destination.0 == me.own.0)) _ _ (of_tunnel p)
      (choice (p.head.proto == 58) _ _ (of_icmp p (icmp_of (source_of p.head) (destination_of p.head) p.body)) (dropped _))

  of_role : (p : Packet) (m : Option Said) → packet_of bytes ≡ Ok p → Is (by_role h p m given)
  of_role p None read = of_proto p
  of_role p (Some (Update s a f l key t o)) read = of_update (registration p.head.source p.head.home s a f t o) (ap home_in read)
  of_role p (Some (Refresh options)) read = dropped _
  of_role p (Some (HomeInit cookie options)) read = dropped _
  of_role p (Some (CareofInit cookie options)) read = dropped _
  of_role p (Some (HomeTest index cookie token options)) read = dropped _
  of_role p (Some (CareofTest index cookie token options)) read = dropped _
  of_role p (Some (Acknowledgement s key q t o)) read = dropped _
  of_role p (Some (Error s home options)) read = dropped _

  of_reply : (reply : Option (List ℕ)) (why : Why) → Is (replies reply (noted (Drops number why) given))
  unfolding after
  of_reply None why = dropped why
  of_reply (Some packet) why = two (Drops number why) (Sends None packet) (refl, refl, refl)

  of_checks : (p : Packet) (r : Result (Option Said) Refusal) → packet_of bytes ≡ Ok p → Is (after_checks h p r given)
  unfolding refuses
  of_checks p (Err refusal) read = of_reply (reply_packet me.own p.head.source bytes refusal.reply) refusal.why
  of_checks p (Ok m) read = of_role p m read

  of_destination : (p : Packet) (careof : Option Address) → packet_of bytes ≡ Ok p → Is (by_destination h p careof given)
  of_destination p (Some careof) read = of_interception p.head.destination careof p.head.proto
  of_destination p None read = of_checks p (checked (standing_of me given.known given.now p.head) (place_in bytes p) p) read

  of_packet : (r : Result Packet NotPacket) → packet_of bytes ≡ r → Is (receives h r given)
  of_packet (Err fault) read = dropped _
  of_packet (Ok p) read = of_destination p (careof_at given.known given.now p.head.destination) read

  pub taking_is : Is (transition_of me k now (calls.Take number shield bytes claim))
  unfolding does takes
  taking_is = of_packet (packet_of bytes) refl
