-- What a home agent does about a packet that it is handed: it registers nothing, or at once the update in the packet, with
-- the verdict Accept; where it registers nothing, its homes and their ends stay.
use Rattle.std.proofs.Common.{◌≡◌, ℕ, List, [], ◌∷◌, ◌++◌, Bool, true, false, ◌⊎◌, inl, inr, refl, sym, ap, ◌∙◌, subst, length}
use Rattle.std.specs.Prelude.{Option, Some, None, Result, Ok, Err, not, ◌==◌, ◌&&◌, nat_lt, if◌then◌else◌}
use Rattle.std.specs.List.{list_any}
use Rattle.mip_words.specs.declared.address.Address.{Address}
use Rattle.mip_words.specs.declared.shield.Shield.{Shield}
use Rattle.mip_words.specs.declared.why.Why.{Why}
use Rattle.mip_ipv6.specs.declared.not_packet.NotPacket.{NotPacket}
use Rattle.mip_ipv6.specs.Packet.{Packet, source_of, destination_of}
use Rattle.mip_ipv6.specs.Reading.{packet_of}
use Rattle.mip_icmp.specs.declared.fault.IcmpFault.{IcmpFault}
use Rattle.mip_icmp.specs.Said as icmp
use Rattle.mip_icmp.specs.Reading.{icmp_of}
use Rattle.mip_mobhdr.specs.Said.{Said}
use Rattle.mip_mobhdr.specs.Said.Said.{Update}
use Rattle.mip_ipv6.specs.Tunnel.{hop_of}
use Rattle.mip_outside.specs.declared.claim.Claim.{Claim}
use Rattle.mip_entries.specs.Stamped.{stamped}
use Rattle.mip_entries.specs.Transitions.{known_by}
use Rattle.mip_entries.proofs.TransitionLaws.{noted_all, noted_all-is}
use Rattle.mip_reception.specs.declared.refusal.Refusal.{Refusal}
use Rattle.mip_reception.specs.Checks.{message_at, checked}
use Rattle.mip_reception.specs.Replies.{reply_packet}
use Rattle.mip_reception.proofs.CheckedMessages.{checked_message}
use Rattle.mip_reception.specs.declared.registration.Registration.{Registration}
use Rattle.mip_reception.specs.Registrations.{registration, home_of, deletes}
use Rattle.mip_reception.specs.Acks.{ack_packet}
use Rattle.mip_reception.specs.Statuses as statuses
use Rattle.mip_rules_agent.specs.declared.identity.Identity.{Identity}
use Rattle.mip_rules_agent.specs.declared.home_verdict.HomeVerdict.{HomeVerdict}
use Rattle.mip_rules_agent.specs.declared.home_verdict.HomeVerdict.TheVariants.{Refuse, Deny, Accept}
use Rattle.mip_rules_agent.specs.Known.{Known}
use Rattle.mip_rules_agent.specs.Calls as calls
use Rattle.mip_rules_agent.specs.Messages.{shield_to}
use Rattle.mip_rules_agent.specs.Steps.{Step, Called, Sends, Registers, Claims, Releases, Denies, Drops}
use Rattle.mip_rules_agent.specs.StepsLaws.{is_registration}
use Rattle.mip_rules_agent.specs.Refusing.{is_refusal, is_claim}
use Rattle.mip_rules_agent.specs.Questions.{careof_at, holds, after}
use Rattle.mip_rules_agent.specs.Transitions.{Transition, begun, noted}
use Rattle.mip_rules_agent.specs.Verdicts.{is_from, verdict, binding_for}
use Rattle.mip_rules_agent.specs.Rules.{Handing, intercepts, is_careof, opens, takes_tunnel, bench, claim_with, acknowledges, denies, claims_if, answers_if, accepts, judged, takes_update, names_agents, advertises, answers_solicitation, takes_icmp, by_proto, by_role, replies, refuses, standing_of, after_checks, place_in, by_destination, receives}
use Rattle.mip_rules_agent.specs.Doing.{takes, handing, does, transition_of}
use Rattle.mip_rules_agent.specs.Taken.{IsUpdateIn}
use Rattle.mip_rules_agent.specs.TakenLaws.{claims_behind, IsUpdateTaken}
use Rattle.mip_rules_agent.proofs.Walks.{update_in}

module _ (me : Identity) (k : Known) (now number : ℕ) (shield : Option Shield) (bytes : List ℕ) (claim : Claim) where
  -- nothing is registered, claimed or given up, and the homes and their ends are as they were
  abbrev pub IsQuiet : Transition → Type 0
  IsQuiet t = (list_any is_registration t.steps ≡ false) × (t.known.homes ≡ k.homes) × (t.known.ends ≡ k.ends) × (list_any is_claim t.steps ≡ false)

  abbrev pub Is : Transition → Type 0
  Is t = IsQuiet t ⊎ IsUpdateTaken me k now number shield bytes claim t.steps

  abbrev call : Step
  call = Called (calls.Take number shield bytes claim)

  abbrev given : Transition
  given = noted call (begun now k)

  abbrev h : Handing
  h = handing me given.now given.known number shield bytes claim

  -- the same, where what the call leaves known is written out
  abbrev opened : Handing
  opened = handing me now (after k (record { at = now; step = call })) number shield bytes claim

  quiet : (b : Bool) (x y : Transition) → Is x → Is y → Is (if b then x else y)
  quiet true x y first second = first
  quiet false x y first second = second

  dropped : (why : Why) → Is (noted (Drops number why) given)
  unfolding after
  dropped why = subst Is (sym (noted_all-is after (call ∷ Drops number why ∷ []) (begun now k))) (inl (refl, refl, refl, refl))

  sent : (under : Option Shield) (packet : List ℕ) → Is (noted (Sends under packet) given)
  unfolding after
  sent under packet = subst Is (sym (noted_all-is after (call ∷ Sends under packet ∷ []) (begun now k))) (inl (refl, refl, refl, refl))

  -- two steps that register nothing and leave homes and ends as they are
  two : (first last : Step) → IsQuiet (record { now = now; known = known_by after k (stamped now (call ∷ first ∷ last ∷ [])); steps = call ∷ first ∷ last ∷ [] }) → Is (noted last (noted first given))
  two first last quiet = subst Is (sym (noted_all-is after (call ∷ first ∷ last ∷ []) (begun now k))) (inl quiet)

  -- the update is accepted
  module _ (update : Registration) (is_in : IsUpdateIn bytes update) (home careof : Address) (sequence granted : ℕ)
      (is : verdict (bench me k now update) shield (claim_with (holds k (home_of update)) claim) update ≡ Accept home careof sequence granted) where
    abbrev first : Transition
    first = noted (Registers number home (binding_for now careof sequence granted)) given

    abbrev tells : Step
    tells = Sends (shield_to me.own (home_of update)) (ack_packet me.own update statuses.accepted update.sequence granted None)

    abbrev told : Bool → List Step
    told ack = if ack then tells ∷ [] else []

    -- behind it, steps that register and refuse nothing
    taken : (rest : List Step) → rest ≡ claims_behind (holds k (home_of update)) (deletes update) home ++ told update.ack → list_any is_registration rest ≡ false → list_any is_refusal rest ≡ false
        → Is (noted_all after rest first)
    taken rest behind none kept = inr (record {
      update = update;
      is_in = is_in;
      home = home;
      careof = careof;
      sequence = sequence;
      granted = granted;
      verdict_is = is;
      rest = rest;
      steps_are = ap (λ (t : Transition). t.steps) (noted_all-is after (call ∷ Registers number home (binding_for now careof sequence granted) ∷ rest) (begun now k));
      behind = behind;
      none = none;
      kept = kept;
    })

    abbrev behind : (held ends ack : Bool) → Transition
    behind held ends ack = answers_if ack me update granted (claims_if held ends home first)

    -- what stands behind it
    rest_is : (held ends ack : Bool) → holds k (home_of update) ≡ held → deletes update ≡ ends → update.ack ≡ ack
        → claims_behind held ends home ++ told ack ≡ claims_behind (holds k (home_of update)) (deletes update) home ++ told update.ack
    rest_is held ends ack h e a =
        sym (ap (λ (x : Bool). claims_behind x (deletes update) home ++ told update.ack) h ∙ ap (λ (x : Bool). claims_behind held x home ++ told update.ack) e ∙ ap (λ (x : Bool). claims_behind held ends home ++ told x) a)

    answered : (held ends ack : Bool) → holds k (home_of update) ≡ held → deletes update ≡ ends → update.ack ≡ ack → Is (behind held ends ack)
    unfolding acknowledges
    answered true true true h e a = taken (Releases home ∷ tells ∷ []) (rest_is true true true h e a) refl refl
    answered true true false h e a = taken (Releases home ∷ []) (rest_is true true false h e a) refl refl
    answered true false true h e a = taken (tells ∷ []) (rest_is true false true h e a) refl refl
    answered true false false h e a = taken [] (rest_is true false false h e a) refl refl
    answered false true true h e a = taken (tells ∷ []) (rest_is false true true h e a) refl refl
    answered false true false h e a = taken [] (rest_is false true false h e a) refl refl
    answered false false true h e a = taken (Claims home ∷ tells ∷ []) (rest_is false false true h e a) refl refl
    answered false false false h e a = taken (Claims home ∷ []) (rest_is false false false h e a) refl refl

  of_verdict : (r : Registration) → IsUpdateIn bytes r → (v : HomeVerdict)
      → verdict (bench me k now r) shield (claim_with (holds k (home_of r)) claim) r ≡ v → Is (judged opened r (holds k (home_of r)) v given)
  unfolding after denies accepts acknowledges
  of_verdict r is_in (Refuse why) is = dropped why
  of_verdict r is_in (Deny status last) is = two (Denies number status) (Sends (shield_to me.own (home_of r)) (ack_packet me.own r status last 0 None)) (refl, refl, refl, refl)
  of_verdict r is_in (Accept home careof sequence granted) is =
      answered r is_in home careof sequence granted is (holds k (home_of r)) (deletes r) r.ack refl refl refl

  of_update : (r : Registration) → IsUpdateIn bytes r → Is (takes_update h r given)
  unfolding takes_update after
  of_update r is_in =
      subst (λ (u : Transition). Is (takes_update (handing me u.now u.known number shield bytes claim) r given)) (sym (noted_all-is after (call ∷ []) (begun now k)))
      (of_verdict r is_in (verdict (bench me k now r) shield (claim_with (holds k (home_of r)) claim) r) refl)

  of_interception : (home careof : Address) (proto : ℕ) → Is (intercepts h home careof proto given)
  unfolding intercepts
  of_interception home careof proto =
      quiet (nat_lt (hop_of bytes) 2) _ _ (dropped _) (quiet (nat_lt 65535 (length bytes)) _ _ (dropped _) (sent _ _))

  of_tunnel : (outer : Packet) → Is (takes_tunnel h outer given)
  unfolding takes_tunnel
  of_tunnel outer = by (packet_of outer.body)
    where
      by : (r : Result Packet NotPacket) → Is (opens h outer r given)
      by (Err fault) = dropped _
      by (Ok q) =
          quiet (not (is_careof given.known given.now q.head.source outer.head.source)) _ _ (dropped _)
          (quiet (q.head.destination.0 == me.own.0) _ _ (dropped _)
          (quiet ((q.head.proto == 135) && not (is_from q.head.source shield)) _ _ (dropped _) (sent _ _)))

  of_solicitation : (home : Address) (identifier : ℕ) (careof : Option Address) → Is (answers_solicitation h home identifier careof given)
  unfolding advertises
  of_solicitation home identifier None = dropped _
  of_solicitation home identifier (Some careof) = quiet (is_from home shield) _ _ (sent _ _) (dropped _)

  of_icmp : (p : Packet) (r : Result icmp.Said IcmpFault) → Is (takes_icmp h p r given)
  unfolding names_agents
  of_icmp p (Ok (icmp.DiscoverAsk identifier)) = sent _ _
  of_icmp p (Ok (icmp.PrefixAsk identifier)) = of_solicitation (source_of p.head) identifier (careof_at given.known given.now (source_of p.head))
  of_icmp p _ = dropped _

  of_proto : (p : Packet) → Is (by_proto h p given)
  of_proto p =
      quiet ((p.head.proto == 41) && (p.head.destination.0 == me.own.0)) _ _ (of_tunnel p)
      (quiet (p.head.proto == 58) _ _ (of_icmp p (icmp_of (source_of p.head) (destination_of p.head) p.body)) (dropped _))

  of_role : (p : Packet) (place : ℕ) (m : Option Said) → packet_of bytes ≡ Ok p → message_at place p ≡ Ok m → Is (by_role h p m given)
  of_role p place None read is = of_proto p
  of_role p place (Some (Update s a f l key t o)) read is =
      of_update (registration p.head.source p.head.home s a f t o) (update_in bytes p place s a f l key t o read is)
  of_role p place (Some _) read is = dropped _

  of_reply : (reply : Option (List ℕ)) (why : Why) → Is (replies reply (noted (Drops number why) given))
  unfolding after
  of_reply None why = dropped why
  of_reply (Some packet) why = two (Drops number why) (Sends None packet) (refl, refl, refl, refl)

  of_checks : (p : Packet) (place : ℕ) (r : Result (Option Said) Refusal) → packet_of bytes ≡ Ok p → ((m : Option Said) → r ≡ Ok m → message_at place p ≡ Ok m) → Is (after_checks h p r given)
  unfolding refuses
  of_checks p place (Err refusal) read is = of_reply (reply_packet me.own p.head.source bytes refusal.reply) refusal.why
  of_checks p place (Ok m) read is = of_role p place m read (is m refl)

  of_destination : (p : Packet) (careof : Option Address) → packet_of bytes ≡ Ok p → Is (by_destination h p careof given)
  of_destination p (Some careof) read = of_interception p.head.destination careof p.head.proto
  of_destination p None read =
      let standing = standing_of me given.known given.now p.head in
      let place = place_in bytes p in
      of_checks p place (checked standing place p) read (checked_message standing place p)

  of_packet : (r : Result Packet NotPacket) → packet_of bytes ≡ r → Is (receives h r given)
  of_packet (Err fault) read = dropped _
  of_packet (Ok p) read = of_destination p (careof_at given.known given.now p.head.destination) read

  pub taken_is : Is (transition_of me k now (calls.Take number shield bytes claim))
  unfolding does takes
  taken_is = of_packet (packet_of bytes) refl
