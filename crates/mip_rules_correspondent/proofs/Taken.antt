-- What a correspondent does about a packet that it is handed: it accepts nothing, or at once the update in the packet, with
-- the verdict Accept.
use Rattle.std.proofs.Common.{◌≡◌, ℕ, List, [], ◌∷◌, Bool, true, false, ◌⊎◌, inl, inr, refl, sym, ap, ◌∙◌, subst}
use Rattle.std.specs.Prelude.{Option, Some, None, Result, Ok, Err, not, ◌&&◌, if◌then◌else◌}
use Rattle.std.specs.List.{list_any}
use Rattle.mip_words.specs.Sequence.{is_after}
use Rattle.mip_words.specs.Addresses.{is_routable}
use Rattle.mip_words.specs.declared.address.Address.{Address}
use Rattle.mip_words.specs.declared.shield.Shield.{Shield}
use Rattle.mip_words.specs.declared.why.Why.{Why}
use Rattle.mip_ipv6.specs.declared.not_packet.NotPacket.{NotPacket}
use Rattle.mip_ipv6.specs.Packet.{Packet, source_of, destination_of}
use Rattle.mip_ipv6.specs.Reading.{packet_of}
use Rattle.mip_mobhdr.specs.declared.indices.Indices.{Indices}
use Rattle.mip_mobhdr.specs.Said.{Said}
use Rattle.mip_mobhdr.specs.Said.Said.{Refresh, HomeInit, CareofInit, Update}
use Rattle.mip_nonce.specs.Window.{number_named}
use Rattle.mip_tokens.specs.Token.{is_authentic}
use Rattle.mip_tokens.specs.declared.kbm.Kbm.{Kbm}
use Rattle.mip_bcache.specs.declared.accepted.Accepted.{Accepted}
use Rattle.mip_entries.proofs.TransitionLaws.{noted-now, noted_all, noted_all-is, none-noted}
use Rattle.mip_reception.specs.declared.refusal.Refusal.{Refusal}
use Rattle.mip_reception.specs.Checks.{message_at, checked}
use Rattle.mip_reception.specs.Replies.{reply_packet}
use Rattle.mip_reception.proofs.CheckedMessages.{either, checked_message, message_read, message_proto, update_read}
use Rattle.mip_rules_correspondent.specs.declared.identity.Identity.{Identity}
use Rattle.mip_rules_correspondent.specs.declared.known.Known.{Known}
use Rattle.mip_reception.specs.declared.registration.Registration.{Registration}
use Rattle.mip_rules_correspondent.specs.declared.verdict.Verdict.{Verdict}
use Rattle.mip_rules_correspondent.specs.declared.verdict.Verdict.TheVariants.{Refuse, Deny, Accept}
use Rattle.mip_rules_correspondent.specs.Calls as calls
use Rattle.mip_rules_correspondent.specs.Calls.{Call}
use Rattle.mip_rules_correspondent.specs.Steps.{Step, Called, Sends, Accepts, Drops}
use Rattle.mip_rules_correspondent.specs.StepsLaws.{is_acceptance}
use Rattle.mip_rules_correspondent.specs.Questions.{held_of, after}
use Rattle.mip_rules_correspondent.specs.Transitions.{Transition, begun, noted}
use Rattle.mip_reception.specs.Registrations.{registration, registration_said, registration_in, home_of, careof_of, registered_of}
use Rattle.mip_rules_correspondent.specs.Verdicts.{Bench, by_room, by_sequence, by_key, kbm_of, by_numbers, careof_number, by_indices, verdict}
use Rattle.mip_reception.specs.Acks.{ack_packet}
use Rattle.mip_rules_correspondent.specs.Rules.{answers_home_init, answers_careof_init, bench, denies, accepts, judged, takes_update, hands_up, by_message, is_for_part, other_why, by_role, replies, refuses, standing_of, after_checks, place_in, receives}
use Rattle.mip_rules_correspondent.specs.Doing.{takes, request_refresh, refreshes, transmits, does, transition_of}
use Rattle.mip_rules_correspondent.specs.Refusing.{is_refusal}
use Rattle.mip_rules_correspondent.specs.Taken.{IsUpdateTaken}

-- only an accepted update has the verdict Accept, and it is for the home of the update
module _ (b : Bench) (r : Registration) (message : List ℕ) (home : Address) (number : ℕ) (a : Accepted) (granted : ℕ) (kbm : Kbm) where
  room_home : (i : ℕ) (j : Option ℕ) (key : Kbm) → by_room b r i j key ≡ Accept home number a granted kbm → home ≡ home_of r
  room_home i j key = either (Accept home number a granted kbm) b.full _ _ (λ e. absurd cc) (λ e. cc)

  sequence_home : (i : ℕ) (j : Option ℕ) (key : Kbm) (floor : Option ℕ) → by_sequence b r i j key floor ≡ Accept home number a granted kbm → home ≡ home_of r
  sequence_home i j key None e = room_home i j key e
  sequence_home i j key (Some last) e = either (Accept home number a granted kbm) (not (is_after r.sequence last)) _ _ (λ e. absurd cc) (room_home i j key) e

  key_home : (i : ℕ) (j : Option ℕ) (key : Kbm) → by_key b r message i j key ≡ Accept home number a granted kbm → home ≡ home_of r
  key_home i j key = either (Accept home number a granted kbm) (not (is_authentic key.0 (registered_of r) b.own message)) _ _ (λ e. absurd cc) (sequence_home i j key b.floor)

  numbers_home : (i : Option ℕ) (j : Option (Option ℕ)) → by_numbers b r message i j ≡ Accept home number a granted kbm → home ≡ home_of r
  numbers_home None None e = absurd cc
  numbers_home None (Some j) e = absurd cc
  numbers_home (Some i) None e = absurd cc
  numbers_home (Some i) (Some j) e = key_home i j (kbm_of b r i j) e

  indices_home : (indices : Option Indices) → by_indices b r message indices ≡ Accept home number a granted kbm → home ≡ home_of r
  indices_home None e = absurd cc
  indices_home (Some indices) e = numbers_home (number_named b.now indices.home) (careof_number b r indices) e

  pub accepted_home : verdict b r message ≡ Accept home number a granted kbm → home ≡ home_of r
  unfolding verdict
  accepted_home =
      either (Accept home number a granted kbm) r.for_agent _ _ (λ e. absurd cc)
      (either (Accept home number a granted kbm) (not (is_routable (home_of r).0 && is_routable (careof_of r).0)) _ _ (λ e. absurd cc)
      (either (Accept home number a granted kbm) (not r.authorized) _ _ (λ e. absurd cc)
      (indices_home r.nonces)))

-- a call at a moment in which nothing is accepted so far: when it begins, and behind one more step
abbrev pub AcceptsNone : ℕ → Transition → Type 0
AcceptsNone now t = (t.now ≡ now) × (list_any is_acceptance t.steps ≡ false)

pub none_called : (k : Known) (now : ℕ) (c : Call) → AcceptsNone now (noted (Called c) (begun now k))
none_called k now c = (noted-now after (Called c) (begun now k), none-noted after is_acceptance (Called c) (begun now k) refl refl)

pub none_more : (now : ℕ) (step : Step) (t : Transition) → is_acceptance step ≡ false → AcceptsNone now t → AcceptsNone now (noted step t)
none_more now step t silent none = (noted-now after step t ∙ none.0, none-noted after is_acceptance step t none.1 silent)

module _ (me : Identity) (k : Known) (now number : ℕ) (shield : Option Shield) (bytes : List ℕ) where
  abbrev Is : Transition → Type 0
  Is t = (t.now ≡ now) × ((list_any is_acceptance t.steps ≡ false) ⊎ IsUpdateTaken me k now number shield bytes t.steps)

  abbrev given : Transition
  given = noted (Called (calls.Take number shield bytes)) (begun now k)

  calm : (t : Transition) → AcceptsNone now t → Is t
  calm t none = (none.0, inl none.1)

  -- nothing behind the call, or one step or two, none of them an acceptance
  still : Is given
  still = calm given (none_called k now (calls.Take number shield bytes))

  one : (step : Step) → is_acceptance step ≡ false → Is (noted step given)
  one step silent = calm (noted step given) (none_more now step given silent (none_called k now (calls.Take number shield bytes)))

  two : (first last : Step) → is_acceptance first ≡ false → is_acceptance last ≡ false → Is (noted last (noted first given))
  two first last silent also = calm (noted last (noted first given)) (none_more now last (noted first given) also (none_more now first given silent (none_called k now (calls.Take number shield bytes))))

  of_verdict : (p : Packet) (r : Registration) → packet_of bytes ≡ Ok p → p.head.proto ≡ 135 → registration_in p.head.source p.head.home p.body ≡ Some r
      → (v : Verdict) → verdict (bench me k now r) r p.body ≡ v → Is (judged me number r v given)
  unfolding denies accepts
  of_verdict p r read mobility asks (Refuse why) is = one _ refl
  of_verdict p r read mobility asks (Deny status last kbm) is = two _ _ refl refl
  of_verdict p r read mobility asks (Accept home binding a granted kbm) is = by r.ack
    where
      first : Transition
      first = noted (Accepts number home binding a) given

      taken : (rest : List Step) → list_any is_acceptance rest ≡ false → list_any is_refusal rest ≡ false → Is (noted_all after rest first)
      taken rest none kept = subst Is (sym (noted_all-is after (Called (calls.Take number shield bytes) ∷ Accepts number home binding a ∷ rest) (begun now k))) (
        refl,
        inr (record {
          packet = p;
          read = read;
          mobility = mobility;
          registration = r;
          asks = asks;
          home = home;
          binding = binding;
          accepted = a;
          granted = granted;
          kbm = kbm;
          verdict_is = is;
          rest = rest;
          steps_are = refl;
          none = none;
          kept = kept;
        }),
      )

      by : (ack : Bool) → Is (let t : Transition = (if ack then noted (Sends (ack_packet me.own r 0 r.sequence granted (Some kbm))) first else first) in t)
      by true = taken (Sends (ack_packet me.own r 0 r.sequence granted (Some kbm)) ∷ []) refl refl
      by false = taken [] refl refl

  of_update : (p : Packet) (r : Registration) → packet_of bytes ≡ Ok p → p.head.proto ≡ 135 → registration_in p.head.source p.head.home p.body ≡ Some r → Is (takes_update me number r p.body given)
  unfolding takes_update after
  of_update p r read mobility asks =
      subst (λ (u : Transition). Is (judged me number r (verdict (bench me u.known u.now r) r p.body) given)) (sym (noted_all-is after (Called (calls.Take number shield bytes) ∷ []) (begun now k)))
      (of_verdict p r read mobility asks (verdict (bench me k now r) r p.body) refl)

  of_message : (p : Packet) (place : ℕ) (m : Option Said) → packet_of bytes ≡ Ok p → message_at place p ≡ Ok m → Is (by_message me number p m given)
  unfolding hands_up answers_home_init answers_careof_init
  of_message p place None read is = one _ refl
  of_message p place (Some (HomeInit cookie options)) read is = one _ refl
  of_message p place (Some (CareofInit cookie options)) read is = one _ refl
  of_message p place (Some (Update s a h l key t o)) read is =
      of_update p (registration p.head.source p.head.home s a h t o) read (message_proto place p (Update s a h l key t o) is)
      (ap (registration_said p.head.source p.head.home)
      (update_read p.body s a h l key t o (source_of p.head) (destination_of p.head) (message_read place p (Update s a h l key t o) is)))
  of_message p place (Some _) read is = still

  of_role : (p : Packet) (place : ℕ) (m : Option Said) → packet_of bytes ≡ Ok p → message_at place p ≡ Ok m → Is (by_role me number p m given)
  unfolding by_role
  of_role p place m read is = by (is_for_part p.head.proto m)
    where
      by : (mine : Bool) → Is (let t : Transition = (if mine then by_message me number p m given else noted (Drops number (other_why p.head.proto)) given) in t)
      by true = of_message p place m read is
      by false = one _ refl

  of_reply : (reply : Option (List ℕ)) (why : Why) → Is (replies reply (noted (Drops number why) given))
  of_reply None why = one _ refl
  of_reply (Some packet) why = two _ _ refl refl

  of_checks : (p : Packet) (place : ℕ) (r : Result (Option Said) Refusal) → packet_of bytes ≡ Ok p → ((m : Option Said) → r ≡ Ok m → message_at place p ≡ Ok m) → Is (after_checks me number bytes p r given)
  unfolding refuses
  of_checks p place (Err refusal) read is = of_reply (reply_packet me.own p.head.source bytes refusal.reply) refusal.why
  of_checks p place (Ok m) read is = of_role p place m read (is m refl)

  of_packet : (r : Result Packet NotPacket) → packet_of bytes ≡ r → Is (receives me number bytes r given)
  of_packet (Err fault) read = one _ refl
  of_packet (Ok p) read =
      let standing = standing_of me given.known given.now p.head in
      let place = place_in bytes p in
      of_checks p place (checked standing place p) read (checked_message standing place p)

  pub taken_is : Is (transition_of me k now (calls.Take number shield bytes))
  unfolding does takes
  taken_is = of_packet (packet_of bytes) refl

pub refreshed_none : (me : Identity) (k : Known) (now : ℕ) (home : Address) → AcceptsNone now (transition_of me k now (calls.Refresh home))
unfolding does refreshes
refreshed_none me k now home = by (held_of first.known first.now home)
  where
    first : Transition
    first = noted (Called (calls.Refresh home)) (begun now k)

    by : (held : Option Address) → AcceptsNone now (request_refresh me home held first)
    by None = none_more now _ first refl (none_called k now (calls.Refresh home))
    by (Some careof) = none_more now _ first refl (none_called k now (calls.Refresh home))

pub sent_none : (me : Identity) (k : Known) (now : ℕ) (to : Address) (proto : ℕ) (payload : List ℕ) → AcceptsNone now (transition_of me k now (calls.Send to proto payload))
unfolding does transmits
sent_none me k now to proto payload = none_more now _ _ refl (none_called k now (calls.Send to proto payload))

pub ticked_none : (me : Identity) (k : Known) (now : ℕ) → AcceptsNone now (transition_of me k now calls.Tick)
unfolding does
ticked_none me k now = none_called k now calls.Tick
