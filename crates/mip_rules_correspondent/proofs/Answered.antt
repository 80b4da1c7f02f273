-- What becomes of an update that is handed over, and that nothing else is acknowledged.
use Rattle.std.proofs.Common.{◌≡◌, ℕ, ◌+◌, ◌*◌, ◌≤◌, List, [], ◌∷◌, Bool, true, false, ◌⊎◌, inl, inr, refl, sym, ap, ◌∙◌, subst, arith}
use Rattle.std.specs.Prelude.{◌&&◌, Option, Some, None, is_some, Result, Ok, Err, if◌then◌else◌}
use Rattle.std.specs.List.{AllByRecursion, list_any}
use Rattle.mip_words.specs.Sequence.{is_after}
use Rattle.mip_words.specs.declared.address.Address.{Address}
use Rattle.mip_words.specs.declared.shield.Shield.{Shield}
use Rattle.mip_words.specs.declared.why.Why.{Why}
use Rattle.mip_ipv6.specs.declared.head.Head.{Head}
use Rattle.mip_ipv6.specs.declared.not_packet.NotPacket.{NotPacket}
use Rattle.mip_ipv6.specs.Packet.{Packet, source_of, destination_of}
use Rattle.mip_ipv6.specs.Reading.{packet_of}
use Rattle.mip_mobhdr.specs.OptionValues.{Values}
use Rattle.mip_mobhdr.specs.Said.{Said}
use Rattle.mip_mobhdr.specs.Said.Said.{HomeInit, CareofInit, Update}
use Rattle.mip_mobhdr.specs.Reading.{update_of}
use Rattle.mip_entries.proofs.TransitionLaws.{noted-now, noted-known, noted_all, noted_all-is}
use Rattle.mip_reception.specs.declared.refusal.Refusal.{Refusal}
use Rattle.mip_reception.specs.declared.reply.Reply.{Reply}
use Rattle.mip_reception.specs.Says.{message_in}
use Rattle.mip_reception.specs.Checks.{message_at, is_update, checked}
use Rattle.mip_reception.specs.Replies.{reply_packet}
use Rattle.mip_reception.proofs.CheckedMessages.{checked_message, message_read, update_read}
use Rattle.mip_reception.proofs.Passings.{passes as passes_both, update_alone}
use Rattle.mip_reception.specs.declared.registration.Registration.{Registration}
use Rattle.mip_reception.specs.Registrations.{registration, registration_said, registration_in, home_of}
use Rattle.mip_reception.specs.Acks.{ack_packet}
use Rattle.mip_bcache.specs.declared.accepted.Accepted.{Accepted}
use Rattle.mip_tokens.specs.declared.kbm.Kbm.{Kbm}
use Rattle.mip_rules_correspondent.specs.declared.identity.Identity.{Identity}
use Rattle.mip_rules_correspondent.specs.declared.known.Known.{Known}
use Rattle.mip_rules_correspondent.specs.declared.verdict.Verdict.{Verdict}
use Rattle.mip_rules_correspondent.specs.declared.verdict.Verdict.TheVariants.{Refuse, Deny, Accept}
use Rattle.mip_rules_correspondent.specs.Calls as calls
use Rattle.mip_rules_correspondent.specs.Calls.{Call, is_tick}
use Rattle.mip_rules_correspondent.specs.Steps.{Step, Called, Sends, Accepts, Denies, Drops, HandsUp, Idles}
use Rattle.mip_rules_correspondent.specs.StepsLaws.{is_acceptance}
use Rattle.mip_rules_correspondent.specs.Questions.{held_of, holds_for, floor_of, is_full_for, after}
use Rattle.mip_rules_correspondent.specs.Transitions.{Transition, begun, noted}
use Rattle.mip_rules_correspondent.specs.Verdicts.{verdict}
use Rattle.mip_rules_correspondent.specs.Rules.{home_test, careof_test, answers_home_init, answers_careof_init, bench, denies, accepts, judged, takes_update, hands_up, by_message, is_for_part, other_why, by_role, replies, refuses, holds_option, standing_of, after_checks, place_in, receives}
use Rattle.mip_rules_correspondent.specs.Doing.{takes, parts, request_refresh, refreshes, transmits, does, transition_of}
use Rattle.mip_rules_correspondent.specs.Refusing.{is_refusal}
use Rattle.mip_rules_correspondent.specs.Sendings.{Sending, SendsHomeTest, SendsCareofTest, SendsReply, SendsRefresh, SendsData, IsPacketOf}
use Rattle.mip_rules_correspondent.specs.Taken.{IsUpdateTaken, IsUpdateParted}
use Rattle.mip_rules_correspondent.specs.Answering.{IsAnswered, HandsOver, IsOfUpdate, IsNoAck, IsPlain, IsInPlace, AcceptsInPlace}
use Rattle.mip_rules_correspondent.proofs.Parted.{parted_read, parted_is}
use Rattle.mip_rules_correspondent.proofs.Taken.{taken_is, refreshed_none, sent_none, ticked_none}
use Rattle.mip_rules_correspondent.proofs.VerdictLaws.{sound}

module _ (me : Identity) (k : Known) (now : ℕ) (c : Call) where
  abbrev pub given : Transition
  given = noted (Called c) (begun now k)

  abbrev Of : Transition → Type 0
  Of t = AllByRecursion (IsPlain me c now) t.steps ⊎ IsOfUpdate me k now c t.steps

  -- nothing behind the call, or one step or two, all of them plain
  still : Of given
  still = inl (subst (λ (t : Transition). AllByRecursion (IsPlain me c now) t.steps) (sym (noted_all-is after (Called c ∷ []) (begun now k))) (tt, tt))

  one : (step : Step) → IsPlain me c now step → Of (noted step given)
  one step is = inl (subst (λ (t : Transition). AllByRecursion (IsPlain me c now) t.steps) (sym (noted_all-is after (Called c ∷ step ∷ []) (begun now k))) (tt, (is, tt)))

  two : (first last : Step) → IsPlain me c now first → IsPlain me c now last → Of (noted last (noted first given))
  two first last is also =
      inl (subst (λ (t : Transition). AllByRecursion (IsPlain me c now) t.steps) (sym (noted_all-is after (Called c ∷ first ∷ last ∷ []) (begun now k))) (tt, (is, (also, tt))))

  -- a packet that is sent at the moment of the call
  sends : (x : Sending) → IsNoAck x → (make : ℕ → List ℕ) → IsPacketOf me c now x (make now) → Of (noted (Sends (make given.now)) given)
  sends x none make is =
      subst (λ (n : ℕ). Of (noted (Sends (make n)) given)) (sym (noted-now after (Called c) (begun now k))) (one (Sends (make now)) (x, none, is))

  -- what becomes of an update
  module _ (number : ℕ) (p : Packet) (r : Registration) (handed : HandsOver c number p) (asks : registration_in p.head.source p.head.home p.body ≡ Some r) where
    answered : (rest : List Step) → IsAnswered me number r (verdict (bench me k now r) r p.body) rest → IsOfUpdate me k now c (noted_all after rest given).steps
    answered rest is = record {
      number = number;
      packet = p;
      handed = handed;
      update = r;
      asks = asks;
      rest = rest;
      steps_are = ap (λ (t : Transition). t.steps) (noted_all-is after (Called c ∷ rest) (begun now k));
      answered = is;
    }

    of_verdict : (v : Verdict) → verdict (bench me k now r) r p.body ≡ v → IsOfUpdate me k now c (judged me number r v given).steps
    unfolding denies accepts
    of_verdict (Refuse why) is = answered (Drops number why ∷ []) (subst (λ (v : Verdict). IsAnswered me number r v (Drops number why ∷ [])) (sym is) refl)
    of_verdict (Deny status last kbm) is =
        let rest : List Step = Denies number status ∷ Sends (ack_packet me.own r status last 0 kbm) ∷ [] in
        answered rest (subst (λ (v : Verdict). IsAnswered me number r v rest) (sym is) refl)
    of_verdict (Accept home binding accepted granted kbm) is = by r.ack refl
      where
        told : Bool → List Step
        told ack = Accepts number home binding accepted ∷ (if ack then Sends (ack_packet me.own r 0 r.sequence granted (Some kbm)) ∷ [] else [])

        first : Transition
        first = noted (Accepts number home binding accepted) given

        is_told : (ack : Bool) → r.ack ≡ ack → IsAnswered me number r (verdict (bench me k now r) r p.body) (told ack)
        is_told ack flag = subst (λ (v : Verdict). IsAnswered me number r v (told ack)) (sym is) (sym (ap told flag))

        by : (ack : Bool) → r.ack ≡ ack
            → IsOfUpdate me k now c (let t : Transition = (if ack then noted (Sends (ack_packet me.own r 0 r.sequence granted (Some kbm))) first else first) in t).steps
        by true flag = answered (told true) (is_told true flag)
        by false flag = answered (told false) (is_told false flag)

    -- where the bench is as it was when the call began
    of_update : bench me given.known given.now r ≡ bench me k now r → IsOfUpdate me k now c (takes_update me number r p.body given).steps
    unfolding takes_update
    of_update same = of_verdict (verdict (bench me given.known given.now r) r p.body) (ap (λ b. verdict b r p.body) (sym same))

-- over a packet that is handed over
module _ (me : Identity) (k : Known) (now number : ℕ) (shield : Option Shield) (bytes : List ℕ) where
  abbrev taking : Call
  taking = calls.Take number shield bytes

  abbrev first : Transition
  first = given me k now taking

  abbrev OfTake : Transition → Type 0
  OfTake t = AllByRecursion (IsPlain me taking now) t.steps ⊎ IsOfUpdate me k now taking t.steps

  take-bench : (r : Registration) → bench me first.known first.now r ≡ bench me k now r
  unfolding after
  take-bench r = ap (λ (t : Transition). bench me t.known t.now r) (noted_all-is after (Called taking ∷ []) (begun now k))

  take-standing : (head : Head) → standing_of me first.known first.now head ≡ standing_of me k now head
  unfolding after
  take-standing head = ap (λ (t : Transition). standing_of me t.known t.now head) (noted_all-is after (Called taking ∷ []) (begun now k))

  dropped : (why : Why) → OfTake (noted (Drops number why) first)
  dropped why = one me k now taking (Drops number why) tt

  update_said : (p : Packet) (place s : ℕ) (a h l key : Bool) (t : ℕ) (o : Values) → message_at place p ≡ Ok (Some (Update s a h l key t o))
      → registration_in p.head.source p.head.home p.body ≡ Some (registration p.head.source p.head.home s a h t o)
  update_said p place s a h l key t o is =
      ap (registration_said p.head.source p.head.home) (update_read p.body s a h l key t o (source_of p.head) (destination_of p.head) (message_read place p (Update s a h l key t o) is))

  take_message : (p : Packet) (place : ℕ) (m : Option Said) → packet_of bytes ≡ Ok p → message_at place p ≡ Ok m → OfTake (by_message me number p m first)
  unfolding hands_up answers_home_init answers_careof_init
  take_message p place None read is = one me k now taking _ tt
  take_message p place (Some (HomeInit cookie options)) read is = sends me k now taking (SendsHomeTest p.head.source cookie) tt (λ (n : ℕ). home_test me n p.head.source cookie) refl
  take_message p place (Some (CareofInit cookie options)) read is = sends me k now taking (SendsCareofTest p.head.source cookie) tt (λ (n : ℕ). careof_test me n p.head.source cookie) refl
  take_message p place (Some (Update s a h l key t o)) read is =
      let r = registration p.head.source p.head.home s a h t o in
      inr (of_update me k now taking number p r (refl, read) (update_said p place s a h l key t o is) (take-bench r))
  take_message p place (Some _) read is = still me k now taking

  take_role : (p : Packet) (place : ℕ) (m : Option Said) → packet_of bytes ≡ Ok p → message_at place p ≡ Ok m → OfTake (by_role me number p m first)
  unfolding by_role
  take_role p place m read is = by (is_for_part p.head.proto m)
    where
      by : (mine : Bool) → OfTake (let t : Transition = (if mine then by_message me number p m first else noted (Drops number (other_why p.head.proto)) first) in t)
      by true = take_message p place m read is
      by false = dropped (other_why p.head.proto)

  take_reply : (source : Address) (reply : Reply) (why : Why) (back : Option (List ℕ)) → reply_packet me.own source bytes reply ≡ back → OfTake (replies back (noted (Drops number why) first))
  take_reply source reply why None is = dropped why
  take_reply source reply why (Some packet) is = two me k now taking (Drops number why) (Sends packet) tt (SendsReply source bytes reply, tt, is)

  take_checks : (p : Packet) (place : ℕ) (r : Result (Option Said) Refusal) → packet_of bytes ≡ Ok p → ((m : Option Said) → r ≡ Ok m → message_at place p ≡ Ok m) → OfTake (after_checks me number bytes p r first)
  unfolding refuses
  take_checks p place (Err refusal) read is = take_reply p.head.source refusal.reply refusal.why (reply_packet me.own p.head.source bytes refusal.reply) refl
  take_checks p place (Ok m) read is = take_role p place m read (is m refl)

  take_packet : (r : Result Packet NotPacket) → packet_of bytes ≡ r → OfTake (receives me number bytes r first)
  take_packet (Err fault) read = dropped _
  take_packet (Ok p) read =
      let standing = standing_of me first.known first.now p.head in
      let place = place_in bytes p in
      take_checks p place (checked standing place p) read (checked_message standing place p)

  pub take-answers : OfTake (transition_of me k now taking)
  unfolding does takes
  take-answers = take_packet (packet_of bytes) refl

  -- an update that passes the checks is answered
  pub take-answered : (p : Packet) (s : ℕ) (a h l key : Bool) (t : ℕ) (o : Values) → packet_of bytes ≡ Ok p
      → checked (standing_of me k now p.head) (place_in bytes p) p ≡ Ok (Some (Update s a h l key t o))
      → IsOfUpdate me k now taking (transition_of me k now taking).steps
  unfolding does takes by_role
  take-answered p s a h l key t o read passes =
      let r = registration p.head.source p.head.home s a h t o in
      let place = place_in bytes p in
      let same : checked (standing_of me first.known first.now p.head) place p ≡ Ok (Some (Update s a h l key t o)) = ap (λ m. checked m place p) (take-standing p.head) ∙ passes in
      subst (λ (x : Result Packet NotPacket). IsOfUpdate me k now taking (receives me number bytes x first).steps) (sym read)
      (subst (λ (x : Result (Option Said) Refusal). IsOfUpdate me k now taking (after_checks me number bytes p x first).steps) (sym same)
      (of_update me k now taking number p r (refl, read)
      (update_said p place s a h l key t o (checked_message (standing_of me k now p.head) place p (Some (Update s a h l key t o)) passes)) (take-bench r)))

  -- what passes with a Home Address option, and is no update, comes from an address that is held for the home
  refused-all : (p : Packet) (refusal : Refusal) (reply : Option (List ℕ)) → list_any is_refusal (replies reply (noted (Drops number refusal.why) first)).steps ≡ true
  refused-all p refusal None = ap (λ (t : Transition). list_any is_refusal t.steps) (noted_all-is after (Called taking ∷ Drops number refusal.why ∷ []) (begun now k))
  refused-all p refusal (Some packet) = ap (λ (t : Transition). list_any is_refusal t.steps) (noted_all-is after (Called taking ∷ Drops number refusal.why ∷ Sends packet ∷ []) (begun now k))

  held-checked : (p : Packet) (home : Address) (r : Result (Option Said) Refusal) → checked (standing_of me first.known first.now p.head) (place_in bytes p) p ≡ r
      → p.head.home ≡ Some home
      → registration_in p.head.source p.head.home p.body ≡ None
      → list_any is_refusal (after_checks me number bytes p r first).steps ≡ false
      → holds_for first.known first.now home p.head.source ≡ true
  unfolding refuses
  held-checked p home (Err refusal) is option none quiet =
      absurd (let both : true ≡ false = sym (refused-all p refusal (reply_packet me.own p.head.source bytes refusal.reply)) ∙ quiet in cc)
  held-checked p home (Ok m) is option none quiet = by (holds_for first.known first.now home p.head.source) refl
    where
      standing-holds : (standing_of me first.known first.now p.head).holds ≡ holds_for first.known first.now home p.head.source
      standing-holds = ap (λ (o : Option Address). holds_option first.known first.now p.head.source o) option

      never : (m : Option Said) → checked (standing_of me first.known first.now p.head) (place_in bytes p) p ≡ Ok m → is_update m ≡ true → ⊥
      never None is e = absurd cc
      never (Some (Update s a h l key t o)) is e =
          absurd (let said = update_said p (place_in bytes p) s a h l key t o (checked_message (standing_of me first.known first.now p.head) (place_in bytes p) p (Some (Update s a h l key t o)) is) in
          let both : Some (registration p.head.source p.head.home s a h t o) ≡ None = sym said ∙ none in cc)
      never (Some _) is e = absurd cc

      by : (held : Bool) → holds_for first.known first.now home p.head.source ≡ held → held ≡ true
      by true e = refl
      by false e = absurd (never m is (update_alone (standing_of me first.known first.now p.head) (place_in bytes p) p m home is option (standing-holds ∙ e)))

  pub take-held : (p : Packet) (home : Address) → packet_of bytes ≡ Ok p → p.head.home ≡ Some home
      → registration_in p.head.source p.head.home p.body ≡ None
      → list_any is_refusal (transition_of me k now taking).steps ≡ false
      → holds_for k now home p.head.source ≡ true
  unfolding does takes after
  take-held p home read option none quiet =
      sym (ap (λ (t : Transition). holds_for t.known t.now home p.head.source) (noted_all-is after (Called taking ∷ []) (begun now k)))
      ∙ held-checked p home (checked (standing_of me first.known first.now p.head) (place_in bytes p) p) refl option none
      (subst (λ (x : Result Packet NotPacket). list_any is_refusal (receives me number bytes x first).steps ≡ false) read quiet)

  -- what has a routing header is refused
  unrouted : (p : Packet) (r : Result (Option Said) Refusal) → checked (standing_of me first.known first.now p.head) (place_in bytes p) p ≡ r → is_some p.head.route ≡ true
      → list_any is_refusal (after_checks me number bytes p r first).steps ≡ true
  unfolding refuses
  unrouted p (Err refusal) is routed = refused-all p refusal (reply_packet me.own p.head.source bytes refusal.reply)
  unrouted p (Ok m) is routed =
      let both_ways = passes_both (standing_of me first.known first.now p.head) (place_in bytes p) p m in
      let passed = both_ways.0 is in
      let both : (true && true) ≡ false = sym (ap (λ (b : Bool). b && true) routed) ∙ passed.route in
      absurd cc

  pub take-unrouted : (p : Packet) → packet_of bytes ≡ Ok p → is_some p.head.route ≡ true → list_any is_refusal (transition_of me k now taking).steps ≡ true
  unfolding does takes
  take-unrouted p read routed =
      subst (λ (x : Result Packet NotPacket). list_any is_refusal (receives me number bytes x first).steps ≡ true) (sym read)
      (unrouted p (checked (standing_of me first.known first.now p.head) (place_in bytes p) p) refl routed)

-- over a packet that is handed to the correspondent part of a mobile
module _ (me : Identity) (k : Known) (now number : ℕ) (p : Packet) where
  abbrev parting : Call
  parting = calls.Part number p

  abbrev begins : Transition
  begins = given me k now parting

  part-bench : (r : Registration) → bench me begins.known begins.now r ≡ bench me k now r
  unfolding after
  part-bench r = ap (λ (t : Transition). bench me t.known t.now r) (noted_all-is after (Called parting ∷ []) (begun now k))

  part_said : (s : ℕ) (a h l key : Bool) (t : ℕ) (o : Values) → message_in p ≡ Some (Update s a h l key t o)
      → registration_in p.head.source p.head.home p.body ≡ Some (registration p.head.source p.head.home s a h t o)
  part_said s a h l key t o is =
      ap (registration_said p.head.source p.head.home) (update_read p.body s a h l key t o (source_of p.head) (destination_of p.head) (parted_read p (Update s a h l key t o) is))

  part_message : (m : Option Said) → message_in p ≡ m → AllByRecursion (IsPlain me parting now) (by_message me number p m begins).steps ⊎ IsOfUpdate me k now parting (by_message me number p m begins).steps
  unfolding hands_up answers_home_init answers_careof_init
  part_message None is = one me k now parting _ tt
  part_message (Some (HomeInit cookie options)) is = sends me k now parting (SendsHomeTest p.head.source cookie) tt (λ (n : ℕ). home_test me n p.head.source cookie) refl
  part_message (Some (CareofInit cookie options)) is = sends me k now parting (SendsCareofTest p.head.source cookie) tt (λ (n : ℕ). careof_test me n p.head.source cookie) refl
  part_message (Some (Update s a h l key t o)) is =
      let r = registration p.head.source p.head.home s a h t o in
      inr (of_update me k now parting number p r (refl, refl) (part_said s a h l key t o is) (part-bench r))
  part_message (Some _) is = still me k now parting

  pub part-answers : AllByRecursion (IsPlain me parting now) (transition_of me k now parting).steps ⊎ IsOfUpdate me k now parting (transition_of me k now parting).steps
  unfolding does parts
  part-answers = part_message (message_in p) refl

  pub part-answered : (s : ℕ) (a h l key : Bool) (t : ℕ) (o : Values) → message_in p ≡ Some (Update s a h l key t o) → IsOfUpdate me k now parting (transition_of me k now parting).steps
  unfolding does parts
  part-answered s a h l key t o is =
      let r = registration p.head.source p.head.home s a h t o in
      subst (λ (m : Option Said). IsOfUpdate me k now parting (by_message me number p m begins).steps) (sym is)
      (of_update me k now parting number p r (refl, refl) (part_said s a h l key t o is) (part-bench r))

-- whatever the call
pub call-answers : (me : Identity) (k : Known) (now : ℕ) (c : Call) → AllByRecursion (IsPlain me c now) (transition_of me k now c).steps ⊎ IsOfUpdate me k now c (transition_of me k now c).steps
unfolding does refreshes transmits
call-answers me k now (calls.Take number shield bytes) = take-answers me k now number shield bytes
call-answers me k now (calls.Part number p) = part-answers me k now number p
call-answers me k now calls.Tick = still me k now calls.Tick
call-answers me k now (calls.Refresh home) = by (held_of (given me k now (calls.Refresh home)).known (given me k now (calls.Refresh home)).now home)
  where
    by : (held : Option Address) → AllByRecursion (IsPlain me (calls.Refresh home) now) (request_refresh me home held (given me k now (calls.Refresh home))).steps
        ⊎ IsOfUpdate me k now (calls.Refresh home) (request_refresh me home held (given me k now (calls.Refresh home))).steps
    by None = one me k now (calls.Refresh home) Idles tt
    by (Some careof) = one me k now (calls.Refresh home) _ (SendsRefresh home careof, tt, refl)
call-answers me k now (calls.Send to proto payload) =
    one me k now (calls.Send to proto payload) _ (SendsData to proto payload (held_of (given me k now (calls.Send to proto payload)).known (given me k now (calls.Send to proto payload)).now to), tt, (refl, refl))

-- an acceptance is in its place
none-in_place : (k : Known) (now : ℕ) (steps : List Step) → list_any is_acceptance steps ≡ false → AllByRecursion (AcceptsInPlace k now) steps
none-in_place k now [] none = tt
none-in_place k now (Accepts number home binding accepted ∷ steps) none = absurd cc
none-in_place k now (Called call ∷ steps) none = (tt, none-in_place k now steps none)
none-in_place k now (Sends packet ∷ steps) none = (tt, none-in_place k now steps none)
none-in_place k now (Denies number status ∷ steps) none = (tt, none-in_place k now steps none)
none-in_place k now (Drops number why ∷ steps) none = (tt, none-in_place k now steps none)
none-in_place k now (HandsUp number source destination proto payload ∷ steps) none = (tt, none-in_place k now steps none)
none-in_place k now (Idles ∷ steps) none = (tt, none-in_place k now steps none)

module _ (me : Identity) (k : Known) (now : ℕ) (r : Registration) (message : List ℕ) (home : Address) (binding : ℕ) (accepted : Accepted) (granted : ℕ) (kbm : Kbm)
    (is : verdict (bench me k now r) r message ≡ Accept home binding accepted granted kbm) where
  in_place : IsInPlace k now home accepted.sequence accepted.home_nonce accepted.end.0
  in_place =
      let s = sound (bench me k now r) r message home binding accepted granted kbm is in
      let g = s.genuine in
      let nonce = g.home_nonce in
      record {
        newer = λ last kept. subst (λ (n : ℕ). is_after n last ≡ true) (sym s.of_sequence) (s.newer last (ap (floor_of k now) (sym s.of_home) ∙ kept));
        valid = nonce.0;
        room = ap (is_full_for k now) s.of_home ∙ s.room;
        short = until s.ends s.short;
      }
    where
      until : accepted.end.0 ≡ now + 4000 * granted → granted ≤ 105 → accepted.end.0 ≤ now + 420000
      until ends short = omega (arith, ends, short)

in_order : (me : Identity) (k : Known) (now : ℕ) (steps rest : List Step) (call : Call) (number : ℕ) (home : Address) (binding : ℕ) (accepted : Accepted)
    → IsInPlace k now home accepted.sequence accepted.home_nonce accepted.end.0
    → steps ≡ Called call ∷ Accepts number home binding accepted ∷ rest
    → list_any is_acceptance rest ≡ false
    → AllByRecursion (AcceptsInPlace k now) steps
in_order me k now steps rest call number home binding accepted is are none =
    subst (AllByRecursion (AcceptsInPlace k now)) (sym are) (tt, (is, none-in_place k now rest none))

pub call-in_place : (me : Identity) (k : Known) (now : ℕ) (c : Call) → AllByRecursion (AcceptsInPlace k now) (transition_of me k now c).steps
call-in_place me k now (calls.Take number shield bytes) =
    elim (taken_is me k now number shield bytes).1 as (λ _. AllByRecursion (AcceptsInPlace k now) (transition_of me k now (calls.Take number shield bytes)).steps) [
      | inl none ↦ none-in_place k now (transition_of me k now (calls.Take number shield bytes)).steps none
      | inr is ↦ in_order me k now _ is.rest (calls.Take number shield bytes) number is.home is.binding is.accepted (in_place me k now is.registration is.packet.body is.home is.binding is.accepted is.granted is.kbm is.verdict_is) is.steps_are is.none
    ]
call-in_place me k now (calls.Part number p) =
    elim (parted_is me k now number p).1 as (λ _. AllByRecursion (AcceptsInPlace k now) (transition_of me k now (calls.Part number p)).steps) [
      | inl none ↦ none-in_place k now (transition_of me k now (calls.Part number p)).steps none
      | inr is ↦ in_order me k now _ is.rest (calls.Part number p) number is.home is.binding is.accepted (in_place me k now is.registration p.body is.home is.binding is.accepted is.granted is.kbm is.verdict_is) is.steps_are is.none
    ]
call-in_place me k now calls.Tick = let none = ticked_none me k now in none-in_place k now (transition_of me k now calls.Tick).steps none.1
call-in_place me k now (calls.Refresh home) = let none = refreshed_none me k now home in none-in_place k now (transition_of me k now (calls.Refresh home)).steps none.1
call-in_place me k now (calls.Send to proto payload) = let none = sent_none me k now to proto payload in none-in_place k now (transition_of me k now (calls.Send to proto payload)).steps none.1
