-- What becomes of an update that is handed over to a home agent.
use Rattle.std.proofs.Common.{◌≡◌, ℕ, List, [], ◌∷◌, Bool, true, false, refl, sym, ap, ◌∙◌, subst}
use Rattle.std.specs.Prelude.{◌&&◌, Option, Some, None, is_some, Result, Ok, Err, if◌then◌else◌}
use Rattle.std.specs.List.{filter, list_any}
use Rattle.mip_words.specs.declared.address.Address.{Address}
use Rattle.mip_words.specs.declared.shield.Shield.{Shield}
use Rattle.mip_ipv6.specs.declared.head.Head.{Head}
use Rattle.mip_ipv6.specs.declared.not_packet.NotPacket.{NotPacket}
use Rattle.mip_ipv6.specs.Packet.{Packet}
use Rattle.mip_ipv6.specs.Reading.{packet_of}
use Rattle.mip_mobhdr.specs.OptionValues.{Values}
use Rattle.mip_mobhdr.specs.Said.{Said}
use Rattle.mip_mobhdr.specs.Said.Said.{Update}
use Rattle.mip_outside.specs.declared.claim.Claim.{Claim}
use Rattle.mip_entries.proofs.TransitionLaws.{noted_all, noted_all-is}
use Rattle.mip_reception.specs.declared.refusal.Refusal.{Refusal}
use Rattle.mip_reception.specs.Checks.{is_update, checked}
use Rattle.mip_reception.specs.Replies.{reply_packet}
use Rattle.mip_reception.proofs.CheckedMessages.{checked_message}
use Rattle.mip_reception.proofs.Passings.{passes as passes_both, update_alone}
use Rattle.mip_reception.specs.declared.registration.Registration.{Registration}
use Rattle.mip_reception.specs.Registrations.{registration, home_of, deletes, registered_of}
use Rattle.mip_rules_agent.specs.declared.identity.Identity.{Identity}
use Rattle.mip_rules_agent.specs.declared.home_verdict.HomeVerdict.{HomeVerdict}
use Rattle.mip_rules_agent.specs.declared.home_verdict.HomeVerdict.TheVariants.{Refuse, Deny, Accept}
use Rattle.mip_rules_agent.specs.Known.{Known}
use Rattle.mip_rules_agent.specs.Calls as calls
use Rattle.mip_rules_agent.specs.Calls.{Call}
use Rattle.mip_rules_agent.specs.Steps.{Step, Called, Sends, Registers, Claims, Releases, Denies, Drops}
use Rattle.mip_rules_agent.specs.Questions.{careof_at, holds, after}
use Rattle.mip_rules_agent.specs.Transitions.{Transition, begun, noted}
use Rattle.mip_rules_agent.specs.Verdicts.{verdict, binding_for}
use Rattle.mip_rules_agent.specs.Rules.{Handing, bench, claim_with, acknowledges, denies, claims_if, answers_if, accepts, judged, takes_update, is_careof, replies, refuses, holds_option, standing_of, after_checks, place_in, by_destination, receives}
use Rattle.mip_rules_agent.specs.Doing.{takes, handing, does, transition_of}
use Rattle.mip_rules_agent.specs.Refusing.{is_refusal}
use Rattle.mip_rules_agent.specs.Taken.{IsUpdateIn}
use Rattle.mip_rules_agent.specs.Answering.{verdict_at, ack_of, is_sending, IsRegistered, IsAnswered, IsOfUpdate}
use Rattle.mip_rules_agent.proofs.VerdictLaws.{sound}
use Rattle.mip_rules_agent.proofs.Walks.{update_in, careof-is}
use Rattle.mip_rules_agent.proofs.Rights.{careof-before}

module _ (me : Identity) (k : Known) (now number : ℕ) (shield : Option Shield) (bytes : List ℕ) (claim : Claim) where
  abbrev call : Step
  call = Called (calls.Take number shield bytes claim)

  abbrev given : Transition
  given = noted call (begun now k)

  abbrev h : Handing
  h = handing me given.now given.known number shield bytes claim

  -- the same, where what the call leaves known is written out
  abbrev opened : Handing
  opened = handing me now (after k (record { at = now; step = call })) number shield bytes claim

  module _ (r : Registration) where
    answered : (rest : List Step) → IsAnswered me now number r (verdict_at me k now shield claim r) rest → IsOfUpdate me k now number shield bytes claim r (noted_all after rest given).steps
    answered rest is = record { rest = rest; steps_are = ap (λ (t : Transition). t.steps) (noted_all-is after (call ∷ rest) (begun now k)); answered = is }

    -- one that is accepted
    module _ (home careof : Address) (sequence granted : ℕ) (is : verdict_at me k now shield claim r ≡ Accept home careof sequence granted) where
      abbrev step : Step
      step = Registers number home (binding_for now careof sequence granted)

      abbrev told : Bool → List Step
      told ack = if ack then ack_of me r 0 r.sequence granted ∷ [] else []

      parts : (home ≡ home_of r) × (careof ≡ registered_of r) × (sequence ≡ r.sequence)
      parts = let s = sound (bench me k now r) shield (claim_with (holds k (home_of r)) claim) r home careof sequence granted is in (s.of_home, s.of_careof, s.of_sequence)

      registered : (rest : List Step) → filter is_sending rest ≡ told r.ack → IsOfUpdate me k now number shield bytes claim r (noted_all after (step ∷ rest) given).steps
      registered rest sends =
          answered (step ∷ rest) (subst (λ (v : HomeVerdict). IsAnswered me now number r v (step ∷ rest)) (sym is) (record {
            granted = granted;
            accepts = ap (λ (a : Address). Accept a careof sequence granted) parts.0 ∙ ap (λ (a : Address). Accept (home_of r) a sequence granted) parts.1 ∙ ap (λ (n : ℕ). Accept (home_of r) (registered_of r) n granted) parts.2;
            rest = rest;
            steps_are = ap (λ (a : Address). Registers number a (binding_for now careof sequence granted) ∷ rest) parts.0
                ∙ ap (λ (a : Address). Registers number (home_of r) (binding_for now a sequence granted) ∷ rest) parts.1
                ∙ ap (λ (n : ℕ). Registers number (home_of r) (binding_for now (registered_of r) n granted) ∷ rest) parts.2;
            told = sends;
          }))

      by_flags : (held ends ack : Bool) → r.ack ≡ ack → IsOfUpdate me k now number shield bytes claim r (answers_if ack me r granted (claims_if held ends home (noted step given))).steps
      unfolding acknowledges
      by_flags true true true flag = registered (Releases home ∷ ack_of me r 0 r.sequence granted ∷ []) (sym (ap told flag))
      by_flags true true false flag = registered (Releases home ∷ []) (sym (ap told flag))
      by_flags true false true flag = registered (ack_of me r 0 r.sequence granted ∷ []) (sym (ap told flag))
      by_flags true false false flag = registered [] (sym (ap told flag))
      by_flags false true true flag = registered (ack_of me r 0 r.sequence granted ∷ []) (sym (ap told flag))
      by_flags false true false flag = registered [] (sym (ap told flag))
      by_flags false false true flag = registered (Claims home ∷ ack_of me r 0 r.sequence granted ∷ []) (sym (ap told flag))
      by_flags false false false flag = registered (Claims home ∷ []) (sym (ap told flag))

    of_verdict : (v : HomeVerdict) → verdict_at me k now shield claim r ≡ v → IsOfUpdate me k now number shield bytes claim r (judged opened r (holds k (home_of r)) v given).steps
    unfolding denies accepts acknowledges
    of_verdict (Refuse why) is = answered (Drops number why ∷ []) (subst (λ (v : HomeVerdict). IsAnswered me now number r v (Drops number why ∷ [])) (sym is) refl)
    of_verdict (Deny status last) is =
        let rest : List Step = Denies number status ∷ ack_of me r status last 0 ∷ [] in
        answered rest (subst (λ (v : HomeVerdict). IsAnswered me now number r v rest) (sym is) refl)
    of_verdict (Accept home careof sequence granted) is = by_flags home careof sequence granted is (holds k (home_of r)) (deletes r) r.ack refl

    of_update : IsOfUpdate me k now number shield bytes claim r (takes_update h r given).steps
    unfolding takes_update after
    of_update =
        subst (λ (u : Transition). IsOfUpdate me k now number shield bytes claim r (takes_update (handing me u.now u.known number shield bytes claim) r given).steps) (sym (noted_all-is after (call ∷ []) (begun now k)))
        (of_verdict (verdict_at me k now shield claim r) refl)

  standing-before : (head : Head) → standing_of me given.known given.now head ≡ standing_of me k now head
  unfolding after
  standing-before head = ap (λ (t : Transition). standing_of me t.known t.now head) (noted_all-is after (call ∷ []) (begun now k))

  -- an update that is not caught, and passes the checks, is answered
  pub call-answered : (p : Packet) (s : ℕ) (a f l key : Bool) (t : ℕ) (o : Values) → packet_of bytes ≡ Ok p
      → careof_at k now p.head.destination ≡ None
      → checked (standing_of me k now p.head) (place_in bytes p) p ≡ Ok (Some (Update s a f l key t o))
      → IsOfUpdate me k now number shield bytes claim (registration p.head.source p.head.home s a f t o) (transition_of me k now (calls.Take number shield bytes claim)).steps
  unfolding does takes
  call-answered p s a f l key t o read free passes =
      let r = registration p.head.source p.head.home s a f t o in
      let same : checked (standing_of me given.known given.now p.head) (place_in bytes p) p ≡ Ok (Some (Update s a f l key t o)) = ap (λ m. checked m (place_in bytes p) p) (standing-before p.head) ∙ passes in
      subst (λ (x : Result Packet NotPacket). IsOfUpdate me k now number shield bytes claim r (receives h x given).steps) (sym read)
      (subst (λ (x : Option Address). IsOfUpdate me k now number shield bytes claim r (by_destination h p x given).steps) (sym (careof-before me k now number shield bytes claim p.head.destination ∙ free))
      (subst (λ (x : Result (Option Said) Refusal). IsOfUpdate me k now number shield bytes claim r (after_checks h p x given).steps) (sym same)
      (of_update r)))

  -- a packet that is refused
  refused-all : (refusal : Refusal) (reply : Option (List ℕ)) → list_any is_refusal (replies reply (noted (Drops number refusal.why) given)).steps ≡ true
  refused-all refusal None = ap (λ (t : Transition). list_any is_refusal t.steps) (noted_all-is after (call ∷ Drops number refusal.why ∷ []) (begun now k))
  refused-all refusal (Some packet) = ap (λ (t : Transition). list_any is_refusal t.steps) (noted_all-is after (call ∷ Drops number refusal.why ∷ Sends None packet ∷ []) (begun now k))

  -- what is not caught is checked
  uncaught : (p : Packet) → packet_of bytes ≡ Ok p → careof_at k now p.head.destination ≡ None
      → transition_of me k now (calls.Take number shield bytes claim) ≡ after_checks h p (checked (standing_of me given.known given.now p.head) (place_in bytes p) p) given
  unfolding does takes
  uncaught p read free =
      ap (λ (x : Result Packet NotPacket). receives h x given) read
      ∙ ap (λ (x : Option Address). by_destination h p x given) (careof-before me k now number shield bytes claim p.head.destination ∙ free)

  checked-bound : (p : Packet) (home : Address) (r : Result (Option Said) Refusal) → packet_of bytes ≡ Ok p → checked (standing_of me given.known given.now p.head) (place_in bytes p) p ≡ r
      → p.head.home ≡ Some home
      → ((update : Registration) → IsUpdateIn bytes update → ⊥)
      → list_any is_refusal (after_checks h p r given).steps ≡ false
      → is_careof given.known given.now home p.head.source ≡ true
  unfolding refuses
  checked-bound p home (Err refusal) read is option none quiet =
      absurd (let both : true ≡ false = sym (refused-all refusal (reply_packet me.own p.head.source bytes refusal.reply)) ∙ quiet in cc)
  checked-bound p home (Ok m) read is option none quiet = by (is_careof given.known given.now home p.head.source) refl
    where
      standing-holds : (standing_of me given.known given.now p.head).holds ≡ is_careof given.known given.now home p.head.source
      standing-holds = ap (λ (o : Option Address). holds_option given.known given.now p.head.source o) option

      never : (m : Option Said) → checked (standing_of me given.known given.now p.head) (place_in bytes p) p ≡ Ok m → is_update m ≡ true → ⊥
      never None is e = absurd cc
      never (Some (Update s a f l key t o)) is e =
          none (registration p.head.source p.head.home s a f t o)
          (update_in bytes p (place_in bytes p) s a f l key t o read (checked_message (standing_of me given.known given.now p.head) (place_in bytes p) p (Some (Update s a f l key t o)) is))
      never (Some _) is e = absurd cc

      by : (held : Bool) → is_careof given.known given.now home p.head.source ≡ held → held ≡ true
      by true e = refl
      by false e = absurd (never m is (update_alone (standing_of me given.known given.now p.head) (place_in bytes p) p m home is option (standing-holds ∙ e)))

  -- what passes with a Home Address option, and is no update, comes from the registered care-of address of the home
  pub call-bound : (p : Packet) (home : Address) → packet_of bytes ≡ Ok p
      → careof_at k now p.head.destination ≡ None
      → p.head.home ≡ Some home
      → ((update : Registration) → IsUpdateIn bytes update → ⊥)
      → list_any is_refusal (transition_of me k now (calls.Take number shield bytes claim)).steps ≡ false
      → (careof : Address) × (careof_at k now home ≡ Some careof) × (careof.0 ≡ p.head.source.0)
  unfolding after
  call-bound p home read free option none quiet =
      let bound = checked-bound p home (checked (standing_of me given.known given.now p.head) (place_in bytes p) p) read refl option none (sym (ap (λ (t : Transition). list_any is_refusal t.steps) (uncaught p read free)) ∙ quiet) in
      careof-is k now home p.head.source (sym (ap (λ (t : Transition). is_careof t.known t.now home p.head.source) (noted_all-is after (call ∷ []) (begun now k))) ∙ bound)

  -- what has a routing header is refused
  unrouted : (p : Packet) (r : Result (Option Said) Refusal) → checked (standing_of me given.known given.now p.head) (place_in bytes p) p ≡ r → is_some p.head.route ≡ true
      → list_any is_refusal (after_checks h p r given).steps ≡ true
  unfolding refuses
  unrouted p (Err refusal) is routed = refused-all refusal (reply_packet me.own p.head.source bytes refusal.reply)
  unrouted p (Ok m) is routed =
      let both_ways = passes_both (standing_of me given.known given.now p.head) (place_in bytes p) p m in
      let passed = both_ways.0 is in
      let both : (true && true) ≡ false = sym (ap (λ (b : Bool). b && true) routed) ∙ passed.route in
      absurd cc

  pub call-unrouted : (p : Packet) → packet_of bytes ≡ Ok p → careof_at k now p.head.destination ≡ None → is_some p.head.route ≡ true
      → list_any is_refusal (transition_of me k now (calls.Take number shield bytes claim)).steps ≡ true
  call-unrouted p read free routed =
      ap (λ (t : Transition). list_any is_refusal t.steps) (uncaught p read free)
      ∙ unrouted p (checked (standing_of me given.known given.now p.head) (place_in bytes p) p) refl routed
