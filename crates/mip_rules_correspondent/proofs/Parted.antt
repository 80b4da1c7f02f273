-- What the correspondent part of a mobile does about a packet: it accepts nothing, or at once the update in the packet, with
-- the verdict Accept.
use Rattle.std.proofs.Common.{◌≡◌, ℕ, List, [], ◌∷◌, Bool, true, false, ◌⊎◌, inl, inr, refl, sym, ap, subst}
use Rattle.std.specs.Prelude.{Option, Some, None, Result, Ok, Err, ◌==◌, if◌then◌else◌}
use Rattle.std.specs.Result.{result_ok}
use Rattle.std.specs.List.{list_any}
use Rattle.std.proofs.lemmas.Bool.{cond_both, eqb-true}
use Rattle.mip_ipv6.specs.Packet.{Packet, source_of, destination_of}
use Rattle.mip_mobhdr.specs.declared.fault.Fault.{Fault}
use Rattle.mip_mobhdr.specs.Said.{Said}
use Rattle.mip_mobhdr.specs.Said.Said.{HomeInit, CareofInit, Update}
use Rattle.mip_mobhdr.specs.Reading.{message_of}
use Rattle.mip_reception.specs.Says.{message_in}
use Rattle.mip_entries.proofs.TransitionLaws.{noted_all, noted_all-is}
use Rattle.mip_reception.specs.declared.registration.Registration.{Registration}
use Rattle.mip_reception.specs.Registrations.{registration, registration_said, registration_in}
use Rattle.mip_reception.specs.Acks.{ack_packet}
use Rattle.mip_rules_correspondent.specs.declared.identity.Identity.{Identity}
use Rattle.mip_rules_correspondent.specs.declared.known.Known.{Known}
use Rattle.mip_rules_correspondent.specs.declared.verdict.Verdict.{Verdict}
use Rattle.mip_rules_correspondent.specs.declared.verdict.Verdict.TheVariants.{Refuse, Deny, Accept}
use Rattle.mip_rules_correspondent.specs.Calls as calls
use Rattle.mip_rules_correspondent.specs.Steps.{Step, Called, Sends, Accepts}
use Rattle.mip_rules_correspondent.specs.StepsLaws.{is_acceptance}
use Rattle.mip_rules_correspondent.specs.Questions.{after}
use Rattle.mip_rules_correspondent.specs.Transitions.{Transition, begun, noted}
use Rattle.mip_rules_correspondent.specs.Verdicts.{verdict}
use Rattle.mip_rules_correspondent.specs.Rules.{answers_home_init, answers_careof_init, bench, denies, accepts, judged, takes_update, hands_up, by_message}
use Rattle.mip_rules_correspondent.specs.Doing.{parts, does, transition_of}
use Rattle.mip_rules_correspondent.specs.Refusing.{is_refusal}
use Rattle.mip_rules_correspondent.specs.Taken.{IsUpdateParted}
use Rattle.mip_reception.proofs.CheckedMessages.{update_read}
use Rattle.mip_rules_correspondent.proofs.Taken.{AcceptsNone, none_called, none_more}

-- a packet with a message has a mobility header, and the message is read from it
parted_proto : (p : Packet) (m : Said) → message_in p ≡ Some m → p.head.proto ≡ 135
parted_proto p m =
    cond_both (p.head.proto == 135) _ _ (λ (o : Option Said). o ≡ Some m → p.head.proto ≡ 135) (λ is e. eqb-true p.head.proto 135 is) (λ other e. absurd cc)

some_result : (r : Result Said Fault) (m : Said) → result_ok r ≡ Some m → r ≡ Ok m
some_result (Ok message) m e = cc
some_result (Err fault) m e = absurd cc

pub parted_read : (p : Packet) (m : Said) → message_in p ≡ Some m → message_of (source_of p.head) (destination_of p.head) p.body ≡ Ok m
parted_read p m e = by (p.head.proto == 135) e
  where
    by : (b : Bool) → (if b then result_ok (message_of (source_of p.head) (destination_of p.head) p.body) else None) ≡ Some m → message_of (source_of p.head) (destination_of p.head) p.body ≡ Ok m
    by true e = some_result (message_of (source_of p.head) (destination_of p.head) p.body) m e
    by false e = absurd cc

module _ (me : Identity) (k : Known) (now number : ℕ) (p : Packet) where
  abbrev Is : Transition → Type 0
  Is t = (t.now ≡ now) × ((list_any is_acceptance t.steps ≡ false) ⊎ IsUpdateParted me k now number p t.steps)

  abbrev given : Transition
  given = noted (Called (calls.Part number p)) (begun now k)

  calm : (t : Transition) → AcceptsNone now t → Is t
  calm t none = (none.0, inl none.1)

  -- nothing behind the call, or one step or two, none of them an acceptance
  still : Is given
  still = calm given (none_called k now (calls.Part number p))

  one : (step : Step) → is_acceptance step ≡ false → Is (noted step given)
  one step silent = calm (noted step given) (none_more now step given silent (none_called k now (calls.Part number p)))

  two : (first last : Step) → is_acceptance first ≡ false → is_acceptance last ≡ false → Is (noted last (noted first given))
  two first last silent also = calm (noted last (noted first given)) (none_more now last (noted first given) also (none_more now first given silent (none_called k now (calls.Part number p))))

  of_verdict : (r : Registration) → p.head.proto ≡ 135 → registration_in p.head.source p.head.home p.body ≡ Some r
      → (v : Verdict) → verdict (bench me k now r) r p.body ≡ v → Is (judged me number r v given)
  unfolding denies accepts
  of_verdict r mobility asks (Refuse why) is = one _ refl
  of_verdict r mobility asks (Deny status last kbm) is = two _ _ refl refl
  of_verdict r mobility asks (Accept home binding a granted kbm) is = by r.ack
    where
      first : Transition
      first = noted (Accepts number home binding a) given

      taken : (rest : List Step) → list_any is_acceptance rest ≡ false → list_any is_refusal rest ≡ false → Is (noted_all after rest first)
      taken rest none kept = subst Is (sym (noted_all-is after (Called (calls.Part number p) ∷ Accepts number home binding a ∷ rest) (begun now k))) (
        refl,
        inr (record {
          mobility = mobility;
          registration = r;
          asks = asks;
          home = home;
          binding = binding;
          accepted = a;
          granted = granted;
          kbm = kbm;
          verdict_is = is;
          rest = rest;
          steps_are = refl;
          none = none;
          kept = kept;
        }),
      )

      by : (ack : Bool) → Is (let t : Transition = (if ack then noted (Sends (ack_packet me.own r 0 r.sequence granted (Some kbm))) first else first) in t)
      by true = taken (Sends (ack_packet me.own r 0 r.sequence granted (Some kbm)) ∷ []) refl refl
      by false = taken [] refl refl

  of_update : (r : Registration) → p.head.proto ≡ 135 → registration_in p.head.source p.head.home p.body ≡ Some r → Is (takes_update me number r p.body given)
  unfolding takes_update after
  of_update r mobility asks =
      subst (λ (u : Transition). Is (judged me number r (verdict (bench me u.known u.now r) r p.body) given)) (sym (noted_all-is after (Called (calls.Part number p) ∷ []) (begun now k)))
      (of_verdict r mobility asks (verdict (bench me k now r) r p.body) refl)

  of_message : (m : Option Said) → message_in p ≡ m → Is (by_message me number p m given)
  unfolding hands_up answers_home_init answers_careof_init
  of_message None is = one _ refl
  of_message (Some (HomeInit cookie options)) is = one _ refl
  of_message (Some (CareofInit cookie options)) is = one _ refl
  of_message (Some (Update s a h l key t o)) is =
      of_update (registration p.head.source p.head.home s a h t o) (parted_proto p (Update s a h l key t o) is)
      (ap (registration_said p.head.source p.head.home)
      (update_read p.body s a h l key t o (source_of p.head) (destination_of p.head) (parted_read p (Update s a h l key t o) is)))
  of_message (Some _) is = still

  pub parted_is : Is (transition_of me k now (calls.Part number p))
  unfolding does parts
  parted_is = of_message (message_in p) refl
