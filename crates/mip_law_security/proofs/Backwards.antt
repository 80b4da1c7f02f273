-- Acknowledgements go back to the source of the update.
use Rattle.std.proofs.Common.{◌≡◌, ◌≢◌, ℕ, List, [], ◌∷◌, Bool, true, false, ◌⊎◌, inl, inr, refl, sym, ap, ◌∙◌, subst}
use Rattle.std.proofs.lemmas.Bool.{eq-eqb, eqb-true}
use Rattle.std.specs.Prelude.{Option, Some, None, Result, Ok, ◌==◌, if◌then◌else◌}
use Rattle.std.specs.List.{AllByRecursion}
use Rattle.mip_words.specs.declared.address.Address.{Address}
use Rattle.mip_tokens.specs.declared.kbm.Kbm.{Kbm}
use Rattle.mip_ipv6.specs.Packet.{Packet, source_of, destination_of}
use Rattle.mip_mobhdr.specs.declared.fault.Fault.{Fault}
use Rattle.mip_mobhdr.specs.Said.{Said}
use Rattle.mip_mobhdr.specs.Said.Said.{Update}
use Rattle.mip_mobhdr.specs.Reading.{update_of}
use Rattle.mip_mobhdr.specs.Spelling.{message_bytes}
use Rattle.mip_packets.specs.Packets.{message_packet}
use Rattle.mip_packets.specs.Authenticated.{authorized, unsealed, authenticated_packet}
use Rattle.mip_tokens.specs.Token.{authenticator_of}
use Rattle.mip_reception.specs.declared.registration.Registration.{Registration}
use Rattle.mip_reception.specs.Registrations.{registration_said, registered_of}
use Rattle.mip_reception.specs.Acks.{route_unless, ack_head, acknowledgement, ack_packet}
use Rattle.mip_rules_correspondent.specs.declared.identity.Identity.{Identity}
use Rattle.mip_rules_correspondent.specs.declared.known.Known.{Known}
use Rattle.mip_rules_correspondent.specs.declared.verdict.Verdict.{Verdict}
use Rattle.mip_rules_correspondent.specs.declared.verdict.Verdict.TheVariants.{Refuse, Deny, Accept}
use Rattle.mip_rules_correspondent.specs.Calls.{Call, Take, Part}
use Rattle.mip_rules_correspondent.specs.Steps.{Step, Sends}
use Rattle.mip_rules_correspondent.specs.Verdicts.{verdict}
use Rattle.mip_rules_correspondent.specs.Rules.{bench}
use Rattle.mip_rules_correspondent.specs.Doing.{transition_of}
use Rattle.mip_rules_correspondent.specs.Answering.{HandsOver, IsAnswered, IsOfUpdate, IsPlain}
use Rattle.mip_rules_correspondent.proofs.Answered.{call-answers}
use Rattle.mip_law_security.specs.Backwards.{GoesBack, SendsBack}

-- the routing header of an acknowledgement
routed_is : (source : Address) (option : Option Address) (home : Address) → option ≡ Some home → home.0 ≢ source.0 → route_unless source option ≡ Some home
routed_is source option home is apart = ap (route_unless source) is ∙ by (home.0 == source.0) refl
  where
    by : (b : Bool) → (home.0 == source.0) ≡ b → (let o : Option Address = (if b then None else Some home) in o) ≡ Some home
    by true same = absurd (apart (eqb-true home.0 source.0 same))
    by false other = refl

same_is : (source : Address) (option : Option Address) (home : Address) → option ≡ Some home → home.0 ≡ source.0 → route_unless source option ≡ None
same_is source option home is same = ap (route_unless source) is ∙ ap (λ (b : Bool). let o : Option Address = (if b then None else Some home) in o) (eq-eqb home.0 source.0 same)

-- a packet with the head of an acknowledgement
back_head : (own : Address) (r : Registration) (m : Said) → GoesBack own r.source r.home_option (message_packet (ack_head own r) m)
unfolding message_packet
back_head own r m = record {
  packet = record { head = ack_head own r; body = message_bytes (source_of (ack_head own r)) (destination_of (ack_head own r)) m };
  is = refl;
  from = refl;
  to = refl;
  bare = refl;
  straight = λ none. ap (route_unless r.source) none;
  routed = λ home is apart. routed_is r.source r.home_option home is apart;
  same = λ home is same. same_is r.source r.home_option home is same;
}

pub ack_back : (own : Address) (r : Registration) (status sequence lifetime : ℕ) (kbm : Option Kbm) → GoesBack own r.source r.home_option (ack_packet own r status sequence lifetime kbm)
unfolding ack_packet authenticated_packet
ack_back own r status sequence lifetime None = back_head own r (acknowledgement status sequence lifetime)
ack_back own r status sequence lifetime (Some kbm) =
    back_head own r (authorized (authenticator_of kbm.0 (registered_of r) own (unsealed (ack_head own r) (acknowledgement status sequence lifetime))) (acknowledgement status sequence lifetime))

-- an update that is read has the source and the option of its packet
record IsOf (source : Address) (option : Option Address) (r : Registration) : Type 0 where
  of_source : r.source ≡ source
  of_option : r.home_option ≡ option

of_said : (source : Address) (option : Option Address) (r : Registration) (x : Result Said Fault) → registration_said source option x ≡ Some r → IsOf source option r
of_said source option r (Ok (Update s a h l k t o)) e = record { of_source = ap source_in (sym e); of_option = ap option_in (sym e) }
  where
    source_in : Option Registration → Address
    source_in None = source
    source_in (Some x) = x.source

    option_in : Option Registration → Option Address
    option_in None = option
    option_in (Some x) = x.home_option
of_said source option r _ e = absurd cc

ack_to : (own source : Address) (option : Option Address) (r : Registration) (status sequence lifetime : ℕ) (kbm : Option Kbm) → IsOf source option r → GoesBack own source option (ack_packet own r status sequence lifetime kbm)
ack_to own source option r status sequence lifetime kbm of =
    subst (λ (a : Address). GoesBack own a option (ack_packet own r status sequence lifetime kbm)) of.of_source
    (subst (λ (o : Option Address). GoesBack own r.source o (ack_packet own r status sequence lifetime kbm)) of.of_option (ack_back own r status sequence lifetime kbm))

module _ (me : Identity) (k : Known) (now : ℕ) (c : Call) (p : Packet) where
  each_plain : (steps : List Step) → AllByRecursion (IsPlain me c now) steps → AllByRecursion (SendsBack me c now p) steps
  each_plain [] all = tt
  each_plain (Sends packet ∷ steps) all = (inl all.0, each_plain steps all.1)
  each_plain (_ ∷ steps) all = (tt, each_plain steps all.1)

  -- what becomes of an update
  answered : (number : ℕ) (r : Registration) (v : Verdict) (rest : List Step) → IsOf p.head.source p.head.home r → IsAnswered me number r v rest → AllByRecursion (SendsBack me c now p) rest
  answered number r (Refuse why) rest of is = subst (AllByRecursion (SendsBack me c now p)) (sym is) (tt, tt)
  answered number r (Deny status last kbm) rest of is =
      subst (AllByRecursion (SendsBack me c now p)) (sym is) (tt, (inr (ack_to me.own p.head.source p.head.home r status last 0 kbm of), tt))
  answered number r (Accept home binding accepted granted kbm) rest of is = subst (AllByRecursion (SendsBack me c now p)) (sym is) (tt, acked r.ack)
    where
      acked : (b : Bool) → AllByRecursion (SendsBack me c now p) (if b then Sends (ack_packet me.own r 0 r.sequence granted (Some kbm)) ∷ [] else [])
      acked true = (inr (ack_to me.own p.head.source p.head.home r 0 r.sequence granted (Some kbm) of), tt)
      acked false = tt

  -- a call hands over one packet
  one_packet : (call : Call) (n m : ℕ) (q : Packet) → HandsOver call n p → HandsOver call m q → q ≡ p
  one_packet (Take number shield bytes) n m q a b = let both = sym b.1 ∙ a.1 in cc
  one_packet (Part number x) n m q a b = sym b.1 ∙ a.1
  one_packet _ n m q a b = absurd a

  of_update : (number : ℕ) (steps : List Step) → HandsOver c number p → IsOfUpdate me k now c steps → AllByRecursion (SendsBack me c now p) steps
  of_update number steps handed u =
      let same : u.packet ≡ p = one_packet c number u.number u.packet handed u.handed in
      let of : IsOf p.head.source p.head.home u.update =
      subst (λ (q : Packet). IsOf q.head.source q.head.home u.update) same (of_said u.packet.head.source u.packet.head.home u.update (update_of u.packet.body) u.asks) in
      subst (AllByRecursion (SendsBack me c now p)) (sym u.steps_are)
      (tt, answered u.number u.update (verdict (bench me k now u.update) u.update u.packet.body) u.rest of u.answered)

  pub call_back : (number : ℕ) → HandsOver c number p → AllByRecursion (SendsBack me c now p) (transition_of me k now c).steps
  call_back number handed = by (call-answers me k now c)
    where
      by : AllByRecursion (IsPlain me c now) (transition_of me k now c).steps ⊎ IsOfUpdate me k now c (transition_of me k now c).steps → AllByRecursion (SendsBack me c now p) (transition_of me k now c).steps
      by (inl plain) = each_plain (transition_of me k now c).steps plain
      by (inr u) = of_update number (transition_of me k now c).steps handed u
