-- By what right each packet goes out, and under which shield what is intercepted goes on.
use Rattle.std.proofs.Common.{◌≡◌, ℕ, List, Bool, true, false, length, refl, sym, ap, ◌∙◌, subst}
use Rattle.std.specs.Prelude.{Option, Some, Result, Ok, nat_lt, if◌then◌else◌}
use Rattle.std.specs.List.{AllByRecursion}
use Rattle.mip_words.specs.declared.address.Address.{Address}
use Rattle.mip_words.specs.declared.shield.Shield.{Shield}
use Rattle.mip_words.specs.declared.why.Why.{Why}
use Rattle.mip_words.specs.declared.why.Why.TheVariants as whys
use Rattle.mip_ipv6.specs.declared.not_packet.NotPacket.{NotPacket}
use Rattle.mip_ipv6.specs.Packet.{Packet}
use Rattle.mip_ipv6.specs.Reading.{packet_of}
use Rattle.mip_ipv6.specs.Tunnel.{hop_of, encapsulated}
use Rattle.mip_outside.specs.declared.claim.Claim.{Claim}
use Rattle.mip_entries.proofs.TransitionLaws.{noted-now, noted-known}
use Rattle.mip_rules_agent.specs.declared.identity.Identity.{Identity}
use Rattle.mip_rules_agent.specs.Known.{Known}
use Rattle.mip_rules_agent.specs.Calls.{Call, Take}
use Rattle.mip_rules_agent.specs.Steps.{Step, Called, Sends, Denies, Drops}
use Rattle.mip_rules_agent.specs.Questions.{careof_at, after}
use Rattle.mip_rules_agent.specs.Transitions.{Transition, begun, noted}
use Rattle.mip_rules_agent.specs.Rules.{Handing, shield_for, intercepts, by_destination, receives}
use Rattle.mip_rules_agent.specs.Doing.{takes, handing, does, transition_of}
use Rattle.mip_rules_agent.specs.Sendings.{Sending, SendsInto, SendsOut, SendsAck, SendsReply, SendsAgents, SendsPrefix}
use Rattle.mip_rules_agent.specs.Rights.{IsRightful, SendsRightly, IsTunnelled}
use Rattle.mip_rules_agent.proofs.Sendings.{all-noted}
use Rattle.mip_rules_agent.proofs.Walks.{every-take}

module _ (me : Identity) (k : Known) (now number : ℕ) (shield : Option Shield) (bytes : List ℕ) (claim : Claim) where
  abbrev c : Call
  c = Take number shield bytes claim

  abbrev first : Transition
  first = noted (Called c) (begun now k)

  -- a call that begins changes no right
  rightful-called : (x : Sending) → IsRightful me (after k (record { at = now; step = Called c })) now shield bytes claim x → IsRightful me k now shield bytes claim x
  unfolding after
  rightful-called (SendsInto home careof proto) is = is
  rightful-called (SendsOut outer inner) is = record { careof = is.careof; registered = is.registered; from = is.from; onward = is.onward; shielded = is.shielded }
  rightful-called (SendsAck update status sequence lifetime) is = record { shielded = is.shielded; is_in = is.is_in; tells = is.tells }
  rightful-called (SendsReply source reply) is = tt
  rightful-called (SendsAgents to identifier agents) is = tt
  rightful-called (SendsPrefix home careof identifier valid preferred) is = is

  rightly-called : (step : Step) → SendsRightly me (after k (record { at = now; step = Called c })) now shield bytes claim step → SendsRightly me k now shield bytes claim step
  unfolding after
  rightly-called (Sends under packet) right = (right.0, right.1, rightful-called right.0 right.2)
  rightly-called (Denies denied status) right = record { update = right.update; is_in = right.is_in; last = right.last; verdict_is = right.verdict_is }
  rightly-called (Drops number why) right = right
  rightly-called _ right = tt

  pub rightly-before : (step : Step) → SendsRightly me first.known first.now shield bytes claim step → SendsRightly me k now shield bytes claim step
  rightly-before step right =
      rightly-called step
      (subst (λ (l : Known). SendsRightly me l now shield bytes claim step) (noted-known after (Called c) (begun now k))
      (subst (λ (n : ℕ). SendsRightly me first.known n shield bytes claim step) (noted-now after (Called c) (begun now k)) right))

  pub careof-before : (home : Address) → careof_at first.known first.now home ≡ careof_at k now home
  unfolding after
  careof-before home =
      ap (λ (l : Known). careof_at l first.now home) (noted-known after (Called c) (begun now k))
      ∙ ap (λ (n : ℕ). careof_at k n home) (noted-now after (Called c) (begun now k))

module _ (me : Identity) (k : Known) (now number : ℕ) (shield : Option Shield) (bytes : List ℕ) (claim : Claim) where
  abbrev call : Call
  call = Take number shield bytes claim

  abbrev given : Transition
  given = noted (Called call) (begun now k)

  abbrev h : Handing
  h = handing me given.now given.known number shield bytes claim

  pub call-rightly : AllByRecursion (SendsRightly me k now shield bytes claim) (transition_of me k now (Take number shield bytes claim)).steps
  unfolding does
  call-rightly =
      let R : Step → Type 0 = SendsRightly me k now shield bytes claim in
      every-take h (λ (t : Transition). AllByRecursion R t.steps)
      (λ step t quiet right all. all-noted R step t (rightly-before me k now number shield bytes claim step right) all)
      given (all-noted R (Called call) (begun now k) tt tt)

  pub keeps-shield : (p : Packet) (careof : Address) → packet_of bytes ≡ Ok p → careof_at k now p.head.destination ≡ Some careof
      → AllByRecursion (IsTunnelled me.own p careof bytes) (transition_of me k now (Take number shield bytes claim)).steps
  unfolding does takes intercepts
  keeps-shield p careof read at =
      subst (λ (r : Result Packet NotPacket). AllOf (receives h r given)) (sym read)
      (subst (λ (o : Option Address). AllOf (by_destination h p o given)) (sym (careof-before me k now number shield bytes claim p.head.destination ∙ at))
      (either (nat_lt (hop_of bytes) 2) _ _ (dropped whys.Hop)
      (either (nat_lt 65535 (length bytes)) _ _ (dropped whys.Size) sent)))
    where
      T : Step → Type 0
      T = IsTunnelled me.own p careof bytes

      AllOf : Transition → Type 0
      AllOf t = AllByRecursion (IsTunnelled me.own p careof bytes) t.steps

      begins : AllByRecursion (IsTunnelled me.own p careof bytes) given.steps
      begins = all-noted T (Called call) (begun now k) tt tt

      dropped : (why : Why) → AllByRecursion (IsTunnelled me.own p careof bytes) (noted (Drops number why) given).steps
      dropped why = all-noted T (Drops number why) given tt begins

      sent : AllByRecursion (IsTunnelled me.own p careof bytes) (noted (Sends (shield_for me.own p.head.destination p.head.proto) (encapsulated me.own careof bytes)) given).steps
      sent = all-noted T (Sends (shield_for me.own p.head.destination p.head.proto) (encapsulated me.own careof bytes)) given (refl, refl) begins

      either : (b : Bool) (x y : Transition) → AllByRecursion (IsTunnelled me.own p careof bytes) x.steps → AllByRecursion (IsTunnelled me.own p careof bytes) y.steps
          → AllByRecursion (IsTunnelled me.own p careof bytes) (let u : Transition = (if b then x else y) in u.steps)
      either true x y p q = p
      either false x y p q = q
