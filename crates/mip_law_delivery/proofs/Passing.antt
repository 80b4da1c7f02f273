-- What a home agent does with data of a home that it has registered, and what passes the checks of a node.
use Rattle.std.proofs.Common.{◌≡◌, ◌≢◌, ℕ, List, [], ◌∷◌, length, Bool, true, false, refl, ◌∙◌, ap}
use Rattle.std.specs.Prelude.{not, ◌&&◌, ◌==◌, Option, Some, None, is_some, Ok}
use Rattle.std.proofs.lemmas.Bool.{cond-true, cond-false, le-ltb, eq-eqb, ne_eqb, not_from_true}
use Rattle.mip_words.specs.declared.address.Address.{Address}
use Rattle.mip_words.specs.declared.shield.Shield.{Shield}
use Rattle.mip_ipv6.specs.Packet.{Packet}
use Rattle.mip_entries.specs.declared.answer.Answer.TheVariants.{Send}
use Rattle.mip_ipv6.specs.Tunnel.{hop_of, encapsulated}
use Rattle.mip_entries.specs.Transitions.{noted_by}
use Rattle.mip_outside.specs.declared.claim.Claim.{Claim}
use Rattle.mip_reception.specs.declared.address_match.AddressMatch.{AddressMatch}
use Rattle.mip_reception.specs.Checks.{message_at, with_home, then_home, checked}
use Rattle.mip_rules_agent.specs.declared.identity.Identity.{Identity}
use Rattle.mip_rules_agent.specs.Known.{Known}
use Rattle.mip_rules_agent.specs.Calls.{Take}
use Rattle.mip_rules_agent.specs.Steps.{answers_of}
use Rattle.mip_rules_agent.specs.Questions.{after}
use Rattle.mip_rules_agent.specs.Rules.{shield_for, intercepts, takes_tunnel}
use Rattle.mip_rules_agent.specs.Doing.{takes, does, transition_of}
use Rattle.mip_law_delivery.specs.Legs.{IsForHome, IsFromHome}

module _ (me : Identity) (k : Known) (now number : ℕ) (shield : Option Shield) (bytes : List ℕ) (claim : Claim) where
  pub caught : (p : Packet) (careof : Address) → IsForHome k now bytes p careof
      → answers_of (transition_of me k now (Take number shield bytes claim)).steps ≡ Send (shield_for me.own p.head.destination p.head.proto) (encapsulated me.own careof bytes) ∷ []
  unfolding does takes intercepts noted_by after
  caught p careof is = rw (is.read, is.registered, le-ltb (hop_of bytes) 2 is.hop, le-ltb 65535 (length bytes) is.size) refl

  pub passed : (outer inner : Packet) → IsFromHome me k now bytes outer inner → answers_of (transition_of me k now (Take number shield bytes claim)).steps ≡ Send None outer.body ∷ []
  unfolding does takes takes_tunnel noted_by after
  passed outer inner is =
      rw (is.read, is.own, is.passes, eq-eqb outer.head.proto 41 is.tunnel, eq-eqb outer.head.destination.0 me.own.0 is.exit, is.inside, is.registered, ne_eqb inner.head.destination.0 me.own.0 is.further, ne_eqb inner.head.proto 135 is.plain)
      refl

-- a routing header stands only where it is taken
routed : (there takes : Bool) → (there ≡ true → takes ≡ true) → (there && not takes) ≡ false
routed true takes is = not_from_true takes (is refl)
routed false takes is = refl

-- a Home Address option stands only where its binding is held
homed : (holds : Bool) (home : Option Address) → (is_some home ≡ true → holds ≡ true) → with_home holds home None ≡ Ok None
homed holds None is = refl
homed holds (Some home) is = cond-true holds _ _ (is refl)

plain_message : (place : ℕ) (p : Packet) → p.head.proto ≢ 135 → message_at place p ≡ Ok None
unfolding message_at
plain_message place p plain = cond-false (p.head.proto == 135) _ _ (ne_eqb p.head.proto 135 plain)

pub data_passed : (s : AddressMatch) (place : ℕ) (p : Packet) → p.head.proto ≢ 135 → s.is_mine ≡ true → (is_some p.head.route ≡ true → s.takes_route ≡ true) → (is_some p.head.home ≡ true → s.holds ≡ true)
    → checked s place p ≡ Ok None
unfolding checked
data_passed s place p plain mine route home =
    cond-false (not s.is_mine) _ _ (not_from_true _ mine)
    ∙ cond-false (is_some p.head.route && not s.takes_route) _ _ (routed (is_some p.head.route) s.takes_route route)
    ∙ ap (then_home s.holds p.head.home) (plain_message place p plain)
    ∙ homed s.holds p.head.home home
