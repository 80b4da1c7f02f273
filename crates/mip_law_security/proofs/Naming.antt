-- A mobile takes no packet that names a home address, but for an update, whose binding it does not hold.
use Rattle.std.proofs.Common.{◌≡◌, ℕ, List, [], ◌∷◌, Bool, true, false, ◌⊎◌, inl, inr, refl, sym, ap, ◌∙◌, subst}
use Rattle.std.specs.Prelude.{Option, Some, None, not, ◌==◌, ◌&&◌, ◌||◌, is_some, is_none, if◌then◌else◌, Result, Ok, Err}
use Rattle.std.specs.List.{list_any}
use Rattle.std.proofs.lemmas.Bool.{eq-eqb}
use Rattle.std.proofs.lemmas.List.Folds.{list_any-append}
use Rattle.mip_words.specs.Protocols.{ipv6, mobility_header}
use Rattle.mip_words.specs.declared.address.Address.{Address}
use Rattle.mip_words.specs.declared.shield.Shield.{Shield}
use Rattle.mip_words.specs.declared.why.Why.{Why}
use Rattle.mip_words.specs.declared.why.Why.TheVariants as whys
use Rattle.mip_ipv6.specs.declared.not_packet.NotPacket.{NotPacket}
use Rattle.mip_ipv6.specs.declared.exit_fault.ExitFault.{ExitFault}
use Rattle.mip_ipv6.specs.declared.exit_fault.ExitFault.TheVariants.{NotTunnel, WrongEntry, Inner}
use Rattle.mip_ipv6.specs.Packet.{Packet}
use Rattle.mip_ipv6.specs.Reading.{packet_of}
use Rattle.mip_ipv6.specs.Tunnel.{opened}
use Rattle.mip_mobhdr.specs.Said.{Said}
use Rattle.mip_mobhdr.specs.Said.Said.{Update}
use Rattle.mip_entries.proofs.TransitionLaws.{noted-now, noted-known, noted-steps}
use Rattle.mip_reception.specs.declared.refusal.Refusal.{Refusal}
use Rattle.mip_reception.specs.declared.address_match.AddressMatch.{AddressMatch}
use Rattle.mip_reception.specs.Words.{packet_why}
use Rattle.mip_reception.specs.Checks.{checked, is_update}
use Rattle.mip_reception.proofs.Passings.{update_alone}
use Rattle.mip_rules_correspondent.specs.Questions.{holds_for}
use Rattle.mip_rules_correspondent.specs.Rules.{holds_option, place_in}
use Rattle.mip_rules_mobile.specs.Calls as calls
use Rattle.mip_rules_mobile.specs.Calls.{Call}
use Rattle.mip_rules_mobile.specs.Steps.{Step, Called, Drops}
use Rattle.mip_rules_mobile.specs.Known.{Known}
use Rattle.mip_rules_mobile.specs.HomeQuestions.{home_of, agent_of}
use Rattle.mip_rules_mobile.specs.Questions.{after}
use Rattle.mip_rules_mobile.specs.Transitions.{Transition, begun, noted}
use Rattle.mip_rules_mobile.specs.ReceivingRules.{by_role, refuses, after_inner_checks, inner_standing, takes_inner, opens_with, opens_from, opens, after_checks, standing_of, receives, takes}
use Rattle.mip_rules_mobile.specs.Doing.{does, transition_of}
use Rattle.mip_rules_mobile.specs.Refusing.{is_refusal}
use Rattle.mip_rules_mobile.specs.TakenLaws.{AreRefusingUnless}
use Rattle.mip_rules_mobile.proofs.Checks.{checked-in, opened-reads}
use Rattle.mip_rules_mobile.proofs.OutWalks.{every-replies}
use Rattle.mip_rules_mobile.proofs.Taken.{HasRefused}
use Rattle.mip_law_security.specs.Naming.{SaysNoUpdate}

-- something was refused, and stays so
or_last : (b : Bool) → (b || true) ≡ true
or_last true = refl
or_last false = refl

refused_noted : (step : Step) (t : Transition) → HasRefused t → HasRefused (noted step t)
refused_noted step t refused =
    ap (list_any is_refusal) (noted-steps after step t) ∙ list_any-append is_refusal t.steps (step ∷ []) ∙ ap (λ (b : Bool). b || (is_refusal step || false)) refused

dropped : (number : ℕ) (why : Why) (t : Transition) → HasRefused (noted (Drops number why) t)
dropped number why t =
    ap (list_any is_refusal) (noted-steps after (Drops number why) t) ∙ list_any-append is_refusal t.steps (Drops number why ∷ []) ∙ or_last (list_any is_refusal t.steps)

answered : (number : ℕ) (bytes : List ℕ) (source : Address) (refusal : Refusal) (t : Transition) → HasRefused (refuses number bytes source refusal t)
unfolding refuses
answered number bytes source refusal t =
    every-replies calls.Tick HasRefused (λ step u steady fits refused. refused_noted step u refused) source bytes refusal.reply (noted (Drops number refusal.why) t) (dropped number refusal.why t)

-- what passes with such an option, and is no update, passes because the binding is held
passes_held : (standing : AddressMatch) (place : ℕ) (p : Packet) (message : Option Said) (home : Address) → checked standing place p ≡ Ok message → p.head.home ≡ Some home → SaysNoUpdate p → standing.holds ≡ true
passes_held standing place p message home is option none = by standing.holds refl
  where
    never : (m : Option Said) → checked standing place p ≡ Ok m → is_update m ≡ true → ⊥
    never None is e = absurd cc
    never (Some (Update s a h l k t o)) is e = none s a h l k t o (checked-in standing place p (Some (Update s a h l k t o)) is)
    never (Some _) is e = absurd cc

    by : (held : Bool) → standing.holds ≡ held → held ≡ true
    by true e = refl
    by false e = absurd (never message is (update_alone standing place p message home is option e))

module _ (t : Transition) (number : ℕ) (shield : Option Shield) (bytes : List ℕ) (p : Packet) (home : Address) (option : p.head.home ≡ Some home) (none : SaysNoUpdate p) where
  abbrev Held : Type 0
  Held = holds_for t.known.part.known t.now home p.head.source ≡ true

  held_is : holds_option t.known.part.known t.now p.head.source p.head.home ≡ true → Held
  held_is is = ap (λ (o : Option Address). holds_option t.known.part.known t.now p.head.source o) (sym option) ∙ is

  -- the packet that is handed over
  straight : packet_of bytes ≡ Ok p → HasRefused (takes number shield bytes t) ⊎ Held
  unfolding takes
  straight read =
      subst (λ (r : Result Packet NotPacket). HasRefused (receives number shield bytes r t) ⊎ Held) (sym read)
      (by (checked (standing_of t.known t.now p.head) (place_in bytes p) p) refl)
    where
      by : (r : Result (Option Said) Refusal) → checked (standing_of t.known t.now p.head) (place_in bytes p) p ≡ r → HasRefused (after_checks number shield bytes p r t) ⊎ Held
      by (Err refusal) is = inl (answered number bytes p.head.source refusal t)
      by (Ok message) is = inr (held_is (passes_held (standing_of t.known t.now p.head) (place_in bytes p) p message home is option none))

  -- the packet within a tunnel
  module _ (outer : Packet) (inside : packet_of outer.body ≡ Ok p) where
    checked_inside : HasRefused (takes_inner number shield outer.body p t) ⊎ Held
    unfolding takes_inner
    checked_inside =
        by (p.head.proto == ipv6) (not (p.head.destination.0 == (home_of t.known).0)) (is_some p.head.route) ((p.head.proto == mobility_header) && is_none shield)
        (checked (inner_standing t.known t.now p.head) (place_in outer.body p) p) refl
      where
        by : (nested other routed bare : Bool) (r : Result (Option Said) Refusal) → checked (inner_standing t.known t.now p.head) (place_in outer.body p) p ≡ r
            → HasRefused (let u : Transition = (if nested then noted (Drops number whys.Nested) t else if other then noted (Drops number whys.Address) t else if routed then noted (Drops number whys.Route) t
            else if bare then noted (Drops number whys.Unshielded) t else after_inner_checks number shield outer.body p r t) in u) ⊎ Held
        by true other routed bare r is = inl (dropped number whys.Nested t)
        by false true routed bare r is = inl (dropped number whys.Address t)
        by false false true bare r is = inl (dropped number whys.Route t)
        by false false false true r is = inl (dropped number whys.Unshielded t)
        by false false false false (Err refusal) is = inl (answered number outer.body p.head.source refusal t)
        by false false false false (Ok message) is = inr (held_is (passes_held (inner_standing t.known t.now p.head) (place_in outer.body p) p message home is option none))

    opened_to : (agent : Address) (r : Result Packet ExitFault) → opened agent outer ≡ r → HasRefused (opens_with number shield outer.body r t) ⊎ Held
    opened_to agent (Ok q) is =
        let same : p ≡ q = (let both = sym inside ∙ opened-reads agent outer q is in cc) in
        subst (λ (x : Packet). HasRefused (takes_inner number shield outer.body x t) ⊎ Held) same checked_inside
    opened_to agent (Err NotTunnel) is = inl (dropped number whys.Entry t)
    opened_to agent (Err (WrongEntry seen)) is = inl (dropped number whys.Entry t)
    opened_to agent (Err (Inner fault)) is = inl (dropped number (packet_why fault) t)

    opened_from : (agent : Option Address) → HasRefused (opens_from agent number shield outer t) ⊎ Held
    opened_from None = inl (dropped number whys.Entry t)
    opened_from (Some agent) = opened_to agent (opened agent outer) refl

    within : packet_of bytes ≡ Ok outer → outer.head.proto ≡ 41 → HasRefused (takes number shield bytes t) ⊎ Held
    unfolding takes opens
    within read tunnel =
        subst (λ (r : Result Packet NotPacket). HasRefused (receives number shield bytes r t) ⊎ Held) (sym read)
        (by (checked (standing_of t.known t.now outer.head) (place_in bytes outer) outer))
      where
        by : (r : Result (Option Said) Refusal) → HasRefused (after_checks number shield bytes outer r t) ⊎ Held
        by (Err refusal) = inl (answered number bytes outer.head.source refusal t)
        by (Ok message) =
            subst (λ (b : Bool). HasRefused (let u : Transition = (if b then opens number shield outer t else by_role number false shield outer message t) in u) ⊎ Held)
            (sym (eq-eqb outer.head.proto 41 tunnel)) (opened_from (agent_of t.known t.now))

module _ (k : Known) (now number : ℕ) (shield : Option Shield) (bytes : List ℕ) (p : Packet) (home : Address) (option : p.head.home ≡ Some home) (none : SaysNoUpdate p) where
  abbrev c : Call
  c = calls.Take number shield bytes

  abbrev t : Transition
  t = noted (Called c) (begun now k)

  abbrev HeldBy : Known → ℕ → Type 0
  HeldBy l n = holds_for l.part.known n home p.head.source ≡ true

  before : HasRefused (takes number shield bytes t) ⊎ HeldBy t.known t.now → HasRefused (takes number shield bytes t) ⊎ HeldBy k now
  unfolding after
  before held =
      subst (λ (l : Known). HasRefused (takes number shield bytes t) ⊎ HeldBy l now) (noted-known after (Called c) (begun now k))
      (subst (λ (n : ℕ). HasRefused (takes number shield bytes t) ⊎ HeldBy t.known n) (noted-now after (Called c) (begun now k)) held)

  pub straight_held : packet_of bytes ≡ Ok p → AreRefusingUnless (transition_of k now c).steps (holds_for k.part.known now home p.head.source ≡ true)
  unfolding does
  straight_held read = before (straight t number shield bytes p home option none read)

  pub within_held : (outer : Packet) → packet_of bytes ≡ Ok outer → outer.head.proto ≡ 41 → packet_of outer.body ≡ Ok p
      → AreRefusingUnless (transition_of k now c).steps (holds_for k.part.known now home p.head.source ≡ true)
  unfolding does
  within_held outer read tunnel inside = before (within t number shield bytes p home option none outer inside read tunnel)
