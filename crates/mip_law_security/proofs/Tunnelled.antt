-- An update within a tunnel is accepted only of the mobile's agent.
use Rattle.std.proofs.Common.{◌≡◌, ℕ, ◌<◌, List, [], ◌∷◌, Bool, true, false, inl, inr, refl, sym, ap, ◌∙◌, subst, arith}
use Rattle.std.specs.Prelude.{Option, Some, None, Ok, ◌||◌, is_some, nat_lt, option_map, if◌then◌else◌}
use Rattle.std.specs.Option.{option_or}
use Rattle.std.specs.List.{list_any}
use Rattle.std.proofs.lemmas.Bool.Decides.{nat_tests}
use Rattle.mip_words.specs.declared.address.Address.{Address}
use Rattle.mip_words.specs.declared.shield.Shield.{Shield}
use Rattle.mip_ipv6.specs.Packet.{Packet}
use Rattle.mip_ipv6.specs.Reading.{packet_of}
use Rattle.mip_entries.specs.declared.entry.Entry.{Entry}
use Rattle.mip_entries.specs.declared.entry.Entry.TheVariants as entries
use Rattle.mip_rules_mobile.specs.declared.registered.Registered.{Registered}
use Rattle.mip_rules_mobile.specs.Calls.{Call, Take}
use Rattle.mip_rules_mobile.specs.Known.{Known}
use Rattle.mip_rules_mobile.specs.HomeQuestions.{standing_registration, agent_of}
use Rattle.mip_rules_mobile.specs.Steps.{Step, Notes}
use Rattle.mip_rules_mobile.specs.Doing.{transition_of}
use Rattle.mip_rules_mobile.specs.Coming.{Came}
use Rattle.mip_rules_mobile.specs.PartLaws.{concerns_part, IsPartTaken, IsPartTransition, Silent, Asked, Accepting}
use Rattle.mip_rules_mobile.specs.TakenLaws.{IsAgent}
use Rattle.mip_rules_mobile.proofs.Checks.{opened-reads}
use Rattle.mip_rules_mobile.proofs.Trusts.{opened-source}
use Rattle.mip_rules_mobile.proofs.PartTransitions.{call-part}
use Rattle.mip_law_security.specs.Tunnelled.{IsOfAgent}

-- the agent of tunnels
agent_is : (k : Known) (now : ℕ) (agent : Address) → agent_of k now ≡ Some agent → IsAgent k.registered k.agent now agent
agent_is k now agent = by k.registered
  where
    ahead : (r : Registered) (b : Bool) → nat_lt now r.end.0 ≡ b → option_or (option_map (λ (x : Registered). x.agent) (if b then Some r else None)) k.agent ≡ Some agent → IsAgent (Some r) k.agent now agent
    ahead r true is e = let before : now < r.end.0 = grind (arith, nat_tests) in let same : r.agent ≡ agent = cc in inl (r, refl, before, same)
    ahead r false is e = inr e

    by : (o : Option Registered) → option_or (option_map (λ (x : Registered). x.agent) (standing_registration now o)) k.agent ≡ Some agent → IsAgent o k.agent now agent
    by None e = inr e
    by (Some r) e = ahead r (nat_lt now r.end.0) refl e

abbrev pub is_accepted : Entry → Bool
is_accepted (entries.Accepted node number home binding careof sequence end i j) = true
is_accepted _ = false

-- a step of a mobile tells that it accepted an update
abbrev pub accepts : Step → Bool
accepts (Notes entry) = is_accepted entry
accepts _ = false

-- what concerns no part tells of no acceptance
calm_step : (step : Step) → concerns_part step ≡ false → accepts step ≡ false
calm_step (Notes (entries.Accepted node number home binding careof sequence end i j)) none = absurd cc
calm_step (Notes _) none = refl
calm_step _ none = refl

pub calm : (steps : List Step) → list_any concerns_part steps ≡ false → list_any accepts steps ≡ false
calm [] none = refl
calm (step ∷ steps) none = by (concerns_part step) (list_any concerns_part steps) refl refl none (calm_step step) (calm steps)
  where
    by : (a b : Bool) → concerns_part step ≡ a → list_any concerns_part steps ≡ b → (a || b) ≡ false
        → (concerns_part step ≡ false → accepts step ≡ false) → (list_any concerns_part steps ≡ false → list_any accepts steps ≡ false) → (accepts step || list_any accepts steps) ≡ false
    by false false x y none one rest = ap (λ (c : Bool). c || list_any accepts steps) (one x) ∙ rest y
    by false true x y none one rest = absurd cc
    by true b x y none one rest = absurd cc

module _ (k : Known) (now number : ℕ) (shield : Option Shield) (bytes : List ℕ) (outer : Packet) (read : packet_of bytes ≡ Ok outer) (tunnel : outer.head.proto ≡ 41) where
  abbrev c : Call
  c = Take number shield bytes

  abbrev steps : List Step
  steps = (transition_of k now (Take number shield bytes)).steps

  two : (a b : Bool) → a ≡ true → a ≡ b → b ≡ false → ⊥
  two a b x y z = absurd (let both : true ≡ false = sym x ∙ y ∙ z in cc)

  abbrev shield_in : Call → Option Shield
  shield_in (Take x s b) = s
  shield_in _ = shield

  abbrev bytes_in : Call → List ℕ
  bytes_in (Take x s b) = b
  bytes_in _ = bytes

  of_taken : IsPartTaken k now (Take number shield bytes) (transition_of k now (Take number shield bytes)).steps → IsOfAgent k now shield outer
  of_taken x = by x.tunnelled x.came
    where
      same_shield : shield ≡ x.shield
      same_shield = ap shield_in x.call

      same_bytes : bytes ≡ x.bytes
      same_bytes = ap bytes_in x.call

      read_of : packet_of x.bytes ≡ Ok outer
      read_of = ap packet_of (sym same_bytes) ∙ read

      by : (tunnelled : Bool) → Came k now tunnelled x.shield x.bytes x.packet → IsOfAgent k now shield outer
      by false came =
          absurd (let same : x.packet ≡ outer = (let both = sym came ∙ read_of in cc) in
          let proto : x.packet.head.proto ≡ 41 = ap (λ (p : Packet). p.head.proto) same ∙ tunnel in
          omega (arith, proto, x.taken.mobility))
      by true came =
          let same : came.outer ≡ outer = (let both = sym came.read ∙ read_of in cc) in
          record {
            agent = came.agent;
            of = agent_is k now came.agent came.of;
            from = subst (λ (p : Packet). p.head.source.0 ≡ came.agent.0) same (opened-source came.agent came.outer x.packet came.opens);
            shielded = ap is_some same_shield ∙ came.shielded x.taken.mobility;
            packet = x.packet;
            inside = subst (λ (p : Packet). packet_of p.body ≡ Ok x.packet) same (opened-reads came.agent came.outer x.packet came.opens);
            mobility = x.taken.mobility;
          }

  pub accepted_of_agent : list_any accepts (transition_of k now (Take number shield bytes)).steps ≡ true → IsOfAgent k now shield outer
  accepted_of_agent told = by (call-part k now (Take number shield bytes) refl)
    where
      by : IsPartTransition k now (Take number shield bytes) (transition_of k now (Take number shield bytes)).steps → IsOfAgent k now shield outer
      by (Silent none) = absurd (let both : true ≡ false = sym told ∙ calm steps none in cc)
      by (Asked call rest are none quiet) = absurd (let both : true ≡ false = sym told ∙ ap (list_any accepts) are ∙ calm rest none in cc)
      by (Accepting x) = of_taken x
