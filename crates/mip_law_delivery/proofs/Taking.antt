-- What a node does with data that it is handed: it hands it up.
use Rattle.std.proofs.Common.{◌≡◌, ℕ, List, [], ◌∷◌, ◌++◌, Bool, true, false, refl, sym, ap, ◌∙◌, subst}
use Rattle.std.specs.Prelude.{not, ◌&&◌, ◌==◌, Option}
use Rattle.std.proofs.lemmas.Bool.{eq-eqb}
use Rattle.mip_words.specs.declared.shield.Shield.{Shield}
use Rattle.mip_ipv6.specs.Packet.{Packet, source_of}
use Rattle.mip_entries.specs.declared.answer.Answer.{Answer}
use Rattle.mip_entries.specs.Transitions.{noted_by}
use Rattle.mip_entries.proofs.ShowLaws.{answers-noted}
use Rattle.mip_rules_correspondent.specs.declared.identity.Identity.{Identity}
use Rattle.mip_rules_correspondent.specs.declared.known.Known as parts
use Rattle.mip_rules_correspondent.specs.Calls as part_calls
use Rattle.mip_rules_correspondent.specs.Steps as part_steps
use Rattle.mip_rules_correspondent.specs.Questions.{after as part_after}
use Rattle.mip_rules_correspondent.specs.Rules.{is_data, hands_up, by_role as part_by_role}
use Rattle.mip_rules_correspondent.specs.Doing as part_doing
use Rattle.mip_rules_correspondent.specs.Doing.{does as part_does, takes as part_takes, parts as part_parts}
use Rattle.mip_rules_mobile.specs.Known.{Known}
use Rattle.mip_rules_mobile.specs.Calls.{Take}
use Rattle.mip_rules_mobile.specs.Steps.{Step, answer_of, answers_of}
use Rattle.mip_rules_mobile.specs.HomeQuestions.{home_of}
use Rattle.mip_rules_mobile.specs.Questions.{after}
use Rattle.mip_rules_mobile.specs.Transitions.{Transition, begun, noted}
use Rattle.mip_rules_mobile.specs.OutRules.{passes_all, asks_part}
use Rattle.mip_rules_mobile.specs.PeerRules.{meets}
use Rattle.mip_rules_mobile.specs.ReceivingRules.{takes_for_part, by_role, takes_inner, opens, takes}
use Rattle.mip_rules_mobile.specs.Steps.{Called}
use Rattle.mip_rules_mobile.specs.Doing.{does, transition_of}
use Rattle.mip_rules_mobile.proofs.PeerWalks.{every-meets}
use Rattle.mip_law_delivery.specs.Legs.{up, BeginsWith, IsDataHere, IsDataStraight, IsDataTunnelled}

-- what data is not
pub record NoOther (proto : ℕ) : Type 0 where
  pub tunnel : (proto == 41) ≡ false
  pub icmp : (proto == 58) ≡ false
  pub nothing : (proto == 59) ≡ false
  pub message : (proto == 135) ≡ false

pub no_other : (proto : ℕ) → is_data proto ≡ true → NoOther proto
no_other proto is = by (proto == 41) (proto == 58) (proto == 59) (proto == 135) refl refl refl refl is
  where
    by : (a b c d : Bool) → (proto == 41) ≡ a → (proto == 58) ≡ b → (proto == 59) ≡ c → (proto == 135) ≡ d → (not a && not b && not c && not d) ≡ true → NoOther proto
    by true b c d p q r s e = absurd cc
    by false true c d p q r s e = absurd cc
    by false false true d p q r s e = absurd cc
    by false false false true p q r s e = absurd cc
    by false false false false p q r s e = record { tunnel = p; icmp = q; nothing = r; message = s }

pub taken_by_correspondent : (me : Identity) (k : parts.Known) (now number : ℕ) (shield : Option Shield) (bytes : List ℕ) (p : Packet) → IsDataHere me k now bytes p
    → part_steps.answers_of (part_doing.transition_of me k now (part_calls.Take number shield bytes)).steps ≡ up number p ∷ []
unfolding part_does part_takes part_by_role hands_up noted_by part_after
taken_by_correspondent me k now number shield bytes p is =
    let other = no_other p.head.proto is.plain in
    rw (is.read, is.passes, other.tunnel, other.icmp, other.nothing, other.message) refl

module _ (k : Known) (now number : ℕ) (shield : Option Shield) (bytes : List ℕ) where
  pub taken_straight : (p : Packet) → IsDataStraight k now bytes p → answers_of (transition_of k now (Take number shield bytes)).steps ≡ up number p ∷ []
  unfolding does takes by_role takes_for_part asks_part passes_all noted_by after part_does part_parts hands_up part_after
  taken_straight p is =
      let other = no_other p.head.proto is.plain in
      rw (is.read, is.passes, other.tunnel, other.icmp, other.nothing, other.message) refl

  -- its correspondent part has handed it up
  abbrev after_part : Packet → Transition
  after_part p = asks_part (part_calls.Part number p) (noted (Called (Take number shield bytes)) (begun now k))

  up_first : (p : Packet) → NoOther p.head.proto → answers_of (after_part p).steps ≡ up number p ∷ []
  unfolding asks_part passes_all noted_by after part_does part_parts hands_up part_after
  up_first p other = rw (other.message) refl

  -- then its peer is met
  met_then : (outer p : Packet) → IsDataTunnelled k now bytes outer p → transition_of k now (Take number shield bytes) ≡ meets (source_of p.head) (after_part p)
  unfolding does takes opens takes_inner by_role takes_for_part noted_by after
  met_then outer p is =
      let other = no_other p.head.proto is.plain in
      rw (is.read, is.passes, eq-eqb outer.head.proto 41 is.tunnel, is.is_agent, is.inside, other.tunnel, eq-eqb p.head.destination.0 (home_of k).0 is.home, is.straight, other.message, is.inner_passes, other.tunnel, other.icmp, other.nothing, other.message)
      refl

  begins_noted : (first : Answer) (step : Step) (t : Transition) → BeginsWith first (answers_of t.steps) → BeginsWith first (answers_of (noted step t).steps)
  begins_noted first step t so =
      record { rest = so.rest ++ answer_of step; is = answers-noted answer_of after step t ∙ ap (λ (l : List Answer). l ++ answer_of step) so.is }

  pub taken_tunnelled : (outer p : Packet) → IsDataTunnelled k now bytes outer p → BeginsWith (up number p) (answers_of (transition_of k now (Take number shield bytes)).steps)
  taken_tunnelled outer p is =
      subst (λ (t : Transition). BeginsWith (up number p) (answers_of t.steps)) (sym (met_then outer p is))
      (every-meets (Take number shield bytes) (λ (t : Transition). BeginsWith (up number p) (answers_of t.steps)) (λ step t steady fits so. begins_noted (up number p) step t so) (source_of p.head) (after_part p)
      (record { rest = []; is = up_first p (no_other p.head.proto is.plain) }))
