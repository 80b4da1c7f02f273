-- What a node gives out changes no past of steps. So what it knows behind a transition is what the transition leaves known, and a packet that it
-- refuses leaves its tables.
use Rattle.std.proofs.Common.{◌≡◌, ℕ, zero, suc, List, [], ◌∷◌, true, false, refl, sym, ap, ◌∙◌, subst}
use Rattle.std.specs.Prelude.{Option, Some, None, unwrap_or, slice_get, slice_set, slice_index_or}
use Rattle.std.specs.List.{list_any}
use Rattle.mip_words.specs.declared.address.Address.{Address}
use Rattle.mip_nonce.specs.Secrets.{Life}
use Rattle.mip_outside.specs.declared.claim.Claim.{Claim}
use Rattle.mip_entries.specs.Stamped.{Stamped}
use Rattle.mip_entries.specs.Transitions.{StandsBy}
use Rattle.mip_rules_correspondent.specs.declared.known.Known.{Known}
use Rattle.mip_rules_correspondent.specs.declared.identity.Identity.{Identity}
use Rattle.mip_rules_correspondent.specs.Calls as correspondent_calls
use Rattle.mip_rules_correspondent.specs.Steps as correspondents
use Rattle.mip_rules_correspondent.specs.Questions as correspondent_questions
use Rattle.mip_rules_correspondent.specs.Transitions as correspondent_transitions
use Rattle.mip_rules_correspondent.specs.Refusing as correspondent_refusing
use Rattle.mip_rules_correspondent.proofs.Pasts as correspondent_pasts
use Rattle.mip_rules_correspondent.proofs.Calls as correspondent_stands
use Rattle.mip_rules_correspondent.proofs.Refusals as correspondent_refusals
use Rattle.mip_rules_agent.specs.Known as agent_known
use Rattle.mip_rules_agent.specs.declared.identity.Identity as agent_identity
use Rattle.mip_rules_agent.specs.Calls as agent_calls
use Rattle.mip_rules_agent.specs.Steps as agents
use Rattle.mip_rules_agent.specs.Questions as agent_questions
use Rattle.mip_rules_agent.specs.Transitions as agent_transitions
use Rattle.mip_rules_agent.specs.Refusing as agent_refusing
use Rattle.mip_rules_agent.proofs.Pasts as agent_pasts
use Rattle.mip_rules_agent.proofs.Calls as agent_stands
use Rattle.mip_rules_agent.proofs.Refusals as agent_refusals
use Rattle.mip_rules_mobile.specs.Known as mobile_known
use Rattle.mip_rules_mobile.specs.Calls as mobile_calls
use Rattle.mip_rules_mobile.specs.Steps as mobiles
use Rattle.mip_rules_mobile.specs.Questions as mobile_questions
use Rattle.mip_rules_mobile.specs.Transitions as mobile_transitions
use Rattle.mip_rules_mobile.specs.Refusing as mobile_refusing
use Rattle.mip_rules_mobile.proofs.Calls as mobile_stands
use Rattle.mip_rules_mobile.proofs.Refusals as mobile_refusals
use Rattle.mip_history.specs.Setup.{Setup, Host}
use Rattle.mip_history.specs.Setup.Kind.{Correspondent, Agent, Mobile}
use Rattle.mip_history.specs.Runs.{Run, past_at, agent_past_at, mobile_past_at, with_past, with_agent_past, with_mobile_past}
use Rattle.mip_history.specs.Calls.{Call, Take}
use Rattle.mip_history.specs.Knowing.{link_or_first, now_in, identity_in, known_in, secrets_in, agent_of, agent_known_in, mobile_known_in, stands_on, around_in}
use Rattle.mip_history.specs.Nodes.{answered, by_host}
use Rattle.mip_history.proofs.Effects.{HasPasts, answers_pasts}
use Rattle.mip_history.specs.Refused.{Handed, correspondent_transition, agent_transition, mobile_transition, taken_by, LeavesTables}

-- a node with a place in a list of pasts has the new one there, and one without keeps what it had
at_place : {X : Type 0} (P : List X → Type 0) (pasts : List (List X)) (n : ℕ) (more : List X) → P (slice_index_or pasts n []) → P more → P (slice_index_or (slice_set pasts n more) n [])
at_place P [] n more old new = old
at_place P (past ∷ pasts) zero more old new = new
at_place P (past ∷ pasts) (suc n) more old new = at_place P pasts n more old new

-- what is known of a past stands for it
agent-stands : (serves : List Address) (past : List (Stamped agents.Step)) → agent_transitions.Stands serves past (agent_questions.known serves past)
unfolding agent_questions.known StandsBy
agent-stands serves past = refl

mobile-stands : (home : Address) (declared : Option Address) (numbers : ℕ) (secrets : Life) (past : List (Stamped mobiles.Step)) → mobile_transitions.Stands home declared numbers secrets past (mobile_questions.known home declared numbers secrets past)
unfolding mobile_questions.known StandsBy
mobile-stands home declared numbers secrets past = refl

module _ (s : Setup) (run : Run) (n : ℕ) (h : Handed) where
  abbrev call : Call
  call = Take h.number h.shield h.packet

  correspondent_leaves : (own : Address) (room : ℕ) → slice_get s.hosts n ≡ Some (record { address = own; kind = Correspondent room })
      → list_any correspondent_refusing.is_refusal (correspondent_transition s run n own room h).steps ≡ true
      → (known_in s (taken_by s n h run) n room).cache ≡ (known_in s run n room).cache
  correspondent_leaves own room host refuses =
      subst (λ (o : Option Host). (known_in s (by_host s n call run o) n room).cache ≡ k.cache) (sym host)
      (subst (λ (l : List (List (Stamped correspondents.Step))). (correspondent_questions.known room s.numbers (slice_index_or l n [])).cache ≡ k.cache) (sym pasts.0)
      (at_place (λ (l : List (Stamped correspondents.Step)). (correspondent_questions.known room s.numbers l).cache ≡ k.cache) run.pasts n more refl
      (ap (λ (x : Known). x.cache) knows ∙ correspondent_refusals.refused-keeps me k (now_in s run) taking refl refuses)))
    where
      me : Identity
      me = identity_in s run n own room

      k : Known
      k = known_in s run n room

      taking : correspondent_calls.Call
      taking = correspondent_calls.Take h.number h.shield h.packet

      transition : correspondent_transitions.Transition
      transition = correspondent_transition s run n own room h

      more : List (Stamped correspondents.Step)
      more = correspondent_transitions.with_transition (past_at run n) transition

      pasts : HasPasts (with_past n more run) (answered s n (link_or_first s own.0) (with_past n more run) (correspondents.answers_of transition.steps))
      pasts = answers_pasts s n (link_or_first s own.0) (correspondents.answers_of transition.steps) (with_past n more run)

      knows : correspondent_questions.known room s.numbers more ≡ transition.known
      knows =
          sym (correspondent_pasts.stands-known room s.numbers more transition.known
          (correspondent_stands.call-stands room s.numbers (past_at run n) k (now_in s run) me taking (correspondent_pasts.known-stands room s.numbers (past_at run n) k refl)))

  agent_leaves : (own : Address) (preference life room : ℕ) (serves : List Address) → slice_get s.hosts n ≡ Some (record { address = own; kind = Agent preference life room serves })
      → list_any agent_refusing.is_refusal (agent_transition s run n own preference life room serves h).steps ≡ true
      → agent_refusing.KeepsTables (agent_known_in run n serves) (agent_known_in (taken_by s n h run) n serves)
      × (list_any agent_refusing.is_claim (agent_transition s run n own preference life room serves h).steps ≡ false)
  agent_leaves own preference life room serves host refuses = (
    subst (λ (o : Option Host). agent_refusing.KeepsTables k (agent_known_in (by_host s n call run o) n serves)) (sym host)
        (subst (λ (l : List (List (Stamped agents.Step))). agent_refusing.KeepsTables k (agent_questions.known serves (slice_index_or l n []))) (sym pasts.1)
        (at_place (λ (l : List (Stamped agents.Step)). agent_refusing.KeepsTables k (agent_questions.known serves l)) run.agent_pasts n more
        (record { homes = refl; ends = refl; plan = refl; agents = refl }) (subst (agent_refusing.KeepsTables k) (sym knows) kept))),
    keeps.2,
  )
    where
      me : agent_identity.Identity
      me = agent_of own preference life room

      k : agent_known.Known
      k = agent_known_in run n serves

      claim : Claim
      claim = agent_calls.claim_for (around_in run n None) h.packet

      taking : agent_calls.Call
      taking = agent_calls.Take h.number h.shield h.packet claim

      transition : agent_transitions.Transition
      transition = agent_transition s run n own preference life room serves h

      more : List (Stamped agents.Step)
      more = agent_transitions.with_transition (agent_past_at run n) transition

      pasts : HasPasts (with_agent_past n more run) (answered s n (link_or_first s own.0) (with_agent_past n more run) (agents.answers_of transition.steps))
      pasts = answers_pasts s n (link_or_first s own.0) (agents.answers_of transition.steps) (with_agent_past n more run)

      knows : agent_questions.known serves more ≡ transition.known
      knows = sym (agent_pasts.stands-known serves more transition.known (agent_stands.call-stands serves (agent_past_at run n) k (now_in s run) me taking (agent-stands serves (agent_past_at run n))))

      keeps : (transition.known.homes ≡ k.homes) × (transition.known.ends ≡ k.ends) × (list_any agent_refusing.is_claim transition.steps ≡ false)
      keeps = agent_refusals.refused-keeps me k (now_in s run) h.number h.shield h.packet claim refuses

      kept : agent_refusing.KeepsTables k transition.known
      kept = record {
        homes = keeps.0;
        ends = keeps.1;
        plan = agent_refusals.call-plan me k (now_in s run) taking;
        agents = agent_refusals.call-agents me k (now_in s run) taking;
      }

  mobile_leaves : (own : Address) (agent : Option Address) → slice_get s.hosts n ≡ Some (record { address = own; kind = Mobile agent })
      → list_any mobile_refusing.is_refusal (mobile_transition s run n own agent h).steps ≡ true
      → mobile_refusing.tables_of (mobile_known_in s (taken_by s n h run) n own agent) ≡ mobile_refusing.tables_of (mobile_known_in s run n own agent)
  mobile_leaves own agent host refuses =
      subst (λ (o : Option Host). mobile_refusing.tables_of (mobile_known_in s (by_host s n call run o) n own agent) ≡ mobile_refusing.tables_of k) (sym host)
      (subst (λ (l : List (List (Stamped mobiles.Step))). mobile_refusing.tables_of (known (slice_index_or l n [])) ≡ mobile_refusing.tables_of k) (sym pasts.2)
      (at_place (λ (l : List (Stamped mobiles.Step)). mobile_refusing.tables_of (known l) ≡ mobile_refusing.tables_of k) run.mobile_pasts n more refl
      (ap (λ (x : mobile_known.Known). mobile_refusing.tables_of x) knows ∙ mobile_refusals.refused-keeps k (now_in s run) h.number h.shield h.packet refuses)))
    where
      known : List (Stamped mobiles.Step) → mobile_known.Known
      known past = mobile_questions.known own agent s.numbers (secrets_in s n 0) past

      k : mobile_known.Known
      k = mobile_known_in s run n own agent

      transition : mobile_transitions.Transition
      transition = mobile_transition s run n own agent h

      more : List (Stamped mobiles.Step)
      more = mobile_transitions.with_transition (mobile_past_at run n) transition

      pasts : HasPasts (with_mobile_past n more run) (answered s n (unwrap_or (stands_on s run n own) 0) (with_mobile_past n more run) (mobiles.answers_of transition.steps))
      pasts = answers_pasts s n (unwrap_or (stands_on s run n own) 0) (mobiles.answers_of transition.steps) (with_mobile_past n more run)

      knows : known more ≡ transition.known
      knows =
          sym (mobile_stands.stands-known own agent s.numbers (secrets_in s n 0) more transition.known
          (mobile_stands.call-stands own agent s.numbers (secrets_in s n 0) (mobile_past_at run n) k (now_in s run) (mobile_calls.Take h.number h.shield h.packet)
          (mobile-stands own agent s.numbers (secrets_in s n 0) (mobile_past_at run n))))

pub leaves_tables : (s : Setup) (run : Run) (n : ℕ) → LeavesTables s run n
leaves_tables s run n = record {
  correspondent = λ own room h host refuses. correspondent_leaves s run n h own room host refuses;
  agent = λ own preference life room serves h host refuses. agent_leaves s run n h own preference life room serves host refuses;
  mobile = λ own agent h host refuses. mobile_leaves s run n h own agent host refuses;
}
