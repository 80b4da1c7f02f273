-- What a node's answers keep, and what its past becomes, a call of the node keeps.
use Rattle.std.proofs.Common.{◌≡◌, ℕ, List, [], length, true, false, refl, sym, ap, ◌∙◌, subst, arith}
use Rattle.std.specs.Prelude.{Option, Some, None, unwrap_or, slice_get, slice_set, slice_index_or}
use Rattle.std.proofs.lemmas.List.{get_or-set_same}
use Rattle.std.proofs.lemmas.Option.{slice_get_within}
use Rattle.mip_outside.specs.Places.{claim_in}
use Rattle.mip_nonce.specs.Secrets.{Life}
use Rattle.mip_words.specs.declared.address.Address.{Address}
use Rattle.mip_entries.specs.declared.answer.Answer.{Answer}
use Rattle.mip_entries.specs.declared.entry.Entry.TheVariants as entries
use Rattle.mip_entries.specs.Stamped.{Stamped}
use Rattle.mip_rules_correspondent.specs.Calls as correspondent_calls
use Rattle.mip_rules_correspondent.specs.Transitions as correspondent_transitions
use Rattle.mip_rules_correspondent.specs.Steps as correspondents
use Rattle.mip_rules_correspondent.specs.Doing as correspondent_doing
use Rattle.mip_rules_agent.specs.Calls as agent_calls
use Rattle.mip_rules_agent.specs.Transitions as agent_transitions
use Rattle.mip_rules_agent.specs.Steps as agents
use Rattle.mip_rules_agent.specs.Doing as agent_doing
use Rattle.mip_rules_mobile.specs.Calls as mobile_calls
use Rattle.mip_rules_mobile.specs.Transitions as mobile_transitions
use Rattle.mip_rules_mobile.specs.Steps as mobiles
use Rattle.mip_rules_mobile.specs.Doing as mobile_doing
use Rattle.mip_rules_mobile.specs.MovingRules.{address_under}
use Rattle.mip_rules_mobile.specs.Answering.{stays_put}
use Rattle.mip_rules_mobile.specs.PartLaws.{is_restart}
use Rattle.mip_history.specs.Setup.{Setup, Host, Kind}
use Rattle.mip_history.specs.Setup.Kind.{Correspondent, Agent, Mobile}
use Rattle.mip_history.specs.Runs.{Run, note, past_at, agent_past_at, mobile_past_at, with_past, with_agent_past, with_mobile_past}
use Rattle.mip_history.specs.Calls.{Call, Take, Send, Refresh, Tick, Plan, Hear, Attach, Leave, Ask, Restart, for_correspondent, for_agent, for_mobile}
use Rattle.mip_history.proofs.Effects.{answers_pasts}
use Rattle.mip_history.specs.Knowing.{link_or_first, now_in, identity_in, known_in, agent_of, agent_known_in, mobile_known_in, stands_on, around_in}
use Rattle.mip_history.specs.Nodes.{answered, after_transition, after_agent_transition, after_mobile_transition, asks, by_kind, by_host, acts}

module _ (s : Setup) (n : ℕ) (P : Run → Type 0) (nothing : (run : Run) → P run → P (note entries.Idle run))
    (answers : (from : ℕ) (list : List Answer) (run : Run) → P run → P (answered s n from run list)) (run : Run) (p : P run)
    (of_correspondent : (past : List (Stamped correspondents.Step)) → P (with_past n past run)) (of_agent : (past : List (Stamped agents.Step)) → P (with_agent_past n past run))
    (of_mobile : (past : List (Stamped mobiles.Step)) → P (with_mobile_past n past run)) where
  asked_kept : {C : Type 0} (does : C → Run → Run) (call : Option C) → ((c : C) → P (does c run)) → P (asks does call run)
  asked_kept does None go = nothing run p
  asked_kept does (Some call) go = go call

  kind_kept : (own : Address) (call : Call) (kind : Kind) → P (by_kind s n own call run kind)
  kind_kept own call (Correspondent room) =
      asked_kept (λ c x. after_transition s n own (correspondent_doing.transition_of (identity_in s x n own room) (known_in s x n room) (now_in s x) c) x) (for_correspondent call) (λ (c : correspondent_calls.Call).
      let t : correspondent_transitions.Transition = correspondent_doing.transition_of (identity_in s run n own room) (known_in s run n room) (now_in s run) c in
      let past : List (Stamped correspondents.Step) = correspondent_transitions.with_transition (past_at run n) t in
      answers (link_or_first s own.0) (correspondents.answers_of t.steps) (with_past n past run) (of_correspondent past))
  kind_kept own call (Agent preference life room serves) =
      asked_kept (λ c x. after_agent_transition s n own (agent_doing.transition_of (agent_of own preference life room) (agent_known_in x n serves) (now_in s x) c) x) (for_agent (around_in run n None) call) (λ (c : agent_calls.Call).
      let t : agent_transitions.Transition = agent_doing.transition_of (agent_of own preference life room) (agent_known_in run n serves) (now_in s run) c in
      let past : List (Stamped agents.Step) = agent_transitions.with_transition (agent_past_at run n) t in
      answers (link_or_first s own.0) (agents.answers_of t.steps) (with_agent_past n past run) (of_agent past))
  kind_kept own call (Mobile agent) =
      asked_kept (λ c x. after_mobile_transition s n own (mobile_doing.transition_of (mobile_known_in s x n own agent) (now_in s x) c) x) (for_mobile (around_in run n (Some own.0)) own call) (λ (c : mobile_calls.Call).
      let t : mobile_transitions.Transition = mobile_doing.transition_of (mobile_known_in s run n own agent) (now_in s run) c in
      let past : List (Stamped mobiles.Step) = mobile_transitions.with_transition (mobile_past_at run n) t in
      answers (unwrap_or (stands_on s run n own) 0) (mobiles.answers_of t.steps) (with_mobile_past n past run) (of_mobile past))

  pub acts_kept : (call : Call) → P (acts s n call run)
  acts_kept call = by (slice_get s.hosts n)
    where
      by : (o : Option Host) → P (by_host s n call run o)
      by None = nothing run p
      by (Some host) = kind_kept host.address call host.kind

-- a mobile is called
module _ (s : Setup) (m : ℕ) (own : Address) (agent : Option Address) (host : slice_get s.hosts m ≡ Some (record { address = own; kind = Mobile agent })) (run : Run) where
  abbrev pub own_transition : mobile_calls.Call → mobile_transitions.Transition
  own_transition c = mobile_doing.transition_of (mobile_known_in s run m own agent) (now_in s run) c

  abbrev pub behind : mobile_calls.Call → Run
  behind c = after_mobile_transition s m own (own_transition c) run

  abbrev pub past_with : mobile_calls.Call → List (Stamped mobiles.Step)
  past_with c = mobile_transitions.with_transition (mobile_past_at run m) (own_transition c)

  -- its past goes on by the transition, the others' stand
  pub own_past : length run.mobile_pasts ≡ length s.hosts → (c : mobile_calls.Call) → ((behind c).mobile_pasts ≡ slice_set run.mobile_pasts m (past_with c)) × (mobile_past_at (behind c) m ≡ past_with c)
  own_past long c =
      let pasts : (behind c).mobile_pasts ≡ slice_set run.mobile_pasts m (past_with c) =
      (answers_pasts s m (unwrap_or (stands_on s run m own) 0) (mobiles.answers_of (own_transition c).steps) (with_mobile_past m (past_with c) run)).2 in
      let inside = slice_get_within s.hosts m (record { address = own; kind = Mobile agent }) host in
      (pasts, ap (λ (l : List (List (Stamped mobiles.Step))). slice_index_or l m []) pasts ∙ get_or-set_same run.mobile_pasts m (past_with c) [] (omega (arith, long, inside)))

  -- what it is asked beside coming to a link and leaving one, with what its place answers, and what is nothing to it
  module _ (Q : Run → Type 0) (idle : Q (note entries.Idle run)) (staying : (c : mobile_calls.Call) → stays_put c ≡ true → is_restart c ≡ false → Q (behind c)) (restarting : (secrets : Life) → Q (behind (mobile_calls.Restart secrets)))
      (leaving : Q (behind (mobile_calls.Leave (claim_in (around_in run m (Some own.0)) own.0))))
      (attaching : (prefix : ℕ) → Q (behind (mobile_calls.Attach prefix (claim_in (around_in run m (Some own.0)) own.0) (claim_in (around_in run m (Some own.0)) (address_under own prefix).0)))) where
    own_kind : (call : Call) → Q (by_kind s m own call run (Mobile agent))
    own_kind (Take number shield packet) = staying (mobile_calls.Take number shield packet) refl refl
    own_kind (Send to proto payload) = staying (mobile_calls.Send to proto payload) refl refl
    own_kind (Refresh to) = staying (mobile_calls.Refresh to) refl refl
    own_kind Tick = staying mobile_calls.Tick refl refl
    own_kind Ask = staying mobile_calls.Ask refl refl
    own_kind (Restart secrets) = restarting secrets
    own_kind Leave = leaving
    own_kind (Attach prefix) = attaching prefix
    own_kind (Plan valid preferred) = idle
    own_kind (Hear other preference life) = idle

    pub own_acts : (call : Call) → Q (acts s m call run)
    own_acts call = subst (λ (o : Option Host). Q (by_host s m call run o)) (sym host) (own_kind call)
