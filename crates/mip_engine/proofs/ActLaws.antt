-- What a node of each kind does about a call.
use Rattle.std.proofs.Common.{◌≡◌, ℕ, List, [], sym, ap, ◌∙◌, subst, arith}
use Rattle.std.proofs.lemmas.List.{get_or-set_same}
use Rattle.std.proofs.lemmas.Option.{slice_get_within}
use Rattle.std.specs.Prelude.{Option, Some, None, slice_get, slice_set, slice_index_or, unwrap_or}
use Rattle.mip_words.specs.declared.address.Address.{Address}
use Rattle.mip_links.specs.Table.{Asked, link_of}
use Rattle.mip_outside.specs.Places.{Around}
use Rattle.mip_rules_correspondent.specs.Calls as correspondents
use Rattle.mip_rules_correspondent.specs.Steps as correspondent_steps
use Rattle.mip_rules_correspondent.specs.Transitions as correspondent_transitions
use Rattle.mip_rules_correspondent.specs.Doing as correspondent_doing
use Rattle.mip_rules_correspondent.specs.Questions.{known}
use Rattle.mip_rules_agent.specs.Calls as agents
use Rattle.mip_rules_agent.specs.Steps as agent_steps
use Rattle.mip_rules_agent.specs.Transitions as agent_transitions
use Rattle.mip_rules_agent.specs.Doing as agent_doing
use Rattle.mip_rules_agent.specs.Questions as agent_questions
use Rattle.mip_rules_mobile.specs.Calls as mobiles
use Rattle.mip_rules_mobile.specs.Steps as mobile_steps
use Rattle.mip_rules_mobile.specs.Transitions as mobile_transitions
use Rattle.mip_rules_mobile.specs.Doing as mobile_doing
use Rattle.mip_rules_mobile.specs.Questions as mobile_questions
use Rattle.mip_history.specs.Setup.{Setup, Host, Kind}
use Rattle.mip_history.specs.Setup.Kind.{Correspondent as OfCorrespondent, Agent as OfAgent, Mobile as OfMobile}
use Rattle.mip_history.specs.Runs.{Run, past_at, agent_past_at, mobile_past_at, with_past, with_agent_past, with_mobile_past}
use Rattle.mip_history.specs.Calls.{Call, for_correspondent, for_agent, for_mobile}
use Rattle.mip_history.specs.Knowing.{now_in, identity_in, known_in, agent_of, agent_known_in, mobile_known_in, secrets_in, stands_on, around_in}
use Rattle.mip_history.specs.Nodes.{acts, by_host, by_kind, answered, after_transition, after_agent_transition, after_mobile_transition, asks}
use Rattle.mip_roles.specs.declared.role.Role.{Role}
use Rattle.mip_roles.specs.declared.role.Role.TheVariants.{Correspondent, Agent, Mobile}
use Rattle.mip_roles.specs.Roles.{or_idle, or_same, answers_to, after_call}
use Rattle.mip_roles.specs.Nodes.{NodeSeen, with_role, around_node, home_of_node}
use Rattle.mip_roles.proofs.RoleLaws.{knows_on, agent_knows_on, mobile_knows_on}
use Rattle.mip_engine.specs.Engines.{EngineSeen, station_of}
use Rattle.mip_engine.specs.Standing.{IsAt, node_in}
use Rattle.mip_engine.proofs.HomeLaws.{home_in}
use Rattle.mip_engine.proofs.NodeLaws.{Acts, host_of, at_node, acts_idle, around_is, differs_past, differs_agent_past, differs_mobile_past}

-- a node of a run in which another one knows something
abbrev knowing : Setup → Run → ℕ → Host → Role → NodeSeen
knowing s run n host role = with_role role (node_in s run n host)

module _ (e : EngineSeen) (s : Setup) (run : Run) (at : IsAt e s run) (n : ℕ) (own : Address) where
  abbrev At : Kind → Type 0
  At kind = slice_get s.hosts n ≡ Some (record { address = own; kind = kind })

  abbrev here : Kind → NodeSeen
  here kind = node_in s run n (record { address = own; kind = kind })

  -- a correspondent that knows what a call leaves known
  correspondent_on : (room : ℕ) (call : correspondents.Call) → At (OfCorrespondent room) → (let me = identity_in s run n own room in let t = correspondent_doing.transition_of me (known_in s run n room) (now_in s run) call in
      with_role (Correspondent (record { identity = me; known = t.known })) (here (OfCorrespondent room))
      ≡ node_in s (with_past n (correspondent_transitions.with_transition (past_at run n) t) run) n (record { address = own; kind = OfCorrespondent room }))
  correspondent_on room call is_host =
      let me = identity_in s run n own room in
      let past = correspondent_transitions.with_transition (past_at run n) (correspondent_doing.transition_of me (known_in s run n room) (now_in s run) call) in
      let inside = slice_get_within s.hosts n _ is_host in
      let same : slice_index_or (slice_set run.pasts n past) n [] ≡ past = get_or-set_same run.pasts n past [] (omega (arith, inside, at.pasts)) in
      ap (λ k. with_role (Correspondent (record { identity = me; known = k })) (here (OfCorrespondent room)))
      (knows_on me (now_in s run) room s.numbers (past_at run n) call ∙ ap (known room s.numbers) (sym same))

  -- what a correspondent does, once it is known what the call is to it
  pub correspondent_acts : (room : ℕ) → At (OfCorrespondent room) → slice_get e.nodes n ≡ Some (here (OfCorrespondent room)) → (from : ℕ) → unwrap_or (link_of s.links own.0) 0 ≡ from
      → (o : Option correspondents.Call) → (let me = identity_in s run n own room in let k = known_in s run n room in let now = now_in s run in
      Acts e s n (here (OfCorrespondent room)) from
      (or_same (Correspondent (record { identity = me; known = k })) (λ x. Correspondent (record { identity = me; known = (correspondent_doing.transition_of me k now x).known })) o)
      (or_idle (λ x. correspondent_steps.answers_of (correspondent_doing.transition_of me k now x).steps) o)
      (asks (λ c run. after_transition s n own (correspondent_doing.transition_of (identity_in s run n own room) (known_in s run n room) (now_in s run) c) run) o run))
  correspondent_acts room is_host there from sends None = acts_idle e s run at n (here (OfCorrespondent room)) from there
  correspondent_acts room is_host there from sends (Some call) =
      let me = identity_in s run n own room in
      let t = correspondent_doing.transition_of me (known_in s run n room) (now_in s run) call in
      let past = correspondent_transitions.with_transition (past_at run n) t in
      record {
        next = with_past n past run;
        stands = at_node e s run at n _ _ (with_past n past run) is_host (differs_past n past run) (correspondent_on room call is_host);
        does = ap (λ (f : ℕ). answered s n f (with_past n past run) (correspondent_steps.answers_of t.steps)) (sym sends);
      }

  -- an agent that knows what a call leaves known
  agent_on : (preference life room : ℕ) (serves : List Address) (call : agents.Call) → At (OfAgent preference life room serves) → (let me = agent_of own preference life room in let t = agent_doing.transition_of me (agent_known_in run n serves) (now_in s run) call in
      with_role (Agent (record { identity = me; known = t.known })) (here (OfAgent preference life room serves))
      ≡ node_in s (with_agent_past n (agent_transitions.with_transition (agent_past_at run n) t) run) n (record { address = own; kind = OfAgent preference life room serves }))
  agent_on preference life room serves call is_host =
      let me = agent_of own preference life room in
      let past = agent_transitions.with_transition (agent_past_at run n) (agent_doing.transition_of me (agent_known_in run n serves) (now_in s run) call) in
      let inside = slice_get_within s.hosts n _ is_host in
      let same : slice_index_or (slice_set run.agent_pasts n past) n [] ≡ past = get_or-set_same run.agent_pasts n past [] (omega (arith, inside, at.agent_pasts)) in
      ap (λ k. with_role (Agent (record { identity = me; known = k })) (here (OfAgent preference life room serves)))
      (agent_knows_on me (now_in s run) serves (agent_past_at run n) call ∙ ap (agent_questions.known serves) (sym same))

  pub agent_acts : (preference life room : ℕ) (serves : List Address) → At (OfAgent preference life room serves) → slice_get e.nodes n ≡ Some (here (OfAgent preference life room serves)) → (from : ℕ) → unwrap_or (link_of s.links own.0) 0 ≡ from
      → (o : Option agents.Call) → (let me = agent_of own preference life room in let k = agent_known_in run n serves in let now = now_in s run in
      Acts e s n (here (OfAgent preference life room serves)) from
      (or_same (Agent (record { identity = me; known = k })) (λ x. Agent (record { identity = me; known = (agent_doing.transition_of me k now x).known })) o)
      (or_idle (λ x. agent_steps.answers_of (agent_doing.transition_of me k now x).steps) o)
      (asks (λ c run. after_agent_transition s n own (agent_doing.transition_of (agent_of own preference life room) (agent_known_in run n serves) (now_in s run) c) run) o run))
  agent_acts preference life room serves is_host there from sends None = acts_idle e s run at n (here (OfAgent preference life room serves)) from there
  agent_acts preference life room serves is_host there from sends (Some call) =
      let me = agent_of own preference life room in
      let t = agent_doing.transition_of me (agent_known_in run n serves) (now_in s run) call in
      let past = agent_transitions.with_transition (agent_past_at run n) t in
      record {
        next = with_agent_past n past run;
        stands = at_node e s run at n _ _ (with_agent_past n past run) is_host (differs_agent_past n past run) (agent_on preference life room serves call is_host);
        does = ap (λ (f : ℕ). answered s n f (with_agent_past n past run) (agent_steps.answers_of t.steps)) (sym sends);
      }

  -- a mobile that knows what a call leaves known
  mobile_on : (agent : Option Address) (call : mobiles.Call) → At (OfMobile agent) → (let t = mobile_doing.transition_of (mobile_known_in s run n own agent) (now_in s run) call in
      with_role (Mobile t.known) (here (OfMobile agent))
      ≡ node_in s (with_mobile_past n (mobile_transitions.with_transition (mobile_past_at run n) t) run) n (record { address = own; kind = OfMobile agent }))
  mobile_on agent call is_host =
      let past = mobile_transitions.with_transition (mobile_past_at run n) (mobile_doing.transition_of (mobile_known_in s run n own agent) (now_in s run) call) in
      let inside = slice_get_within s.hosts n _ is_host in
      let same : slice_index_or (slice_set run.mobile_pasts n past) n [] ≡ past = get_or-set_same run.mobile_pasts n past [] (omega (arith, inside, at.mobile_pasts)) in
      ap (λ k. with_role (Mobile k) (here (OfMobile agent)))
      (mobile_knows_on (now_in s run) own agent s.numbers (secrets_in s n 0) (mobile_past_at run n) call ∙ ap (mobile_questions.known own agent s.numbers (secrets_in s n 0)) (sym same))

  pub mobile_acts : (agent : Option Address) → At (OfMobile agent) → slice_get e.nodes n ≡ Some (here (OfMobile agent)) → (from : ℕ) → unwrap_or (stands_on s run n own) 0 ≡ from
      → (o : Option mobiles.Call) → (let k = mobile_known_in s run n own agent in let now = now_in s run in
      Acts e s n (here (OfMobile agent)) from
      (or_same (Mobile k) (λ x. Mobile (mobile_doing.transition_of k now x).known) o)
      (or_idle (λ x. mobile_steps.answers_of (mobile_doing.transition_of k now x).steps) o)
      (asks (λ c run. after_mobile_transition s n own (mobile_doing.transition_of (mobile_known_in s run n own agent) (now_in s run) c) run) o run))
  mobile_acts agent is_host there from sends None = acts_idle e s run at n (here (OfMobile agent)) from there
  mobile_acts agent is_host there from sends (Some call) =
      let t = mobile_doing.transition_of (mobile_known_in s run n own agent) (now_in s run) call in
      let past = mobile_transitions.with_transition (mobile_past_at run n) t in
      record {
        next = with_mobile_past n past run;
        stands = at_node e s run at n _ _ (with_mobile_past n past run) is_host (differs_mobile_past n past run) (mobile_on agent call is_host);
        does = ap (λ (f : ℕ). answered s n f (with_mobile_past n past run) (mobile_steps.answers_of t.steps)) (sym sends);
      }

-- what a node of any kind does about a call
module _ (e : EngineSeen) (s : Setup) (run : Run) (at : IsAt e s run) (n : ℕ) where
  abbrev around : NodeSeen → Around
  around c = around_in run n (home_of_node c)

  abbrev ActsBy : Call → NodeSeen → ℕ → Run → Type 0
  ActsBy call c from result = Acts e s n c from (after_call (around c) c.role (now_in s run) call) (answers_to (around c) c.role (now_in s run) call) result

  kind_acts : (call : Call) (own : Address) (kind : Kind) → slice_get s.hosts n ≡ Some (record { address = own; kind = kind })
      → slice_get e.nodes n ≡ Some (node_in s run n (record { address = own; kind = kind })) → (from : ℕ) → station_of s.links (node_in s run n (record { address = own; kind = kind })) ≡ from
      → ActsBy call (node_in s run n (record { address = own; kind = kind })) from (by_kind s n own call run kind)
  kind_acts call own (OfCorrespondent room) is_host there from sends = correspondent_acts e s run at n own room is_host there from sends (for_correspondent call)
  kind_acts call own (OfAgent preference life room serves) is_host there from sends =
      agent_acts e s run at n own preference life room serves is_host there from sends (for_agent (around_in run n None) call)
  kind_acts call own (OfMobile agent) is_host there from sends =
      let k = mobile_known_in s run n own agent in
      let c = node_in s run n (record { address = own; kind = OfMobile agent }) in
      let a = around_in run n (Some own.0) in
      subst (λ (h : Address). Acts e s n c from
      (or_same (Mobile k) (λ x. Mobile (mobile_doing.transition_of k (now_in s run) x).known) (for_mobile a h call))
      (or_idle (λ x. mobile_steps.answers_of (mobile_doing.transition_of k (now_in s run) x).steps) (for_mobile a h call))
      (by_kind s n own call run (OfMobile agent)))
      (sym (home_in s run n own agent))
      (mobile_acts e s run at n own agent is_host there from sends (for_mobile a own call))

  -- what a node that is there does about a call
  pub acts_some : (call : Call) (c : NodeSeen) → slice_get e.nodes n ≡ Some c → (from : ℕ) → station_of e.net.links c ≡ from
      → Acts e s n c from (after_call (around_node e.net n c) c.role e.moment call) (answers_to (around_node e.net n c) c.role e.moment call) (acts s n call run)
  acts_some call c there from sends =
      let found = host_of e s run at n c there in
      let host = found.0 in
      let here = subst (λ (x : NodeSeen). slice_get e.nodes n ≡ Some x) (sym found.2) there in
      let from_here : station_of s.links (node_in s run n host) ≡ from =
      ap (λ (x : NodeSeen). station_of s.links x) found.2 ∙ ap (λ (q : Asked). station_of q.links c) (sym at.asked) ∙ sends in
      let acts_here : ActsBy call c from (acts s n call run) =
      subst (λ (r : Run). ActsBy call c from r) (sym (ap (by_host s n call run) found.1))
      (subst (λ (x : NodeSeen). ActsBy call x from (by_kind s n host.address call run host.kind)) found.2
      (kind_acts call host.address host.kind found.1 here from from_here)) in
      subst (λ (now : ℕ). Acts e s n c from (after_call (around_node e.net n c) c.role now call) (answers_to (around_node e.net n c) c.role now call) (acts s n call run)) (sym at.now)
      (subst (λ (a : Around). Acts e s n c from (after_call a c.role (now_in s run) call) (answers_to a c.role (now_in s run) call) (acts s n call run))
      (sym (around_is e s run at n (home_of_node c))) acts_here)
