-- What a home agent or a mobile does that was taken out of a run, and put back, is what it does in the run.
use Rattle.std.proofs.Common.{◌≡◌, ℕ, zero, suc, ◌<◌, List, [], ◌∷◌, true, false, length, refl, sym, ap, ◌∙◌, subst, get_or-set_same}
use Rattle.std.specs.Prelude.{Option, Some, None, unwrap_or, slice_get, slice_set, slice_index_or}
use Rattle.mip_words.specs.declared.address.Address.{Address}
use Rattle.mip_nonce.specs.Secrets.{Life}
use Rattle.mip_outside.specs.Places.{Around}
use Rattle.mip_entries.specs.declared.answer.Answer.{Answer}
use Rattle.mip_entries.specs.Stamped.{Stamped}
use Rattle.mip_rules_agent.specs.Calls as agents
use Rattle.mip_rules_agent.specs.Steps as agent_steps
use Rattle.mip_rules_agent.specs.Questions as agent_questions
use Rattle.mip_rules_agent.specs.Transitions as agent_transitions
use Rattle.mip_rules_agent.specs.Doing as agent_doing
use Rattle.mip_rules_mobile.specs.Calls as mobiles
use Rattle.mip_rules_mobile.specs.Steps as mobile_steps
use Rattle.mip_rules_mobile.specs.Questions as mobile_questions
use Rattle.mip_rules_mobile.specs.Transitions as mobile_transitions
use Rattle.mip_rules_mobile.specs.Doing as mobile_doing
use Rattle.mip_history.specs.Setup.{Setup}
use Rattle.mip_history.specs.Runs.{Run, with_agent_past, with_mobile_past, agent_past_at, mobile_past_at}
use Rattle.mip_history.specs.RunsLaws.{IsRun}
use Rattle.mip_history.specs.Calls.{Call, for_agent, for_mobile}
use Rattle.mip_history.specs.Knowing.{link_or_first, now_in, secrets_in, stands_on, around_in, agent_of, agent_known_in, mobile_known_in}
use Rattle.mip_history.specs.Nodes.{answered, asks, by_host, acts, after_agent_transition, after_mobile_transition}
use Rattle.mip_afresh_agent.specs.Agents as of_agent
use Rattle.mip_afresh_agent.specs.Agents.{AgentSeen}
use Rattle.mip_afresh_mobile.specs.Nodes as of_mobile
use Rattle.mip_afresh_mobile.specs.Nodes.{NodeSeen}
use Rattle.mip_afresh.specs.declared.role.Role.TheVariants.{Agent, Mobile}
use Rattle.mip_afresh_nodes.specs.declared.agent_call.AgentCall.{AgentCall}
use Rattle.mip_afresh_nodes.specs.declared.agent_call.AgentCall.TheVariants as agent_calls
use Rattle.mip_afresh_nodes.specs.declared.mobile_call.MobileCall.{MobileCall}
use Rattle.mip_afresh_nodes.specs.declared.mobile_call.MobileCall.TheVariants as mobile_calls
use Rattle.mip_afresh_nodes.specs.AgentCalls.{asked_of_agent, call_of_agent}
use Rattle.mip_afresh_nodes.specs.MobileCalls.{asked_of_mobile, call_of_mobile}
use Rattle.mip_afresh.specs.Tellings.{TellingSeen, with_run}
use Rattle.mip_afresh.specs.Roles.{agent_host, mobile_host, IsAgent, IsMobile, IsAgentOut, IsMobileOut, IsTaken}

pub set_again : {X : Type 0} (xs : List X) (n : ℕ) (x y : X) → slice_set (slice_set xs n x) n y ≡ slice_set xs n y
set_again [] n x y = refl
set_again (z ∷ zs) zero x y = refl
set_again (z ∷ zs) (suc n) x y = ap (λ (l : List _). z ∷ l) (set_again zs n x y)

-- what one is asked for is that of its role
pub agent_asked : (around : Around) (call : AgentCall) → for_agent around (asked_of_agent call) ≡ Some (call_of_agent around call)
agent_asked around (agent_calls.Take number shield packet) = refl
agent_asked around agent_calls.Tick = refl
agent_asked around (agent_calls.Plan valid preferred) = refl
agent_asked around (agent_calls.Hear router) = refl

pub mobile_asked : (around : Around) (home : Address) (call : MobileCall) → for_mobile around home (asked_of_mobile call) ≡ Some (call_of_mobile around home call)
mobile_asked around home mobile_calls.Tick = refl
mobile_asked around home (mobile_calls.Attach prefix) = refl
mobile_asked around home mobile_calls.Leave = refl
mobile_asked around home mobile_calls.Ask = refl
mobile_asked around home (mobile_calls.Restart secrets) = refl

-- a home agent
module _ (s : Setup) (run : Run) (n : ℕ) (a : AgentSeen) (is : IsAgent s n a) (inside : n < length run.agent_pasts) where
  abbrev agent_whole : Run
  agent_whole = with_agent_past n a.past run

  abbrev agent_link : ℕ
  agent_link = link_or_first s a.me.own.0

  abbrev agent_does : agents.Call → Run → Run
  agent_does c r = after_agent_transition s n a.me.own (agent_doing.transition_of (agent_of a.me.own a.me.preference a.me.life a.me.room) (agent_known_in r n a.serves) (now_in s r) c) r

  abbrev agent_goes : agents.Call → List (Stamped agent_steps.Step) → Run
  agent_goes c p =
      answered s n agent_link (with_agent_past n (agent_transitions.with_transition p (agent_doing.transition_of a.me (agent_questions.known a.serves p) (now_in s run) c)) agent_whole)
      (agent_steps.answers_of (agent_doing.transition_of a.me (agent_questions.known a.serves p) (now_in s run) c).steps)

  agent_acts : (call : Call) (c : agents.Call) → for_agent (around_in run n None) call ≡ Some c
      → acts s n call agent_whole ≡ answered s n agent_link (with_agent_past n (of_agent.after_call a (now_in s run) c).past run) (agent_steps.answers_of (of_agent.transition_at a (now_in s run) c).steps)
  agent_acts call c e =
      ap (by_host s n call agent_whole) is
      ∙ ap (λ (o : Option agents.Call). asks agent_does o agent_whole) e
      ∙ ap (agent_goes c) (get_or-set_same run.agent_pasts n a.past [] inside)
      ∙ ap (λ (l : List (List (Stamped agent_steps.Step))). answered s n agent_link (record run { agent_pasts = l }) (agent_steps.answers_of (of_agent.transition_at a (now_in s run) c).steps))
      (set_again run.agent_pasts n a.past (of_agent.after_call a (now_in s run) c).past)

  -- it has done a call at a moment, with these answers
  pub agent_done : (call : Call) (c : agents.Call) (now : ℕ) (b : AgentSeen) (xs : List Answer) → for_agent (around_in run n None) call ≡ Some c → now ≡ now_in s run
      → b ≡ of_agent.after_call a now c → xs ≡ agent_steps.answers_of (of_agent.transition_at a now c).steps
      → answered s n agent_link (with_agent_past n b.past run) xs ≡ acts s n call agent_whole
  agent_done call c now b xs e at behind answers =
      ap (λ (x : AgentSeen). answered s n agent_link (with_agent_past n x.past run) xs) behind
      ∙ ap (answered s n agent_link (with_agent_past n (of_agent.after_call a now c).past run)) answers
      ∙ ap (λ (m : ℕ). answered s n agent_link (with_agent_past n (of_agent.after_call a m c).past run) (agent_steps.answers_of (of_agent.transition_at a m c).steps)) at
      ∙ sym (agent_acts call c e)

  -- and is the same node
  pub agent_stays : (now : ℕ) (c : agents.Call) (b : AgentSeen) → b ≡ of_agent.after_call a now c → IsAgent s n b
  agent_stays now c b e = subst (IsAgent s n) (sym e) is

-- a mobile
module _ (s : Setup) (run : Run) (n : ℕ) (m : NodeSeen) (is : IsMobile s n m) (inside : n < length run.mobile_pasts) where
  abbrev mobile_whole : Run
  mobile_whole = with_mobile_past n m.past run

  abbrev mobile_link : ℕ
  mobile_link = unwrap_or (stands_on s run n m.home) 0

  abbrev mobile_does : mobiles.Call → Run → Run
  mobile_does c r = after_mobile_transition s n m.home (mobile_doing.transition_of (mobile_known_in s r n m.home m.declared) (now_in s r) c) r

  abbrev mobile_goes : mobiles.Call → ℕ → Life → List (Stamped mobile_steps.Step) → Run
  mobile_goes c numbers secrets p =
      answered s n mobile_link (with_mobile_past n (mobile_transitions.with_transition p (mobile_doing.transition_of (mobile_questions.known m.home m.declared numbers secrets p) (now_in s run) c)) mobile_whole)
      (mobile_steps.answers_of (mobile_doing.transition_of (mobile_questions.known m.home m.declared numbers secrets p) (now_in s run) c).steps)

  mobile_acts : (call : Call) (c : mobiles.Call) → for_mobile (around_in run n (Some m.home.0)) m.home call ≡ Some c
      → acts s n call mobile_whole ≡ answered s n mobile_link (with_mobile_past n (of_mobile.after_call m (now_in s run) c).past run) (mobile_steps.answers_of (of_mobile.transition_at m (now_in s run) c).steps)
  mobile_acts call c e =
      ap (by_host s n call mobile_whole) is.host
      ∙ ap (λ (o : Option mobiles.Call). asks mobile_does o mobile_whole) e
      ∙ ap (mobile_goes c s.numbers (secrets_in s n 0)) (get_or-set_same run.mobile_pasts n m.past [] inside)
      ∙ ap (λ (k : ℕ). mobile_goes c k (secrets_in s n 0) m.past) (sym is.numbers)
      ∙ ap (λ (l : Life). mobile_goes c m.numbers l m.past) (sym is.secrets)
      ∙ ap (λ (l : List (List (Stamped mobile_steps.Step))). answered s n mobile_link (record run { mobile_pasts = l }) (mobile_steps.answers_of (of_mobile.transition_at m (now_in s run) c).steps))
      (set_again run.mobile_pasts n m.past (of_mobile.after_call m (now_in s run) c).past)

  pub mobile_done : (call : Call) (c : mobiles.Call) (now : ℕ) (b : NodeSeen) (xs : List Answer) → for_mobile (around_in run n (Some m.home.0)) m.home call ≡ Some c → now ≡ now_in s run
      → b ≡ of_mobile.after_call m now c → xs ≡ mobile_steps.answers_of (of_mobile.transition_at m now c).steps
      → answered s n mobile_link (with_mobile_past n b.past run) xs ≡ acts s n call mobile_whole
  mobile_done call c now b xs e at behind answers =
      ap (λ (x : NodeSeen). answered s n mobile_link (with_mobile_past n x.past run) xs) behind
      ∙ ap (answered s n mobile_link (with_mobile_past n (of_mobile.after_call m now c).past run)) answers
      ∙ ap (λ (k : ℕ). answered s n mobile_link (with_mobile_past n (of_mobile.after_call m k c).past run) (mobile_steps.answers_of (of_mobile.transition_at m k c).steps)) at
      ∙ sym (mobile_acts call c e)

  pub mobile_stays : (now : ℕ) (c : mobiles.Call) (b : NodeSeen) → b ≡ of_mobile.after_call m now c → IsMobile s n b
  mobile_stays now c b e = subst (IsMobile s n) (sym e) (record { host = is.host; numbers = is.numbers; secrets = is.secrets })

-- it was taken out of the run
module _ (old new : TellingSeen) (n : ℕ) where
  pub agent_back : (a : AgentSeen) (call : Call) → IsTaken old new n (Agent a) → with_run (acts new.setup n call (with_agent_past n a.past new.run)) new ≡ with_run (acts old.setup n call old.run) old
  agent_back a call taken = sym (ap (λ (t : TellingSeen). with_run (acts t.setup n call t.run) t) taken.1)

  pub mobile_back : (m : NodeSeen) (call : Call) → IsTaken old new n (Mobile m) → with_run (acts new.setup n call (with_mobile_past n m.past new.run)) new ≡ with_run (acts old.setup n call old.run) old
  mobile_back m call taken = sym (ap (λ (t : TellingSeen). with_run (acts t.setup n call t.run) t) taken.1)

  pub mobile_run : (m : NodeSeen) → IsTaken old new n (Mobile m) → IsRun old.setup old.run → IsRun new.setup (with_mobile_past n m.past new.run)
  mobile_run m taken run = subst (λ (t : TellingSeen). IsRun t.setup t.run) taken.1 run
