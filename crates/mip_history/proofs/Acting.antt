-- A call to a node keeps a run.
use Rattle.std.proofs.Common.{◌≡◌, ℕ, List, Bool, true, false, refl, sym, ap, ◌∙◌, length-set}
use Rattle.std.specs.Prelude.{Option, Some, None, slice_get}
use Rattle.std.proofs.lemmas.Option.{slice_get_within}
use Rattle.mip_words.specs.declared.address.Address.{Address}
use Rattle.mip_entries.specs.declared.entry.Entry.{Entry}
use Rattle.mip_entries.specs.declared.entry.Entry.TheVariants as entries
use Rattle.mip_entries.specs.Stamped.{Stamped}
use Rattle.mip_rules_correspondent.specs.Calls as correspondents
use Rattle.mip_rules_correspondent.specs.Doing.{transition_of}
use Rattle.mip_rules_correspondent.proofs.Taken.{refreshed_none, sent_none}
use Rattle.mip_rules_agent.specs.declared.identity.Identity.{Identity}
use Rattle.mip_rules_agent.specs.Known.{Known}
use Rattle.mip_rules_agent.specs.Steps as agents
use Rattle.mip_rules_agent.specs.Transitions as agent_transitions
use Rattle.mip_rules_agent.specs.Calls as agent_calls
use Rattle.mip_rules_agent.specs.Doing as agent_doing
use Rattle.mip_rules_agent.proofs.Answers.{call-whole}
use Rattle.mip_outside.specs.Places.{claim_in}
use Rattle.mip_rules_mobile.specs.MovingRules.{address_under}
use Rattle.mip_rules_mobile.specs.PartLaws.{is_restart}
use Rattle.mip_rules_mobile.specs.Calls as mobile_calls
use Rattle.mip_rules_mobile.specs.Doing as mobile_doing
use Rattle.mip_history.specs.Setup.{Setup, Host, Kind}
use Rattle.mip_history.specs.SetupLaws.{is_correspondent_host}
use Rattle.mip_history.specs.Setup.Kind.{Correspondent, Agent, Mobile}
use Rattle.mip_history.specs.Runs.{Run, note, agent_past_at, with_agent_past}
use Rattle.mip_history.specs.Calls.{Call, Take, Send, Refresh, Tick, Plan, Hear, Attach, Leave, Ask, Restart, for_agent}
use Rattle.mip_history.specs.Knowing.{link_or_first, now_in, identity_in, known_in, agent_of, agent_known_in, mobile_known_in, around_in}
use Rattle.mip_history.specs.Nodes.{after_agent_transition, after_mobile_transition, asks, by_kind, by_host, acts}
use Rattle.mip_history.proofs.Quiet.{is_told}
use Rattle.mip_history.proofs.Runs.{IsRun, IsQuiet, Goes, quiet_same, quiet_then, quiet_one, goes_quietly}
use Rattle.mip_history.proofs.Answering.{quiet_whole}
use Rattle.mip_history.proofs.Handing.{after_quiet_transition}
use Rattle.mip_history.proofs.PartTransitions.{mobile_transition}

-- a run as it stands, and with an entry of which nothing is known
pub stays : (s : Setup) (run : Run) → IsRun s run → Goes s run run
stays s run is = goes_quietly s run run is (quiet_same s run)

pub noted_goes : (s : Setup) (run : Run) (e : Entry) → IsRun s run → is_told e ≡ false → Goes s run (note e run)
noted_goes s run e is quiet = goes_quietly s run (note e run) is (quiet_one s run e quiet)

-- the pasts of agents are nothing to correspondents and mobiles
pub quiet_agent_past : (s : Setup) (n : ℕ) (past : List (Stamped agents.Step)) (run : Run) → IsQuiet s run (with_agent_past n past run)
quiet_agent_past s n past run = record {
  pasts = refl;
  agents = length-set run.agent_pasts n past;
  mobiles = refl;
  accepted = λ m. refl;
  moment = refl;
  life = λ m. refl;
  kept = λ k. k;
}

quiet_agent_transition : (s : Setup) (n : ℕ) (own : Address) (me : Identity) (k : Known) (now : ℕ) (c : agent_calls.Call) (run : Run) → IsQuiet s run (after_agent_transition s n own (agent_doing.transition_of me k now c) run)
quiet_agent_transition s n own me k now c run =
    let t = agent_doing.transition_of me k now c in
    let past = agent_transitions.with_transition (agent_past_at run n) t in
    quiet_then s run (with_agent_past n past run) _ (quiet_agent_past s n past run)
    (quiet_whole s n (link_or_first s own.0) (with_agent_past n past run) (agents.answers_of t.steps) (call-whole me k now c))

-- what is nothing to a node leaves `idle`
quiet_asks : {C : Type 0} (s : Setup) (does : C → Run → Run) (call : Option C) (run : Run) → ((c : C) → IsQuiet s run (does c run)) → IsQuiet s run (asks does call run)
quiet_asks s does None run quiet = quiet_one s run entries.Idle refl
quiet_asks s does (Some call) run quiet = quiet call

module _ (s : Setup) (n : ℕ) (call : Call) (run : Run) (is : IsRun s run) where
  agent_goes : (own : Address) (preference life room : ℕ) (serves : List Address) → IsQuiet s run (by_kind s n own call run (Agent preference life room serves))
  agent_goes own preference life room serves =
      quiet_asks s _ (for_agent (around_in run n None) call) run
      (λ (c : agent_calls.Call). quiet_agent_transition s n own (agent_of own preference life room) (agent_known_in run n serves) (now_in s run) c run)

  -- a call to whatever node it is, if it keeps the run where that is a correspondent or a mobile
  pub acts_goes : ((own : Address) (room : ℕ) → slice_get s.hosts n ≡ Some (record { address = own; kind = Correspondent room }) → Goes s run (by_kind s n own call run (Correspondent room)))
      → ((own : Address) (agent : Option Address) → slice_get s.hosts n ≡ Some (record { address = own; kind = Mobile agent }) → Goes s run (by_kind s n own call run (Mobile agent)))
      → Goes s run (acts s n call run)
  acts_goes mine roams = by (slice_get s.hosts n) refl
    where
      of_kind : (own : Address) (kind : Kind) → slice_get s.hosts n ≡ Some (record { address = own; kind = kind }) → Goes s run (by_kind s n own call run kind)
      of_kind own (Correspondent room) e = mine own room e
      of_kind own (Agent preference life room serves) e = goes_quietly s run _ is (agent_goes own preference life room serves)
      of_kind own (Mobile agent) e = roams own agent e

      by : (o : Option Host) → slice_get s.hosts n ≡ o → Goes s run (by_host s n call run o)
      by None e = noted_goes s run entries.Idle is refl
      by (Some host) e = of_kind host.address host.kind e

-- a call by which no packet is handed over, and the node does not restart
abbrev pub is_grave : Call → Bool
is_grave (Take number shield packet) = true
is_grave (Restart secrets) = true
is_grave _ = false

-- a mobile's call of that kind
abbrev is_grave_for : mobile_calls.Call → Bool
is_grave_for (mobile_calls.Take number shield packet) = true
is_grave_for (mobile_calls.Restart secrets) = true
is_grave_for _ = false

no_restart : (c : mobile_calls.Call) → is_grave_for c ≡ false → is_restart c ≡ false
no_restart (mobile_calls.Take number shield packet) calm = refl
no_restart (mobile_calls.Restart secrets) calm = absurd cc
no_restart _ calm = refl

module _ (s : Setup) (n : ℕ) (run : Run) (is : IsRun s run) (own : Address) (agent : Option Address) (host_is : slice_get s.hosts n ≡ Some (record { address = own; kind = Mobile agent })) where
  roams_calmly : (c : mobile_calls.Call) → is_grave_for c ≡ false → Goes s run (after_mobile_transition s n own (mobile_doing.transition_of (mobile_known_in s run n own agent) (now_in s run) c) run)
  roams_calmly c calm =
      mobile_transition s n own agent run is host_is c (no_restart c calm)
      (λ x. absurd (let both : true ≡ false = sym (ap is_grave_for x.call) ∙ calm in cc))

  mobile_goes : (call : Call) → is_grave call ≡ false → Goes s run (by_kind s n own call run (Mobile agent))
  mobile_goes (Take number shield packet) calm = absurd cc
  mobile_goes (Restart secrets) calm = absurd cc
  mobile_goes (Send to proto payload) calm = roams_calmly (mobile_calls.Send to proto payload) refl
  mobile_goes (Refresh to) calm = roams_calmly (mobile_calls.Refresh to) refl
  mobile_goes Tick calm = roams_calmly mobile_calls.Tick refl
  mobile_goes (Attach prefix) calm =
      let around = around_in run n (Some own.0) in
      roams_calmly (mobile_calls.Attach prefix (claim_in around own.0) (claim_in around (address_under own prefix).0)) refl
  mobile_goes Leave calm = roams_calmly (mobile_calls.Leave (claim_in (around_in run n (Some own.0)) own.0)) refl
  mobile_goes Ask calm = roams_calmly mobile_calls.Ask refl
  mobile_goes (Plan valid preferred) calm = noted_goes s run entries.Idle is refl
  mobile_goes (Hear other preference life) calm = noted_goes s run entries.Idle is refl

pub acts_calmly : (s : Setup) (n : ℕ) (call : Call) (run : Run) → IsRun s run → is_grave call ≡ false → Goes s run (acts s n call run)
acts_calmly s n call run is calm = acts_goes s n call run is (λ own room e. mine own room e call calm) (λ own agent e. mobile_goes s n run is own agent e call calm)
  where
    mine : (own : Address) (room : ℕ) → slice_get s.hosts n ≡ Some (record { address = own; kind = Correspondent room })
        → (call : Call) → is_grave call ≡ false → Goes s run (by_kind s n own call run (Correspondent room))
    mine own room e (Take number shield packet) calm = absurd cc
    mine own room e (Restart secrets) calm = absurd cc
    mine own room e (Send to proto payload) calm =
        let me = identity_in s run n own room in
        let k = known_in s run n room in
        let q = sent_none me k (now_in s run) to proto payload in
        after_quiet_transition s n own run (transition_of me k (now_in s run) (correspondents.Send to proto payload)) is (slice_get_within s.hosts n _ e) (ap is_correspondent_host e) q.0 q.1
    mine own room e (Refresh home) calm =
        let me = identity_in s run n own room in
        let k = known_in s run n room in
        let q = refreshed_none me k (now_in s run) home in
        after_quiet_transition s n own run (transition_of me k (now_in s run) (correspondents.Refresh home)) is (slice_get_within s.hosts n _ e) (ap is_correspondent_host e) q.0 q.1
    mine own room e _ calm = noted_goes s run entries.Idle is refl
