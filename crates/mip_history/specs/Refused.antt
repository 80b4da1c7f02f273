-- What a node of a run keeps of a packet that it drops, or whose update it denies: its tables are as they were. RFC 6275 sections
-- 9.5.1, 10.3.1, 11.6.2, 11.7.3
use Rattle.std.specs.Prelude.{◌≡◌, ℕ, List, true, false, Option, Some, None, slice_get}
use Rattle.std.specs.List.{list_any}
use Rattle.mip_words.specs.declared.address.Address.{Address}
use Rattle.mip_words.specs.declared.shield.Shield.{Shield}
use Rattle.mip_rules_correspondent.specs.Calls as correspondents
use Rattle.mip_rules_correspondent.specs.Transitions as correspondent_transitions
use Rattle.mip_rules_correspondent.specs.Refusing as correspondent_refusing
use Rattle.mip_rules_correspondent.specs.Doing as correspondent_doing
use Rattle.mip_rules_agent.specs.Calls as agents
use Rattle.mip_rules_agent.specs.Transitions as agent_transitions
use Rattle.mip_rules_agent.specs.Refusing as agent_refusing
use Rattle.mip_rules_agent.specs.Doing as agent_doing
use Rattle.mip_rules_mobile.specs.Calls as mobiles
use Rattle.mip_rules_mobile.specs.Transitions as mobile_transitions
use Rattle.mip_rules_mobile.specs.Refusing as mobile_refusing
use Rattle.mip_rules_mobile.specs.Doing as mobile_doing
use Rattle.mip_history.specs.Setup.{Setup}
use Rattle.mip_history.specs.Setup.Kind.{Correspondent, Agent, Mobile}
use Rattle.mip_history.specs.Runs.{Run}
use Rattle.mip_history.specs.Calls.{Take}
use Rattle.mip_history.specs.Knowing.{now_in, identity_in, known_in, agent_of, agent_known_in, mobile_known_in, around_in}
use Rattle.mip_history.specs.Nodes.{acts}

-- a packet is handed over: its number, its shield and its bytes
pub record Handed : Type 0 where
  pub number : ℕ
  pub shield : Option Shield
  pub packet : List ℕ

-- the transition of node n about it, where that is a correspondent, an agent or a mobile
abbrev pub correspondent_transition : Setup → Run → ℕ → Address → (room : ℕ) → Handed → correspondent_transitions.Transition
correspondent_transition s run n own room h =
    correspondent_doing.transition_of (identity_in s run n own room) (known_in s run n room) (now_in s run) (correspondents.Take h.number h.shield h.packet)

abbrev pub agent_transition : Setup → Run → ℕ → Address → (preference life room : ℕ) → List Address → Handed → agent_transitions.Transition
agent_transition s run n own preference life room serves h =
    agent_doing.transition_of (agent_of own preference life room) (agent_known_in run n serves) (now_in s run) (agents.Take h.number h.shield h.packet (agents.claim_for (around_in run n None) h.packet))

abbrev pub mobile_transition : Setup → Run → ℕ → Address → Option Address → Handed → mobile_transitions.Transition
mobile_transition s run n own agent h = mobile_doing.transition_of (mobile_known_in s run n own agent) (now_in s run) (mobiles.Take h.number h.shield h.packet)

-- the run behind that transition
abbrev pub taken_by : Setup → ℕ → Handed → Run → Run
taken_by s n h run = acts s n (Take h.number h.shield h.packet) run

-- where the transition of node n about a packet has a refusal among its steps, the node's tables behind it are those before it: the cache of
-- a correspondent; all tables of an agent, which claims no address and gives none up; of a mobile all that it knows but the moments of
-- its last calls
pub record LeavesTables (s : Setup) (run : Run) (n : ℕ) : Type 0 where
  pub correspondent : (own : Address) (room : ℕ) (h : Handed) → slice_get s.hosts n ≡ Some (record { address = own; kind = Correspondent room })
      → list_any correspondent_refusing.is_refusal (correspondent_transition s run n own room h).steps ≡ true
      → (known_in s (taken_by s n h run) n room).cache ≡ (known_in s run n room).cache
  pub agent : (own : Address) (preference life room : ℕ) (serves : List Address) (h : Handed) → slice_get s.hosts n ≡ Some (record { address = own; kind = Agent preference life room serves })
      → list_any agent_refusing.is_refusal (agent_transition s run n own preference life room serves h).steps ≡ true
      → agent_refusing.KeepsTables (agent_known_in run n serves) (agent_known_in (taken_by s n h run) n serves)
      × (list_any agent_refusing.is_claim (agent_transition s run n own preference life room serves h).steps ≡ false)
  pub mobile : (own : Address) (agent : Option Address) (h : Handed) → slice_get s.hosts n ≡ Some (record { address = own; kind = Mobile agent })
      → list_any mobile_refusing.is_refusal (mobile_transition s run n own agent h).steps ≡ true
      → mobile_refusing.tables_of (mobile_known_in s (taken_by s n h run) n own agent) ≡ mobile_refusing.tables_of (mobile_known_in s run n own agent)

-- so it is of every node in every run of a setup, and so at each place of a history
abbrev pub RefusalsLeaveTables : Setup → Type 0
RefusalsLeaveTables s = (run : Run) (n : ℕ) → LeavesTables s run n
