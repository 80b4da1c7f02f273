-- What a run keeps of its nodes beside its entries: the past of each home agent and of each mobile.
use Rattle.std.specs.Prelude.{◌≡◌, ◌<◌, ℕ, List, [], length, Option, Some, IfSome, slice_get}
use Rattle.mip_entries.specs.Stamped.{Stamped}
use Rattle.mip_rules_agent.specs.Steps as agents
use Rattle.mip_rules_mobile.specs.Steps as mobiles
use Rattle.mip_history.specs.Setup as setups
use Rattle.mip_history.specs.Setup.{Setup, Host}
use Rattle.mip_history.specs.Runs.{with_agent_past, with_mobile_past, agent_past_at, mobile_past_at}
use Rattle.mip_history.specs.Knowing.{secrets_in}
use Rattle.mip_afresh_agent.specs.Agents.{AgentSeen}
use Rattle.mip_afresh_mobile.specs.Nodes.{NodeSeen}
use Rattle.mip_afresh.specs.declared.role.Role.{Role}
use Rattle.mip_afresh.specs.declared.role.Role.TheVariants.{Plain, Agent, Mobile}
use Rattle.mip_afresh.specs.Tellings.{TellingSeen, with_run}

abbrev pub agent_past : Role → List (Stamped agents.Step)
agent_past (Agent a) = a.past
agent_past _ = []

abbrev pub mobile_past : Role → List (Stamped mobiles.Step)
mobile_past (Mobile m) = m.past
mobile_past _ = []

-- the node that a home agent is, and the one that a mobile is
abbrev pub agent_host : AgentSeen → Host
agent_host a = record { address = a.me.own; kind = setups.Agent a.me.preference a.me.life a.me.room a.serves }

abbrev pub mobile_host : NodeSeen → Host
mobile_host m = record { address = m.home; kind = setups.Mobile m.declared }

-- node n is declared as this agent
abbrev pub IsAgent : Setup → ℕ → AgentSeen → Type 0
IsAgent s n a = slice_get s.hosts n ≡ Some (agent_host a)

-- node n is declared as this mobile
pub record IsMobile (s : Setup) (n : ℕ) (m : NodeSeen) : Type 0 where
  pub host : slice_get s.hosts n ≡ Some (mobile_host m)
  pub numbers : m.numbers ≡ s.numbers
  pub secrets : m.secrets ≡ secrets_in s n 0

abbrev pub IsOf : Setup → ℕ → Role → Type 0
IsOf s n Plain = Unit {0}
IsOf s n (Agent a) = IsAgent s n a
IsOf s n (Mobile m) = IsMobile s n m

-- each is of its node
abbrev pub AreOf : Setup → List Role → Type 0
AreOf s roles = (n : ℕ) → IfSome (slice_get roles n) (IsOf s n)

-- an agent that stands in a run as node n, with its past; and a mobile
pub record IsAgentOf (t : TellingSeen) (n : ℕ) (a : AgentSeen) : Type 0 where
  pub is : IsAgent t.setup n a
  pub past : agent_past_at t.run n ≡ a.past

pub record IsMobileOf (t : TellingSeen) (n : ℕ) (m : NodeSeen) : Type 0 where
  pub is : IsMobile t.setup n m
  pub past : mobile_past_at t.run n ≡ m.past

abbrev pub StandsAs : TellingSeen → ℕ → Option Role → Type 0
StandsAs t n (Some (Agent a)) = IsAgentOf t n a
StandsAs t n (Some (Mobile m)) = IsMobileOf t n m
StandsAs t n _ = Unit {0}

-- an agent that was taken out of a run, and a mobile: the run goes on as if it had done nothing, until it is put back
pub record IsAgentOut (t : TellingSeen) (n : ℕ) (a : AgentSeen) : Type 0 where
  pub is : IsAgent t.setup n a
  pub inside : n < length t.run.agent_pasts

pub record IsMobileOut (t : TellingSeen) (n : ℕ) (m : NodeSeen) : Type 0 where
  pub is : IsMobile t.setup n m
  pub inside : n < length t.run.mobile_pasts

-- with it the run is as it was
abbrev pub IsTaken : (old new : TellingSeen) → ℕ → Role → Type 0
IsTaken old new n Plain = new ≡ old
IsTaken old new n (Agent a) = IsAgentOut new n a × (old ≡ with_run (with_agent_past n a.past new.run) new)
IsTaken old new n (Mobile m) = IsMobileOut new n m × (old ≡ with_run (with_mobile_past n m.past new.run) new)

-- nothing has happened to the node yet
pub record IsFreshFor (s : Setup) (n : ℕ) (role : Role) : Type 0 where
  pub is : IsOf s n role
  pub agent : agent_past role ≡ []
  pub mobile : mobile_past role ≡ []

-- nor to the first so many
pub record AreFresh (s : Setup) (count : ℕ) (roles : List Role) : Type 0 where
  pub long : length roles ≡ count
  pub each : (n : ℕ) → IfSome (slice_get roles n) (IsFreshFor s n)
