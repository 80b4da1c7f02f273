-- An engine stands for a run: what it keeps is what is asked of the run.
use Rattle.std.specs.Prelude.{◌≡◌, ℕ, List, length, option_map, slice_get, Result, OnOk}
use Rattle.mip_words.specs.declared.address.Address.{Address}
use Rattle.mip_links.specs.Nets.{asked_of, hears_of}
use Rattle.mip_history.specs.Setup.{Setup, Host, Kind}
use Rattle.mip_history.specs.Setup.Kind.{Correspondent as OfCorrespondent, Agent as OfAgent, Mobile as OfMobile}
use Rattle.mip_history.specs.Runs.{Run}
use Rattle.mip_history.specs.Questions.{moment_in, hears_in, life_in, asked_in}
use Rattle.mip_schedule.specs.declared.event.Event.{Event}
use Rattle.mip_history.specs.Permitted.{run_of}
use Rattle.mip_history.specs.Knowing.{identity_in, known_in, agent_of, agent_known_in, mobile_known_in, stands_on}
use Rattle.mip_roles.specs.declared.role.Role.{Role}
use Rattle.mip_roles.specs.declared.role.Role.TheVariants.{Correspondent, Agent, Mobile}
use Rattle.mip_roles.specs.Nodes.{NodeSeen}
use Rattle.mip_engine.specs.Engines.{EngineSeen}
use Rattle.mip_engine.specs.Numbering.{IsNumbered}

-- node n of a run, as it knows what its past leaves known
abbrev pub role_in : Setup → Run → ℕ → Address → Kind → Role
role_in s run n own (OfCorrespondent room) = Correspondent (record { identity = identity_in s run n own room; known = known_in s run n room })
role_in s run n own (OfAgent preference life room serves) =
    Agent (record { identity = agent_of own preference life room; known = agent_known_in run n serves })
role_in s run n own (OfMobile agent) = Mobile (mobile_known_in s run n own agent)

abbrev pub node_in : Setup → Run → ℕ → Host → NodeSeen
node_in s run n host = record {
  host = host;
  life = life_in run.past n;
  spot = stands_on s run n host.address;
  role = role_in s run n host.address host.kind;
}

pub record IsAt (e : EngineSeen) (s : Setup) (run : Run) : Type 0 where
  pub seed : e.seed ≡ s.seed
  -- who holds and first claimed which address
  pub asked : asked_of e.net ≡ asked_in s run.past
  pub hears : hears_of e.net.hearing ≡ hears_in run.past
  pub posts : e.net.posts ≡ run.posts
  pub flying : e.net.flying ≡ run.flying
  pub spots : length e.net.hearing ≡ 256
  pub firsts : length e.net.firsts ≡ 40
  -- each node is the one of its life, its place and its past, and there are no others
  pub nodes : (n : ℕ) → slice_get e.nodes n ≡ option_map (node_in s run n) (slice_get s.hosts n)
  pub count : length e.nodes ≡ length s.hosts
  pub pasts : length run.pasts ≡ length s.hosts
  pub agent_pasts : length run.agent_pasts ≡ length s.hosts
  pub mobile_pasts : length run.mobile_pasts ≡ length s.hosts
  pub outsiders : e.outsiders ≡ s.outsiders
  pub numbers : e.numbers ≡ s.numbers
  pub now : e.moment ≡ moment_in s.start run.past
  pub history : e.past ≡ run.past
  pub numbered : IsNumbered run.posts run.past

-- it stands for the run of some events
pub record IsOfRun (e : EngineSeen) : Type 0 where
  pub setup : Setup
  pub events : List Event
  pub stands : IsAt e setup (run_of setup events)

-- an engine has become another one: of whichever run the first one stood for this was made, and nothing was given away
pub record HasGone (old new : EngineSeen) (f : Setup → Run → Run) : Type 0 where
  pub stands : (s : Setup) (run : Run) → IsAt old s run → IsAt new s (f s run)
  pub kept : new.told ≡ old.told

-- a call makes this of whichever run an engine stands for, and gives nothing away. Of an error nothing is said
pub record Goes {A E : Type 0} (result : Result A E) (old new : EngineSeen) (f : Setup → Run → Run) : Type 0 where
  pub stands : (s : Setup) (run : Run) → IsAt old s run → OnOk result (IsAt new s (f s run))
  pub kept : OnOk result (new.told ≡ old.told)
