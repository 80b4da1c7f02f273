-- A node of a run as contracts see it, and what its parts make of it.
use Rattle.std.specs.Prelude.{ℕ, suc, List, Option, Some, None}
use Rattle.mip_words.specs.declared.address.Address.{Address}
use Rattle.mip_outside.specs.Places.{Around}
use Rattle.mip_links.specs.Nets.{NetSeen}
use Rattle.mip_history.specs.Setup.{Host, Kind}
use Rattle.mip_history.specs.Setup.Kind.{Correspondent as OfCorrespondent, Agent as OfAgent, Mobile as OfMobile}
use Rattle.mip_history.specs.Advertising.{Router}
use Rattle.mip_roles.specs.declared.role.Role.{Role}
use Rattle.mip_roles.specs.declared.role.Role.TheVariants.{Correspondent, Agent, Mobile}
use Rattle.mip_roles.specs.declared.router.Router.{Router as RouterRead}
use Rattle.mip_roles.specs.Places.{around_of}
use Rattle.mip_roles.specs.Roles.{new_role}

-- what it was declared with, how often it was restarted, the link on which it stands, and its role
pub record NodeSeen : Type 0 where
  pub host : Host
  pub life : ℕ
  pub spot : Option ℕ
  pub role : Role

-- node n in its first life, with nothing behind it, where a home's bindings may have so many numbers
abbrev pub new_node : List ℕ → (numbers : ℕ) → ℕ → Option ℕ → Host → NodeSeen
new_node seed numbers n spot host = record { host = host; life = 0; spot = spot; role = new_role seed numbers n 0 host.address host.kind }

abbrev pub with_role : Role → NodeSeen → NodeSeen
with_role role c = record { host = c.host; life = c.life; spot = c.spot; role = role }

abbrev pub with_spot : Option ℕ → NodeSeen → NodeSeen
with_spot spot c = record { host = c.host; life = c.life; spot = spot; role = c.role }

abbrev pub with_life : ℕ → NodeSeen → NodeSeen
with_life life c = record { host = c.host; life = life; spot = c.spot; role = c.role }

-- the home address of a mobile
abbrev pub home_by_role : Address → Role → Option ℕ
home_by_role own (Correspondent c) = None
home_by_role own (Agent a) = None
home_by_role own (Mobile k) = Some own.0

abbrev pub home_of_node : NodeSeen → Option ℕ
home_of_node c = home_by_role c.host.address c.role

-- what node n finds around it
abbrev pub around_node : NetSeen → ℕ → NodeSeen → Around
around_node net n c = around_of net n (home_of_node c)

-- in a new life a correspondent and an agent have nothing behind them; a mobile is yet to be told
abbrev pub next_role : Role → Role → Role
next_role (Correspondent c) new = new
next_role (Agent a) new = new
next_role (Mobile k) new = Mobile k

-- node n in its next life
abbrev pub reborn : List ℕ → (numbers : ℕ) → ℕ → NodeSeen → NodeSeen
reborn seed numbers n c = with_life (suc c.life) (with_role (next_role c.role (new_role seed numbers n (suc c.life) c.host.address c.host.kind)) c)

-- an agent as it advertises itself
abbrev pub seen_router : RouterRead → Router
seen_router r = record { address = r.address; preference = r.preference; life = r.life }

abbrev pub router_by : Address → Kind → Option Router
router_by own (OfCorrespondent room) = None
router_by own (OfAgent preference life room serves) = Some (record { address = own; preference = preference; life = life })
router_by own (OfMobile agent) = None

abbrev pub router_of : Host → Option Router
router_of host = router_by host.address host.kind
