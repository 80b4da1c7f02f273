-- What nodes need to join, each with its address, and the first agent of a link with the home-agents anycast address there.
use Rattle.std.specs.Prelude.{◌≡◌, ℕ, ◌≤◌, ◌==◌, List, [], length, map, Bool, true, false, is_some, Option, Some, None, if◌then◌else◌}
use Rattle.std.specs.List.{list_any}
use Rattle.mip_words.specs.declared.address.Address.{Address}
use Rattle.mip_words.specs.EachAfter.{EachAfter}
use Rattle.mip_links.specs.Table.{link_of}
use Rattle.mip_schedule.specs.DeclarationTimes.{interface_of}
use Rattle.mip_history.specs.Setup.{Host}
use Rattle.mip_history.specs.Permitted.{is_first_agent, anycast_at}
use Rattle.mip_roles.specs.Nodes.{NodeSeen}
use Rattle.mip_roles.specs.Hosts.{IsFit}

abbrev pub has_address : ℕ → Host → Bool
has_address address host = address == host.address.0

-- the last 64 bits are those of the home-agents anycast addresses. RFC 2526 section 3
abbrev pub is_anycast : ℕ → Bool
is_anycast address = interface_of address == 0xfdff_ffff_ffff_fffe

-- a node on a link, with an address that no node before it has and that is no anycast address
pub record IsPlaced (links : List ℕ) (before : List Host) (host : Host) : Type 0 where
  pub on_link : is_some (link_of links host.address.0) ≡ true
  pub own : list_any (has_address host.address.0) before ≡ false
  pub apart : is_anycast host.address.0 ≡ false
  pub fit : IsFit host

-- few nodes, each after those before it
pub record ArePlaced (links : List ℕ) (hosts : List Host) : Type 0 where
  pub few : length hosts ≤ 32
  pub each : EachAfter (IsPlaced links) [] hosts

-- what the nodes of an engine were declared with
abbrev pub hosts_of : List NodeSeen → List Host
hosts_of nodes = map (λ c. c.host) nodes

-- the anycast address that the next node is to hold, if it is the first agent of its link
abbrev pub anycast_for : List ℕ → List Host → Host → Option Address
anycast_for links before host = if is_first_agent links before host.address host.kind then Some (anycast_at host.address) else None
