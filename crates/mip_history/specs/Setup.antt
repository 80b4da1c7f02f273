-- What a schedule declares, as its run needs it.
use Rattle.std.specs.Prelude.{ℕ, suc, List, [], ◌∷◌, Bool, true, false, ◌==◌, if◌then◌else◌, Option, Some, None, slice_get}
use Rattle.std.specs.Option.{option_and_then}
use Rattle.mip_words.specs.declared.address.Address.{Address}
use Rattle.mip_words.specs.declared.ids.NodeId.{NodeId}
use Rattle.mip_rules_mobile.specs.Questions as mobiles
use Rattle.mip_schedule.specs.Contents.{Content}
use Rattle.mip_schedule.specs.Versions.{numbers_of_version}
use Rattle.mip_symbols.specs.declared.declaration.Declaration.{Declaration}
use Rattle.mip_symbols.specs.declared.declaration.Declaration.TheVariants as declare

-- what a node is
pub data Kind : Type 0 where
  -- a correspondent, whose binding cache keeps so many homes
  Correspondent : (room : ℕ) → Kind
  -- a home agent: its preference, for how many seconds an advertisement of it lasts, how many homes it registers at most, and
  -- the homes that it serves
  Agent : (preference life room : ℕ) (serves : List Address) → Kind
  -- a mobile: its agent, or none where it is to find one
  Mobile : (agent : Option Address) → Kind

-- a declared node: its address, which is the home address of a mobile
pub record Host : Type 0 where
  pub address : Address
  pub kind : Kind

pub record Setup : Type 0 where
  pub seed : List ℕ
  -- the moment before the first event
  pub start : ℕ
  -- the prefix of each link
  pub links : List ℕ
  -- the nodes, in order of declaration
  pub hosts : List Host
  -- how many outsiders there are
  pub outsiders : ℕ
  -- how many bindings a node has for each home
  pub numbers : ℕ

-- how many homes the binding cache of a node keeps: that of a correspondent, or of the correspondent part of a mobile. An agent
-- has none
abbrev pub part_room : Kind → Option ℕ
part_room (Correspondent room) = Some room
part_room (Agent preference life room serves) = None
part_room (Mobile agent) = Some mobiles.part_room

abbrev pub is_mobile_kind : Kind → Bool
is_mobile_kind (Mobile agent) = true
is_mobile_kind _ = false

abbrev pub is_mobile_host : Option Host → Bool
is_mobile_host None = false
is_mobile_host (Some host) = is_mobile_kind host.kind

-- node n is a mobile
abbrev pub is_mobile_at : Setup → ℕ → Bool
is_mobile_at s n = is_mobile_host (slice_get s.hosts n)

abbrev pub links_in : List Declaration → List ℕ
links_in [] = []
links_in (declare.Link name prefix ∷ ds) = prefix.0 ∷ links_in ds
links_in (_ ∷ ds) = links_in ds

-- the address of each node
abbrev pub addresses_in : List Declaration → List Address
addresses_in [] = []
addresses_in (declare.Correspondent name link address room ∷ ds) = address ∷ addresses_in ds
addresses_in (declare.Agent name link address preference life room ∷ ds) = address ∷ addresses_in ds
addresses_in (declare.Mobile name link address agent ∷ ds) = address ∷ addresses_in ds
addresses_in (_ ∷ ds) = addresses_in ds

abbrev pub with_any : Option Address → List Address → List Address
with_any None addresses = addresses
with_any (Some address) addresses = address ∷ addresses

-- the homes that node n serves, of nodes with these addresses
abbrev pub served_by : List Address → ℕ → List Declaration → List Address
served_by addresses n [] = []
served_by addresses n (declare.Serve agent mobile ∷ ds) =
    if n == agent.0 then with_any (slice_get addresses mobile.0) (served_by addresses n ds) else served_by addresses n ds
served_by addresses n (_ ∷ ds) = served_by addresses n ds

-- the nodes that are declared in a part of a schedule whose nodes have these addresses, the first of the part counted as node n
abbrev pub hosts_from : List Declaration → ℕ → List Declaration → List Host
hosts_from all n [] = []
hosts_from all n (declare.Correspondent name link address room ∷ ds) = record { address = address; kind = Correspondent room } ∷ hosts_from all (suc n) ds
hosts_from all n (declare.Agent name link address preference life room ∷ ds) =
    record { address = address; kind = Agent preference life room (served_by (addresses_in all) n all) } ∷ hosts_from all (suc n) ds
hosts_from all n (declare.Mobile name link address agent ∷ ds) =
    record { address = address; kind = Mobile (option_and_then (λ (g : NodeId). slice_get (addresses_in all) g.0) agent) } ∷ hosts_from all (suc n) ds
hosts_from all n (_ ∷ ds) = hosts_from all n ds

abbrev pub hosts_in : List Declaration → List Host
hosts_in ds = hosts_from ds 0 ds

abbrev pub outsiders_in : List Declaration → ℕ
outsiders_in [] = 0
outsiders_in (declare.Outsider name ∷ ds) = suc (outsiders_in ds)
outsiders_in (_ ∷ ds) = outsiders_in ds

abbrev pub setup_of : Content → Setup
setup_of s = record {
  seed = s.seed;
  start = s.start.0;
  links = links_in s.declarations;
  hosts = hosts_in s.declarations;
  outsiders = outsiders_in s.declarations;
  numbers = numbers_of_version s.version;
}
