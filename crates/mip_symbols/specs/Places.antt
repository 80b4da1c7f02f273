-- Places: the numbers of links, nodes and outsiders, each counted from 0 in the order of declaration.
use Rattle.std.specs.Prelude.{ℕ, ◌≡◌, ◌<◌, ◌≤◌, List, [], length, Bool, true, false, ◌&&◌, Option, Some, None, slice_get}
use Rattle.std.specs.List.{filter, position, list_any}
use Rattle.std.specs.Str.{bytes_eq}
use Rattle.mip_symbols.specs.Names.{is_name, name_bytes}
use Rattle.mip_symbols.specs.declared.declaration.Declaration.{Declaration}
use Rattle.mip_symbols.specs.declared.declaration.Declaration.TheVariants as declare
use Rattle.mip_symbols.specs.declared.places.Sort.{Sort}
use Rattle.mip_symbols.specs.declared.places.Sort.TheVariants.{Link, Outsider, Node, Agent, Mobile, Host}

abbrev pub is_link : Declaration → Bool
is_link (declare.Link name prefix) = true
is_link _ = false

abbrev pub is_outsider : Declaration → Bool
is_outsider (declare.Outsider name) = true
is_outsider _ = false

abbrev pub is_agent : Declaration → Bool
is_agent (declare.Agent name link address preference life room) = true
is_agent _ = false

abbrev pub is_mobile : Declaration → Bool
is_mobile (declare.Mobile name link address agent) = true
is_mobile _ = false

-- a node that sends data: a correspondent or a mobile
abbrev pub is_host : Declaration → Bool
is_host (declare.Correspondent name link address room) = true
is_host (declare.Mobile name link address agent) = true
is_host _ = false

abbrev pub is_node : Declaration → Bool
is_node (declare.Agent name link address preference life room) = true
is_node (declare.Correspondent name link address room) = true
is_node (declare.Mobile name link address agent) = true
is_node _ = false

-- what is numbered together with this sort
abbrev pub counts : Sort → Declaration → Bool
counts Link d = is_link d
counts Outsider d = is_outsider d
counts Node d = is_node d
counts Agent d = is_node d
counts Mobile d = is_node d
counts Host d = is_node d

-- what is of this sort
abbrev pub fits : Sort → Declaration → Bool
fits Link d = is_link d
fits Outsider d = is_outsider d
fits Node d = is_node d
fits Agent d = is_agent d
fits Mobile d = is_mobile d
fits Host d = is_host d

-- the declaration gives this name
abbrev pub is_named : List ℕ → Declaration → Bool
is_named field (declare.Link name prefix) = bytes_eq (name_bytes name) field
is_named field (declare.Outsider name) = bytes_eq (name_bytes name) field
is_named field (declare.Agent name link address preference life room) = bytes_eq (name_bytes name) field
is_named field (declare.Correspondent name link address room) = bytes_eq (name_bytes name) field
is_named field (declare.Mobile name link address agent) = bytes_eq (name_bytes name) field
is_named field (declare.Serve agent mobile) = false

abbrev pub is_taken : List Declaration → List ℕ → Bool
is_taken ds field = list_any (is_named field) ds

-- what is numbered together with this sort, in order
unfoldable pub members : Sort → List Declaration → List Declaration
members sort ds = filter (counts sort) ds

-- the place of what is of this sort and has this name
unfoldable pub place_of : Sort → List ℕ → List Declaration → Option ℕ
place_of sort field ds = position (λ d. fits sort d && is_named field d) (members sort ds)

-- the name that a declaration gives
abbrev pub declared_name : Declaration → List ℕ
declared_name (declare.Link name prefix) = name_bytes name
declared_name (declare.Agent name link address preference life room) = name_bytes name
declared_name (declare.Correspondent name link address room) = name_bytes name
declared_name (declare.Mobile name link address agent) = name_bytes name
declared_name (declare.Outsider name) = name_bytes name
declared_name (declare.Serve agent mobile) = []

abbrev pub name_text : Option Declaration → List ℕ
name_text (Some d) = declared_name d
name_text None = []

-- the name of what has this place
unfoldable pub name_at : Sort → ℕ → List Declaration → List ℕ
name_at sort place ds = name_text (slice_get (members sort ds) place)

-- no more links, nodes and outsiders than there may be
pub record AreFew (ds : List Declaration) : Type 0 where
  pub links : length (members Link ds) ≤ 32
  pub nodes : length (members Node ds) ≤ 32
  pub outsiders : length (members Outsider ds) ≤ 8

-- the name of a link, a node or an outsider is found at its number, each name is one, and no outsider has a node's name
pub record NamesFound (ds : List Declaration) : Type 0 where
  pub links : (n : ℕ) → n < length (members Link ds) → place_of Link (name_at Link n ds) ds ≡ Some n
  pub nodes : (n : ℕ) → n < length (members Node ds) → place_of Node (name_at Node n ds) ds ≡ Some n
  pub outsiders : (n : ℕ) → n < length (members Outsider ds) → place_of Outsider (name_at Outsider n ds) ds ≡ Some n
  pub apart : (n : ℕ) → n < length (members Outsider ds) → place_of Node (name_at Outsider n ds) ds ≡ None
  pub names : (sort : Sort) (n : ℕ) → n < length (members sort ds) → is_name (name_at sort n ds) ≡ true
