-- What a contract sees of a network, and what each call makes of it.
use Rattle.std.specs.Prelude.{◌≡◌, ℕ, suc, ◌+◌, ◌*◌, ◌<◌, ◌≤◌, List, [], ◌∷◌, ◌++◌, length, replicate, Bool, true, false, ◌&&◌, ◌==◌, nat_eq, nat_lt, if◌then◌else◌, Option, Some, None, is_some, unwrap_or, slice_index_or, slice_set}
use Rattle.std.specs.Map.{lookup}
use Rattle.indexmap.specs.IndexMap.{insert_entry}
use Rattle.mip_words.specs.declared.address.Address.{Address}
use Rattle.mip_links.specs.declared.claim_fault.ClaimFault.{ClaimFault}
use Rattle.mip_links.specs.declared.claim_fault.ClaimFault.TheVariants.{Taken, NoLink}
use Rattle.mip_words.specs.Holders.{holder_at}
use Rattle.mip_links.specs.Table.{Post, Asked, link_of}

pub record NetSeen : Type 0 where
  -- the prefix of each link
  pub links : List ℕ
  -- each address that was ever reserved or claimed, with its holder or none
  pub rows : List (ℕ × Option ℕ)
  -- the first address that each of the 40 holders claimed
  pub firsts : List (Option Address)
  -- every packet ever posted; its number is its place
  pub posts : List Post
  -- which of them are in the pool
  pub flying : List Bool
  -- for each of 8 outsiders 32 flags: the links that it listens on
  pub hearing : List Bool

-- no flag stands before the first one, which is the length where none stands
pub record IsLow (flags : List Bool) (first : ℕ) : Type 0 where
  pub clear : (i : ℕ) → i < first → slice_index_or flags i false ≡ false
  pub at : first < length flags → slice_index_or flags first false ≡ true
  pub within : first ≤ length flags

pub record IsNet (net : NetSeen) (low : ℕ) : Type 0 where
  pub few : length net.links ≤ 32
  pub holders : length net.firsts ≡ 40
  pub pool : length net.flying ≡ length net.posts
  pub ears : length net.hearing ≡ 256
  pub lowest : IsLow net.flying low

-- nothing is claimed, posted or heard
abbrev pub new_net : List ℕ → NetSeen
new_net links = record {
  links = links;
  rows = [];
  firsts = replicate 40 None;
  posts = [];
  flying = [];
  hearing = replicate 256 false;
}

-- who holds an address: one holder at most
abbrev pub holder_of : List (ℕ × Option ℕ) → ℕ → Option ℕ
holder_of rows address = unwrap_or (lookup (nat_eq address) rows) None

-- the address was reserved or claimed before
abbrev pub has_room : NetSeen → ℕ → Bool
has_room net address = is_some (lookup (nat_eq address) net.rows)

abbrev pub put : List (ℕ × Option ℕ) → ℕ → Option ℕ → List (ℕ × Option ℕ)
put rows address holder = insert_entry nat_eq rows address holder

-- the address that a holder claimed first
abbrev pub declared_of : List (Option Address) → ℕ → Option Address
declared_of firsts by = slice_index_or firsts by None

abbrev pub with_first : List (Option Address) → ℕ → Address → List (Option Address)
with_first firsts by address = if is_some (declared_of firsts by) then firsts else slice_set firsts by (Some address)

abbrev pub asked_of : NetSeen → Asked
asked_of net = record { links = net.links; holder = holder_of net.rows; declared = declared_of net.firsts }

-- the place of the flag of an outsider and a link
abbrev pub spot : ℕ → ℕ → ℕ
spot outsider link = outsider * 32 + link

abbrev pub hears_of : List Bool → ℕ → ℕ → Bool
hears_of hearing outsider link =
    if nat_lt outsider 8 && nat_lt link 32 then slice_index_or hearing (spot outsider link) false else false

-- the first flag that stands, the first of the list counted as number n
abbrev pub first_from : ℕ → List Bool → Option ℕ
first_from n [] = None
first_from n (f ∷ fs) = if f then Some n else first_from (suc n) fs

-- the lowest packet in the pool
abbrev pub lowest_of : List Bool → Option ℕ
lowest_of flying = first_from 0 flying

abbrev pub with_rows : NetSeen → List (ℕ × Option ℕ) → NetSeen
with_rows net rows =
    record { links = net.links; rows = rows; firsts = net.firsts; posts = net.posts; flying = net.flying; hearing = net.hearing }

abbrev pub with_hearing : NetSeen → ℕ → ℕ → Bool → NetSeen
with_hearing net outsider link hears =
    record { links = net.links; rows = net.rows; firsts = net.firsts; posts = net.posts; flying = net.flying; hearing = slice_set net.hearing (spot outsider link) hears }

-- a packet enters the pool, with the next number
abbrev pub posted : NetSeen → Post → NetSeen
posted net post =
    record { links = net.links; rows = net.rows; firsts = net.firsts; posts = net.posts ++ post ∷ []; flying = net.flying ++ true ∷ []; hearing = net.hearing }

-- a packet is in the pool no more
abbrev pub left : NetSeen → ℕ → NetSeen
left net number =
    record { links = net.links; rows = net.rows; firsts = net.firsts; posts = net.posts; flying = slice_set net.flying number false; hearing = net.hearing }

-- a holder has an address, which is its first if it had none
abbrev pub claimed : NetSeen → ℕ → Address → NetSeen
claimed net by address =
    record { links = net.links; rows = put net.rows address.0 (Some by); firsts = with_first net.firsts by address; posts = net.posts; flying = net.flying; hearing = net.hearing }

-- somebody else has the address
abbrev pub taken_by : Option ℕ → ℕ → Option ClaimFault
taken_by None by = None
taken_by (Some other) by = if other == by then None else Some (Taken (holder_at other))

-- why a claim is refused
abbrev pub refusal : NetSeen → ℕ → ℕ → Option ClaimFault
refusal net by address =
    if is_some (link_of net.links address) then taken_by (holder_of net.rows address) by else Some NoLink

abbrev pub is_held_by : Option ℕ → ℕ → Bool
is_held_by None by = false
is_held_by (Some other) by = other == by
