-- Who named each token first, and whether somebody named it otherwise.
use Rattle.std.specs.Prelude.{ℕ, List, Bool, true, false, not, ◌||◌, if◌then◌else◌, Option, Some, None, option_map}
use Rattle.std.specs.Str.{bytes_eq}
use Rattle.std.specs.Ordering.{nat_cmp}
use Rattle.std.specs.BTreeMap.{get}
use Rattle.mip_provenance.specs.Names.{Name, Naming, same_name}
use Rattle.mip_provenance.specs.Seen.{name_of}
pub use Rattle.mip_provenance.specs.KnownNodes.{naming_known}
use Rattle.mip_provenance_index.specs.declared.names.Names.{Names}
use Rattle.mip_provenance_index.specs.declared.named.Named.{Named}
use Rattle.mip_provenance_index.specs.Tokens.{token_number, is_spelled}

-- the first packet that named a token, the name, and whether another packet named it otherwise
pub record Kept : Type 0 where
  pub number : ℕ
  pub name : Name
  pub otherwise : Bool

abbrev pub kept_of : Named → Kept
kept_of n = record { number = n.number; name = name_of n.name; otherwise = n.otherwise }

abbrev pub named_at : Names → List ℕ → Option Named
named_at a token = if is_spelled token then get nat_cmp a.map (token_number token) else None

abbrev pub kept_at : Names → List ℕ → Option Kept
kept_at a token = option_map kept_of (named_at a token)

-- what is kept of a token that a packet names
abbrev pub renamed : Naming → Option Kept → Kept
renamed n None = record { number = n.number; name = n.name; otherwise = false }
renamed n (Some k) = record { number = k.number; name = k.name; otherwise = k.otherwise || not (same_name n.name k.name) }

-- what is kept of a token after one more packet
abbrev pub kept_step : List ℕ → Option Naming → Option Kept → Option Kept
kept_step token None kept = kept
kept_step token (Some n) kept = if bytes_eq n.token token then Some (renamed n kept) else kept

-- the token was named otherwise
abbrev pub is_otherwise : Name → Option Kept → Bool
is_otherwise name None = false
is_otherwise name (Some k) = if same_name k.name name then k.otherwise else true

-- the first packet that named it; 0 where none did
abbrev pub number_kept : Option Kept → ℕ
number_kept None = 0
number_kept (Some k) = k.number
