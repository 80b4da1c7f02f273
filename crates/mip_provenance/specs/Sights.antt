-- What the entries of a history tell of tokens and updates: each entry as a sight, its packet read and its number looked up.
use Rattle.std.specs.Prelude.{ℕ, List, map, Option, Some, None, option_map}
use Rattle.std.specs.Option.{option_and_then}
use Rattle.mip_packets.specs.Says.{Carried, carried}
use Rattle.mip_packets.specs.Says.Carried.{Test, Update, Other}
use Rattle.mip_entries.specs.declared.entry.Entry.{Entry}
use Rattle.mip_entries.specs.declared.entry.Entry.TheVariants as entries
use Rattle.mip_provenance.specs.Entries.{packet_in}

pub data Sight : Type 0 where
  -- a node sent a packet with this number, which says this
  Sent : (number node : ℕ) (carried : Carried) → Sight
  -- an outsider did
  Injected : (number outsider : ℕ) (carried : Carried) → Sight
  -- an outsider heard a packet: a test with this token, or none
  Heard : (outsider : ℕ) (token : Option (List ℕ)) → Sight
  -- a node was handed one
  Handed : (node : ℕ) (token : Option (List ℕ)) → Sight
  -- a node registered a home, as only agents do
  Agent : (node : ℕ) → Sight
  -- a mobile made the update of the packet with this number from these tokens
  Made : (node number : ℕ) (home : List ℕ) (careof : Option (List ℕ)) → Sight
  -- a node began a new life
  Restarted : (node : ℕ) → Sight
  -- nothing of the kind
  Quiet : Sight

-- the token of a test
abbrev pub token_in : Carried → Option (List ℕ)
token_in (Test kind index token destination) = Some token
token_in (Update key) = None
token_in Other = None

-- the token of packet k, where it is a test
abbrev pub token_at : List Entry → ℕ → Option (List ℕ)
token_at past k = option_and_then (λ bytes. token_in (carried bytes)) (packet_in past k)

-- an entry as a sight, where packet k has this token
abbrev pub sight_with : (ℕ → Option (List ℕ)) → Entry → Sight
sight_with token (entries.Sent number node shielded packet) = Sent number node.0 (carried packet)
sight_with token (entries.Injected number outsider link packet) = Injected number outsider (carried packet)
sight_with token (entries.Heard number outsider) = Heard outsider (token number)
sight_with token (entries.Handed number node) = Handed node.0 (token number)
sight_with token (entries.Home node home careof sequence end) = Agent node.0
sight_with token (entries.Made node peer number home careof) = Made node.0 number home.0 (option_map (λ t. t.0) careof)
sight_with token (entries.Restarted node) = Restarted node.0
sight_with token _ = Quiet

-- an entry of a history as a sight
abbrev pub sight : List Entry → Entry → Sight
sight past entry = sight_with (token_at past) entry

-- the sights of a history, entry by entry
unfoldable pub sights : List Entry → List Sight
sights past = map (sight past) past
