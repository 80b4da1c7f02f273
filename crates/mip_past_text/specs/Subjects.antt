-- What questions are asked about: the homes of a node's bindings and registrations, and the peers that a mobile bound, as its entries name them.
use Rattle.std.specs.Prelude.{ℕ, List, [], ◌∷◌, ◌++◌, Bool, ◌==◌, if◌then◌else◌, Option, Some, None}
use Rattle.std.specs.List.{list_any}
use Rattle.mip_words.specs.declared.address.Address.{Address}
use Rattle.mip_links.specs.Table.{is_address}
use Rattle.mip_entries.specs.declared.entry.Entry.{Entry}
use Rattle.mip_entries.specs.declared.entry.Entry.TheVariants.{Accepted, Home, Bound}
use Rattle.mip_past_text.specs.declared.topic.Topic.{Topic}
use Rattle.mip_past_text.specs.declared.topic.Topic.TheVariants.{Binding, Registration, Peer}

abbrev pub if_by : Bool → Address → Option Address
if_by by address = if by then Some address else None

-- the home of an update that node n accepts
abbrev pub home_accepted : ℕ → Entry → Option Address
home_accepted n (Accepted node number home binding careof sequence end i j) = if_by (n == node.0) home
home_accepted n _ = None

-- the home that agent n registers, or whose registration it ends
abbrev pub home_registered : ℕ → Entry → Option Address
home_registered n (Home node home careof sequence end) = if_by (n == node.0) home
home_registered n _ = None

-- the peer that binds mobile n
abbrev pub peer_bound : ℕ → Entry → Option Address
peer_bound n (Bound node peer end) = if_by (n == node.0) peer
peer_bound n _ = None

-- what an entry names of node n
abbrev pub subject : Topic → ℕ → Entry → Option Address
subject Binding n e = home_accepted n e
subject Registration n e = home_registered n e
subject Peer n e = peer_bound n e

-- an entry of these names this address
unfoldable pub is_named : Topic → ℕ → List Entry → Address → Bool
is_named topic n entries address = list_any (λ e. is_address (subject topic n e) address) entries

-- the text about what an entry names, where no later one names it
abbrev pub last_named : Topic → ℕ → (Address → List ℕ) → Option Address → (later : List Entry) → List ℕ
last_named topic n about None later = []
last_named topic n about (Some address) later = if is_named topic n later address then [] else about address

-- the text about all that entries name, each once, in the order in which they were last named
unfoldable pub about_each : Topic → ℕ → (Address → List ℕ) → List Entry → List ℕ
about_each topic n about [] = []
about_each topic n about (e ∷ later) = last_named topic n about (subject topic n e) later ++ about_each topic n about later
