-- The sights of a history that goes on: each entry with those before it.
use Rattle.std.specs.Prelude.{ℕ, List, [], Bool, true, false, Option, Some, None, option_map}
use Rattle.std.specs.Option.{option_and_then}
use Rattle.mip_packets.specs.Says.{carried, carried_of}
use Rattle.mip_entries.specs.declared.entry.Entry.{Entry}
use Rattle.mip_entries.specs.declared.entry.Entry.TheVariants as entries
use Rattle.mip_provenance.specs.Lists.{along}
use Rattle.mip_provenance.specs.Sights.{Sight, token_in, sight_with, sight}
use Rattle.mip_provenance.specs.Sights.Sight.{Sent, Injected, Heard, Handed, Agent, Made, Restarted, Quiet}
use Rattle.mip_provenance_index.specs.declared.sight.Sight.{Sight as Seen}
use Rattle.mip_provenance_index.specs.declared.sight.Sight.TheVariants as seen

-- a sight, without how it lies in memory
abbrev pub sight_of : Seen → Sight
sight_of (seen.Sent number node carried) = Sent number node.0 (carried_of carried)
sight_of (seen.Injected number outsider carried) = Injected number outsider (carried_of carried)
sight_of (seen.Heard outsider token) = Heard outsider (option_map (λ t. t.0) token)
sight_of (seen.Handed node token) = Handed node.0 (option_map (λ t. t.0) token)
sight_of (seen.Agent node) = Agent node.0
sight_of (seen.Made node number home careof) = Made node.0 number home.0 (option_map (λ t. t.0) careof)
sight_of (seen.Restarted node) = Restarted node.0
sight_of seen.Quiet = Quiet

-- the token of a packet, where there is one and it is a test
abbrev pub token_of : Option (List ℕ) → Option (List ℕ)
token_of packet = option_and_then (λ bytes. token_in (carried bytes)) packet

-- the token of the packet that an entry posts
abbrev pub token_posted : Entry → Option (List ℕ)
token_posted (entries.Sent number node shielded packet) = token_in (carried packet)
token_posted (entries.Injected number outsider link packet) = token_in (carried packet)
token_posted _ = None

abbrev pub token_sighted : Sight → Option (List ℕ)
token_sighted (Sent number node c) = token_in c
token_sighted (Injected number outsider c) = token_in c
token_sighted _ = None

-- an entry as a sight, where the packet that was heard has this token; no mark asks what was handed over
abbrev pub glimpse : Option (List ℕ) → Entry → Sight
glimpse token (entries.Handed number node) = Handed node.0 None
glimpse token entry = sight_with (λ k. token) entry

-- an entry that tells nothing of tokens, updates, agents, lives or addresses
abbrev pub is_mute : Entry → Bool
is_mute (entries.Sent number node shielded packet) = false
is_mute (entries.Injected number outsider link packet) = false
is_mute (entries.Heard number outsider) = false
is_mute (entries.Home node home careof sequence end) = false
is_mute (entries.Made node peer number home careof) = false
is_mute (entries.Restarted node) = false
is_mute (entries.Claimed who link address) = false
is_mute _ = true

abbrev pub seen_behind : List Entry → Entry → Option Sight
seen_behind front entry = Some (sight front entry)

-- the sights of a history, each packet looked up among the entries before
unfoldable pub seen_in : List Entry → List Sight
seen_in past = along seen_behind [] past
