-- What is asked at a place of any history, over the entries before it.
use Rattle.std.specs.Prelude.{ℕ, ◌+◌, ◌%◌, List, fold, Bool, not, ◌&&◌, ◌==◌, if◌then◌else◌, Option, Some, None, option_map, is_some}
use Rattle.mip_words.specs.declared.address.Address.{Address}
use Rattle.mip_words.specs.declared.moment.Moment.{Moment}
use Rattle.mip_binding.specs.Held.{held, held_under, holds, floor}
use Rattle.mip_entries.specs.declared.entry.Entry.{Entry}
use Rattle.mip_entries.specs.declared.entry.Entry.TheVariants as entries
use Rattle.mip_rules_agent.specs.Questions.{if_standing}
use Rattle.mip_rules_mobile.specs.declared.attachment.Attachment.{Attachment}
use Rattle.mip_rules_mobile.specs.declared.attachment.Attachment.TheVariants.{Detached, AtHome, Away}
use Rattle.mip_rules_mobile.specs.HomeQuestions.{standing_at}
use Rattle.mip_history.specs.Questions.{moment_in, holder_in, declared_in}
use Rattle.mip_history.specs.ClaimsLaws.{is_free_for}
use Rattle.mip_history.specs.Bound.{accepted_by}
use Rattle.mip_history.specs.Registered.{last_registration}
use Rattle.mip_history.specs.Told.{present_in, agent_in, is_bound_in, careof_in}
use Rattle.mip_history.specs.Settled.{any_node}
use Rattle.mip_past.specs.declared.past.Past.{Past}
use Rattle.mip_past.specs.Registering.{agent_of_told}

-- the address that a node with this own address uses; none where it has none
abbrev pub present_from : List Entry → ℕ → Option Address → Option Address
present_from past n None = None
present_from past n (Some own) = present_in past n own

-- the address that a node uses, whose own address is the first that it claimed
abbrev pub present_told : List Entry → ℕ → Option Address
present_told past n = present_from past n (declared_in past n)

-- where a node with this own address stands by the address that it uses: at home, away, or between two links. RFC 6275 section 11.5
abbrev pub standing_by : (own : Address) → (present : Option Address) → Attachment
standing_by own None = Detached
standing_by own (Some address) = standing_at own address

abbrev pub standing_from : List Entry → ℕ → Option Address → Attachment
standing_from past n None = Detached
standing_from past n (Some own) = standing_by own (present_in past n own)

-- where a node stands, whose own address is the first that it claimed
abbrev pub standing_told : List Entry → ℕ → Attachment
standing_told past n = standing_from past n (declared_in past n)

-- the address that node n releases as it leaves a link: away, its care-of address; at home, its own where nobody else holds that.
-- RFC 6275 section 11.5.1
abbrev pub leaves_by : (n : ℕ) → List Entry → (own : Address) → Attachment → Option Address
leaves_by n past own Detached = None
leaves_by n past own AtHome = if is_free_for (holder_in past own.0) n then Some own else None
leaves_by n past own (Away careof) = Some careof

abbrev pub leaves_from : List Entry → ℕ → Option Address → Option Address
leaves_from past n None = None
leaves_from past n (Some own) = leaves_by n past own (standing_by own (present_in past n own))

abbrev pub leaves_told : List Entry → ℕ → Option Address
leaves_told past n = leaves_from past n (declared_in past n)

-- one place more where node n comes to an address other than its own; a restart begins anew. Places are counted modulo the numbers
-- that its bindings may have
abbrev pub place_told : (numbers n : ℕ) → (own : Address) → (places : ℕ) → Entry → ℕ
place_told numbers n own places (entries.Careof node address) = if (n == node.0) && not (address.0 == own.0) then (places + 1) % numbers else places
place_told numbers n own places (entries.Restarted node) = if n == node.0 then 0 else places
place_told numbers n own places _ = places

abbrev pub places_from : (numbers : ℕ) → List Entry → ℕ → Option Address → ℕ
places_from numbers past n None = 0
places_from numbers past n (Some own) = fold (place_told numbers n own) 0 past

-- the number of a binding that mobile n asks for: each place has the next one, and behind the last comes 0 again
abbrev pub binding_number_told : (numbers : ℕ) → List Entry → ℕ → ℕ
binding_number_told numbers past n = places_from numbers past n (declared_in past n)

-- the end of a home's registration at an agent, while that lies ahead. RFC 6275 section 10.3.1
abbrev pub registered_until_in : (now : ℕ) → List Entry → (agent : ℕ) → (home : Address) → Option Moment
registered_until_in now past agent home = option_map (λ b. b.end) (if_standing home now (last_registration past agent home))

-- some node has a home registered
abbrev pub is_registered_in : (now : ℕ) → List Entry → (home : Address) → Bool
is_registered_in now past home = any_node (λ g. is_some (careof_in now past g home))

abbrev pub moment_at : Past → ℕ
moment_at p = moment_in p.start.0 p.entries.now

abbrev pub holder_at : Past → (address : ℕ) → Option ℕ
holder_at p address = holder_in p.entries.now address

abbrev pub own_at : Past → ℕ → Option Address
own_at p by = declared_in p.entries.now by

-- what node n holds for a home at a moment
abbrev pub held_then : Past → (n home now : ℕ) → Option ℕ
held_then p n home now = held (accepted_by p.start.0 p.entries.now n) home now

abbrev pub held_at : Past → (n home : ℕ) → Option ℕ
held_at p n home = held_then p n home (moment_at p)

abbrev pub held_under_at : Past → (n home number : ℕ) → Option ℕ
held_under_at p n home number = held_under (accepted_by p.start.0 p.entries.now n) home number (moment_at p)

-- it holds the home with this care-of address, under some number
abbrev pub holds_at : Past → (n home careof : ℕ) → Bool
holds_at p n home careof = holds (accepted_by p.start.0 p.entries.now n) home (moment_at p) careof

abbrev pub floor_at : Past → (n home : ℕ) → Option ℕ
floor_at p n home = floor (accepted_by p.start.0 p.entries.now n) home (moment_at p)

abbrev pub registered_careof_at : Past → (g : ℕ) → (home : Address) → Option Address
registered_careof_at p g home = careof_in (moment_at p) p.entries.now g home

abbrev pub registered_sequence_at : Past → (g : ℕ) → (home : Address) → Option ℕ
registered_sequence_at p g home = option_map (λ b. b.sequence) (last_registration p.entries.now g home)

abbrev pub is_registered_at : Past → (home : Address) → Bool
is_registered_at p home = is_registered_in (moment_at p) p.entries.now home

abbrev pub present_at : Past → ℕ → Option Address
present_at p n = present_told p.entries.now n

abbrev pub standing_of_node : Past → ℕ → Attachment
standing_of_node p n = standing_told p.entries.now n

abbrev pub registered_until_at : Past → (g : ℕ) → (home : Address) → Option Moment
registered_until_at p g home = registered_until_in (moment_at p) p.entries.now g home

abbrev pub agent_at : Past → ℕ → Option Address
agent_at p n = agent_in (moment_at p) p.entries.now n

abbrev pub is_bound_at : Past → ℕ → (peer : Address) → Bool
is_bound_at p n peer = is_bound_in (moment_at p) p.entries.now n peer

abbrev pub leaves_at : Past → ℕ → Option Address
leaves_at p n = leaves_told p.entries.now n

abbrev pub binding_number_at : Past → (n numbers : ℕ) → ℕ
binding_number_at p n numbers = binding_number_told numbers p.entries.now n

abbrev pub agent_of_at : Past → ℕ → Option Address
agent_of_at p n = agent_of_told (moment_at p) p.entries.now n
