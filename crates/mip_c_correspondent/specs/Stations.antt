-- What the calls of a correspondent that C holds tell, and what they make of it.
use Rattle.std.specs.Prelude.{◌≡◌, ℕ, ◌*◌, ◌^◌, List, [], length, slice_get, Bool, true, not, ◌&&◌, nat_lt, option_map}
use Rattle.mip_words.specs.Addresses.{address_bytes}
use Rattle.mip_words.specs.declared.address.Address.{Address}
use Rattle.mip_ipv6.specs.Packet.{names_no_body}
use Rattle.mip_nonce.specs.Secrets.{Life}
use Rattle.mip_bcache.specs.Seen.{rows_at}
use Rattle.mip_rules_correspondent.specs.Calls.{Call}
use Rattle.mip_rules_correspondent.specs.Calls.Call.{Tick}
use Rattle.mip_rules_correspondent.specs.Questions.{fresh, held_of}
use Rattle.mip_rules_correspondent.specs.Rules.{is_data}
use Rattle.mip_rules_correspondent.specs.Seen.{transition_at, called}
use Rattle.mip_rules_correspondent.specs.Steps.{answers_of}
use Rattle.mip_c_correspondent.specs.declared.row_fields.RowFields.{RowFields}
use Rattle.mip_c_correspondent.specs.declared.station.Station.{Station}
use Rattle.mip_c_words.specs.Calls.{Does, TellsIf}
use Rattle.mip_c_words.specs.AnswerQueues.{IsFilled}
use Rattle.mip_c_words.specs.Moments.{is_late}
use Rattle.mip_c_correspondent.specs.Rows.{fields_of as row_fields_of}

-- data that can be sent: of a protocol that carries data, with a body, and short
abbrev pub is_sendable : ℕ → List ℕ → Bool
is_sendable proto payload = is_data proto && not (names_no_body proto) && not (nat_lt 512 (length payload))

-- a call was answered: the node is what the call makes of it, and its answers are those of the call
abbrev pub IsAnswered : Station → Station → ℕ → Call → Type 0
IsAnswered s t now call =
    (t.node ≡ called s.node now call) × IsFilled t.queue (answers_of (transition_at s.node now call).steps)
    × (t.last.0 ≡ now)

abbrev pub Answers : Bool → Station → Station → ℕ → Call → ℕ → Type 0
Answers fit s t now call status = Does (is_late s.last.0 now) fit s t status (IsAnswered s t now call)

-- time goes on: no answer is left
abbrev pub Ticks : Station → Station → ℕ → ℕ → Type 0
Ticks s t now status = Does (is_late s.last.0 now) true s t status
    ((t.node ≡ called s.node now Tick) × IsFilled t.queue [] × (t.last.0 ≡ now))

-- the care-of address that is held for a home is told
abbrev pub TellsRoute : Station → ℕ → Address → ℕ → List ℕ → List ℕ → Type 0
TellsRoute s now peer status old new =
    TellsIf (is_late s.last.0 now) (option_map address_bytes (held_of s.node.known now peer)) status old new

-- the row at a place is told
abbrev pub TellsRow : Station → ℕ → ℕ → ℕ → RowFields → RowFields → Type 0
TellsRow s now place status old new =
    TellsIf (is_late s.last.0 now) (option_map row_fields_of (slice_get (rows_at s.node.known.cache now) place)) status old new

-- a station that begins: a node with this address, these secrets and this room, which was asked for nothing yet
abbrev pub IsFresh : Address → Life → ℕ → ℕ → Station → Type 0
IsFresh own secrets room numbers s =
    (s.node ≡ record { identity = record { own = own; secrets = secrets; room = room }; known = fresh room numbers })
    × (s.last.0 ≡ 0) × IsFilled s.queue []

-- numbers of bindings and of homes that a node can have
abbrev pub has_room : ℕ → ℕ → Bool
has_room room numbers = not (nat_lt numbers 1) && not (nat_lt 8 numbers) && nat_lt (room * numbers) (2 ^ 32)
