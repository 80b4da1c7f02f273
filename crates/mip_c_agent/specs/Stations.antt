-- What the calls of a home agent that C holds tell, and what they make of it.
use Rattle.std.specs.Prelude.{◌≡◌, ℕ, List, [], slice_get, Bool, true, false, option_map}
use Rattle.mip_words.specs.Addresses.{address_bytes}
use Rattle.mip_words.specs.declared.address.Address.{Address}
use Rattle.mip_entries.specs.declared.answer.Answer.{Answer}
use Rattle.mip_rules_agent.specs.declared.identity.Identity.{Identity}
use Rattle.mip_rules_agent.specs.Calls.{Call}
use Rattle.mip_rules_agent.specs.Questions.{fresh, careof_at, rows_at}
use Rattle.mip_rules_agent.specs.Seen.{transition_at, called}
use Rattle.mip_rules_agent.specs.Steps.{answers_of}
use Rattle.mip_c_words.specs.Calls.{Does, TellsIf}
use Rattle.mip_c_words.specs.AnswerQueues.{IsFilled}
use Rattle.mip_c_words.specs.Moments.{is_late}
use Rattle.mip_c_agent.specs.declared.registration_fields.RegistrationFields.{RegistrationFields}
use Rattle.mip_c_agent.specs.declared.station.Station.{Station}
use Rattle.mip_c_agent.specs.Registrations.{fields_of as registration_fields_of}

-- a call was answered: the agent is what the call makes of it, and these are its answers
abbrev pub IsAnswered : Station → Station → ℕ → Call → List Answer → Type 0
IsAnswered s t now call answers =
    (t.node ≡ called s.node now call) × IsFilled t.queue answers × (t.last.0 ≡ now)

-- with the answers of the call
abbrev pub Answers : Bool → Station → Station → ℕ → Call → ℕ → Type 0
Answers fit s t now call status =
    Does (is_late s.last.0 now) fit s t status (IsAnswered s t now call (answers_of (transition_at s.node now call).steps))

-- with no answer
abbrev pub Hears : Station → Station → ℕ → Call → ℕ → Type 0
Hears s t now call status = Does (is_late s.last.0 now) true s t status (IsAnswered s t now call [])

-- the care-of address that is registered for a home is told
abbrev pub TellsCareof : Station → ℕ → Address → ℕ → List ℕ → List ℕ → Type 0
TellsCareof s now home status old new =
    TellsIf (is_late s.last.0 now) (option_map address_bytes (careof_at s.node.known now home)) status old new

-- the registered home at a place is told
abbrev pub TellsRow : Station → ℕ → ℕ → ℕ → RegistrationFields → RegistrationFields → Type 0
TellsRow s now place status old new =
    TellsIf (is_late s.last.0 now) (option_map registration_fields_of (slice_get (rows_at now s.node.known.homes) place)) status old new

-- the moment of the first end of a registration is told
abbrev pub TellsDue : Station → ℕ → ℕ → ℕ → Type 0
TellsDue s status old new = TellsIf false (option_map (λ e. e.end.0) (slice_get s.node.known.ends 0)) status old new

-- a station that begins: an agent of this identity, which serves these homes and was asked for nothing yet
abbrev pub IsFresh : Identity → List Address → Station → Type 0
IsFresh identity serves s =
    (s.node ≡ record { identity = identity; known = fresh serves }) × (s.last.0 ≡ 0) × IsFilled s.queue []
