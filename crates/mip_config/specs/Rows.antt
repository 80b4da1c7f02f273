-- The lines of a configuration: what the fields behind the word of each are read as.
use Rattle.std.specs.Prelude.{ℕ, List, if◌then◌else◌, Option, Result, Err, codes}
use Rattle.std.specs.Str.{bytes_eq}
use Rattle.mip_words.specs.declared.address.Address.{Address}
use Rattle.mip_lines.specs.Rows.{row1, row2, row4}
use Rattle.mip_symbols.specs.Kinds as kinds
use Rattle.mip_symbols.specs.Kinds.{or_none}
use Rattle.mip_symbols.specs.declared.reason.Reason.{Reason}
use Rattle.mip_symbols.specs.declared.reason.Reason.TheVariants as reasons
use Rattle.mip_frames.specs.declared.route.Route.{Route}
use Rattle.mip_schedule.specs.DeclarationRows.{u16, room}
use Rattle.mip_config.specs.declared.payload.Payload.{Payload}
use Rattle.mip_config.specs.declared.role.Role.{Role}
use Rattle.mip_config.specs.declared.role.Role.TheVariants.{Agent, Correspondent, Mobile}

-- a port of this host
abbrev pub port : List ℕ → Result ℕ Reason
port field = kinds.number 1 65535 field

-- turns are counted from 1
abbrev pub turn : List ℕ → Result ℕ Reason
turn field = kinds.number 1 1000000 field

-- an agent, or one to be found
abbrev pub some_agent : List ℕ → Result (Option Address) Reason
some_agent field = or_none (codes "find") kinds.address field

unfoldable pub route_row : List (List ℕ) → Result Route Reason
route_row fields = row2 reasons.Form kinds.prefix port (λ prefix port. record { prefix = prefix; port = port }) fields

unfoldable pub default_row : List (List ℕ) → Result ℕ Reason
default_row fields = row1 reasons.Form port (λ port. port) fields

unfoldable pub agent_row : List (List ℕ) → Result Role Reason
agent_row fields = row4 reasons.Form kinds.address u16 u16 room (λ a p l r. Agent a p l r) fields

unfoldable pub correspondent_row : List (List ℕ) → Result Role Reason
correspondent_row fields = row2 reasons.Form kinds.address room (λ a r. Correspondent a r) fields

unfoldable pub mobile_row : List (List ℕ) → Result Role Reason
mobile_row fields = row2 reasons.Form kinds.address some_agent (λ a g. Mobile a g) fields

-- the line of the role, by its word
unfoldable pub role_row : List ℕ → List (List ℕ) → Result Role Reason
role_row word fields =
    if bytes_eq word (codes "agent") then agent_row fields
    else if bytes_eq word (codes "correspondent") then correspondent_row fields
    else if bytes_eq word (codes "mobile") then mobile_row fields
    else Err reasons.Form

unfoldable pub serve_row : List (List ℕ) → Result Address Reason
serve_row fields = row1 reasons.Form kinds.address (λ a. a) fields

unfoldable pub payload_row : List (List ℕ) → Result Payload Reason
payload_row fields = row4 reasons.Form turn kinds.address (kinds.number 0 255) (kinds.bytes 512) (λ t a p b. record { turn = t; to = a; proto = p; payload = b }) fields
