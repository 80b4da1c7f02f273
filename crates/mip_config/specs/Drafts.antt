-- The lines of a configuration one after another: `route` lines, at most one `default`, the line of the role, `serve` lines of an
-- agent, and `payload` lines of another node.
use Rattle.std.specs.Prelude.{ℕ, ◌==◌, nat_le, List, [], ◌∷◌, ◌++◌, length, Bool, true, false, if◌then◌else◌, Option, Some, None, Result, Ok, Err, codes}
use Rattle.std.specs.List.{list_any}
use Rattle.std.specs.Str.{bytes_eq}
use Rattle.mip_words.specs.Steps.{◌>>=◌}
use Rattle.mip_words.specs.declared.address.Address.{Address}
use Rattle.mip_symbols.specs.declared.reason.Reason.{Reason}
use Rattle.mip_symbols.specs.declared.reason.Reason.TheVariants as reasons
use Rattle.mip_schedule.specs.DeclarationTimes.{interface_of}
use Rattle.mip_schedule.specs.EventTimes.{is_reserved}
use Rattle.mip_config.specs.Facts.{address_of}
use Rattle.mip_config.specs.Rows.{route_row, default_row, role_row, serve_row, payload_row}
use Rattle.mip_config.specs.declared.config_draft.ConfigDraft.{ConfigDraft}
use Rattle.mip_config.specs.declared.payload.Payload.{Payload}
use Rattle.mip_config.specs.declared.role.Role.{Role}
use Rattle.mip_config.specs.declared.role.Role.TheVariants.{Agent, Correspondent, Mobile}

abbrev pub nothing : ConfigDraft
nothing = record { routes = []; fallback = None; role = None; serves = []; payloads = [] }

-- neither the default nor the role stands before: lines of routes may come
abbrev pub is_open : Option ℕ → Option Role → Bool
is_open None None = true
is_open fallback role = false

-- the role stands before, and is that of an agent
abbrev pub is_agent : Option Role → Bool
is_agent (Some (Agent address preference life room)) = true
is_agent _ = false

-- the role stands before, and is another
abbrev pub is_host : Option Role → Bool
is_host (Some (Correspondent address room)) = true
is_host (Some (Mobile address agent)) = true
is_host _ = false

abbrev pub is_undecided : Option Role → Bool
is_undecided None = true
is_undecided (Some role) = false

abbrev pub refuse : {A : Type 0} → Bool → Reason → A → Result A Reason
refuse cause why x = if cause then Err why else Ok x

unfoldable pub route_onto : ConfigDraft → List (List ℕ) → Result ConfigDraft Reason
route_onto d fields =
    if is_open d.fallback d.role then
    (route_row fields >>= (λ route. refuse (nat_le 64 (length d.routes)) reasons.Limit (record d { routes = d.routes ++ route ∷ [] })))
    else Err reasons.Form

unfoldable pub default_onto : ConfigDraft → List (List ℕ) → Result ConfigDraft Reason
default_onto d fields =
    if is_open d.fallback d.role then (default_row fields >>= (λ port. Ok (record d { fallback = Some port })))
    else Err reasons.Form

-- the last 64 bits are those of the home-agents anycast addresses. RFC 2526 section 3
abbrev pub is_anycast : Address → Bool
is_anycast a = interface_of a.0 == 0xfdff_ffff_ffff_fffe

unfoldable pub role_onto : ConfigDraft → List ℕ → List (List ℕ) → Result ConfigDraft Reason
role_onto d word fields =
    if is_undecided d.role then
    (role_row word fields >>= (λ role. refuse (is_anycast (address_of role)) reasons.Clash (record d { role = Some role })))
    else Err reasons.Form

abbrev pub is_same : Address → Address → Bool
is_same a b = b.0 == a.0

-- a home among those that are served
abbrev pub serve_judged : ConfigDraft → Address → Result ConfigDraft Reason
serve_judged d home =
    if nat_le 8 (length d.serves) then Err reasons.Limit
    else refuse (list_any (is_same home) d.serves) reasons.Clash (record d { serves = d.serves ++ home ∷ [] })

unfoldable pub serve_onto : ConfigDraft → List (List ℕ) → Result ConfigDraft Reason
serve_onto d fields =
    if is_agent d.role then (serve_row fields >>= serve_judged d)
    else Err reasons.Form

abbrev pub payload_judged : ConfigDraft → Payload → Result ConfigDraft Reason
payload_judged d payload =
    if nat_le 1000 (length d.payloads) then Err reasons.Limit
    else refuse (is_reserved payload.proto) reasons.Number (record d { payloads = d.payloads ++ payload ∷ [] })

unfoldable pub payload_onto : ConfigDraft → List (List ℕ) → Result ConfigDraft Reason
payload_onto d fields =
    if is_host d.role then (payload_row fields >>= payload_judged d)
    else Err reasons.Form

-- one line more, by its word
unfoldable pub line_onto : ConfigDraft → List (List ℕ) → Result ConfigDraft Reason
line_onto d [] = Err reasons.Form
line_onto d (word ∷ fields) =
    if bytes_eq word (codes "route") then route_onto d fields
    else if bytes_eq word (codes "default") then default_onto d fields
    else if bytes_eq word (codes "serve") then serve_onto d fields
    else if bytes_eq word (codes "payload") then payload_onto d fields
    else role_onto d word fields
