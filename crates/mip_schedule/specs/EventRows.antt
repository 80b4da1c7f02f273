-- The lines of events: what each reads.
use Rattle.std.specs.Prelude.{ℕ, List, [], ◌∷◌, Bool, true, false, if◌then◌else◌, Result, Err, codes}
use Rattle.std.specs.Str.{bytes_eq}
use Rattle.mip_words.specs.declared.address.Address.{Address}
use Rattle.mip_lines.specs.Rows.{row1, row2, row3, row4, row6, row10, row11}
use Rattle.mip_schedule.specs.DeclarationRows.{u16}
use Rattle.mip_symbols.specs.Kinds as kinds
use Rattle.mip_symbols.specs.declared.declaration.Declaration.{Declaration}
use Rattle.mip_schedule.specs.declared.update_ends.UpdateEnds.{UpdateEnds}
use Rattle.mip_schedule.specs.declared.event.Event.{Event}
use Rattle.mip_schedule.specs.declared.event.Event.TheVariants as events
use Rattle.mip_symbols.specs.declared.places.Sort.TheVariants as sorts
use Rattle.mip_symbols.specs.declared.reason.Reason.{Reason}
use Rattle.mip_symbols.specs.declared.reason.Reason.TheVariants as reasons

abbrev pub u32 : List ℕ → Result ℕ Reason
u32 field = kinds.number 0 4294967295 field

-- a binding number
abbrev pub binding_number : List ℕ → Result ℕ Reason
binding_number field = kinds.number 0 7 field

-- the ends of an update
abbrev pub update_ends : Address → Address → Address → Address → UpdateEnds
update_ends source peer home careof = record { source = source; peer = peer; home = home; careof = careof }

unfoldable pub wait_row : List Declaration → List (List ℕ) → Result Event Reason
wait_row ds fields = row1 reasons.Form (kinds.number 1 600000) (λ a. events.Wait a) fields

unfoldable pub move_row : List Declaration → List (List ℕ) → Result Event Reason
move_row ds fields = row2 reasons.Form (kinds.node sorts.Mobile ds) (kinds.some_link ds) (λ a b. events.Move a b) fields

unfoldable pub advertise_row : List Declaration → List (List ℕ) → Result Event Reason
advertise_row ds fields = row1 reasons.Form (kinds.link ds) (λ a. events.Advertise a) fields

unfoldable pub data_row : List Declaration → List (List ℕ) → Result Event Reason
data_row ds fields = row4 reasons.Form (kinds.node sorts.Host ds) kinds.address (kinds.number 0 255) (kinds.bytes 512) (λ a b c d. events.Payload a b c d) fields

unfoldable pub inject_row : List Declaration → List (List ℕ) → Result Event Reason
inject_row ds fields = row3 reasons.Form (kinds.outsider ds) (kinds.link ds) (kinds.bytes 2048) (λ a b c. events.Inject a b c) fields

unfoldable pub probe_row : List Declaration → List (List ℕ) → Result Event Reason
probe_row ds fields = row6 reasons.Form (kinds.outsider ds) (kinds.link ds) kinds.careof kinds.address kinds.address kinds.cookie (λ a b c d e f. events.Probe a b c d e f) fields

unfoldable pub plain_bind_row : List Declaration → List (List ℕ) → Result Event Reason
plain_bind_row ds fields = row10 reasons.Form (kinds.outsider ds) (kinds.link ds) kinds.address kinds.address kinds.address kinds.address u16 u16 u32 kinds.some_packet (λ a b c d e f g h i j. events.Bind a b (update_ends c d e f) g h i j 0) fields

unfoldable pub numbered_bind_row : List Declaration → List (List ℕ) → Result Event Reason
numbered_bind_row ds fields =
    row11 reasons.Form (kinds.outsider ds) (kinds.link ds) kinds.address kinds.address kinds.address kinds.address u16 u16 u32 kinds.some_packet binding_number (λ a b c d e f g h i j k. events.Bind a b (update_ends c d e f) g h i j k) fields

-- an update, which names its binding number or does not
abbrev pub bind_row : Bool → List Declaration → List (List ℕ) → Result Event Reason
bind_row true ds fields = numbered_bind_row ds fields
bind_row false ds fields = plain_bind_row ds fields

unfoldable pub tell_row : List Declaration → List (List ℕ) → Result Event Reason
tell_row ds fields = row4 reasons.Form (kinds.outsider ds) (kinds.link ds) u32 u32 (λ a b c d. events.Tell a b c d) fields

unfoldable pub listen_row : List Declaration → List (List ℕ) → Result Event Reason
listen_row ds fields = row2 reasons.Form (kinds.outsider ds) (kinds.link ds) (λ a b. events.Listen a b) fields

unfoldable pub deaf_row : List Declaration → List (List ℕ) → Result Event Reason
deaf_row ds fields = row2 reasons.Form (kinds.outsider ds) (kinds.link ds) (λ a b. events.Deaf a b) fields

unfoldable pub squat_row : List Declaration → List (List ℕ) → Result Event Reason
squat_row ds fields = row2 reasons.Form (kinds.outsider ds) kinds.address (λ a b. events.Squat a b) fields

unfoldable pub yield_row : List Declaration → List (List ℕ) → Result Event Reason
yield_row ds fields = row2 reasons.Form (kinds.outsider ds) kinds.address (λ a b. events.Yield a b) fields

unfoldable pub deliver_row : List Declaration → List (List ℕ) → Result Event Reason
deliver_row ds fields = row1 reasons.Form u32 (λ a. events.Deliver a) fields

unfoldable pub repeat_row : List Declaration → List (List ℕ) → Result Event Reason
repeat_row ds fields = row1 reasons.Form u32 (λ a. events.Repeat a) fields

unfoldable pub lose_row : List Declaration → List (List ℕ) → Result Event Reason
lose_row ds fields = row1 reasons.Form u32 (λ a. events.Lose a) fields

unfoldable pub carry_row : List Declaration → List (List ℕ) → Result Event Reason
carry_row ds fields = row1 reasons.Form (kinds.number 1 1000) (λ a. events.Carry a) fields

unfoldable pub restart_row : List Declaration → List (List ℕ) → Result Event Reason
restart_row ds fields = row1 reasons.Form (kinds.node sorts.Node ds) (λ a. events.Restart a) fields

unfoldable pub refresh_row : List Declaration → List (List ℕ) → Result Event Reason
refresh_row ds fields = row2 reasons.Form (kinds.node sorts.Host ds) kinds.address (λ a b. events.Refresh a b) fields

unfoldable pub plan_row : List Declaration → List (List ℕ) → Result Event Reason
plan_row ds fields = row3 reasons.Form (kinds.node sorts.Agent ds) u32 u32 (λ a b c. events.Plan a b c) fields

unfoldable pub ask_row : List Declaration → List (List ℕ) → Result Event Reason
ask_row ds fields = row1 reasons.Form (kinds.node sorts.Mobile ds) (λ a. events.Ask a) fields

unfoldable pub show_row : List Declaration → List (List ℕ) → Result Event Reason
show_row ds fields = row1 reasons.Form (kinds.node sorts.Node ds) (λ a. events.Show a) fields

unfoldable pub settle_row : List Declaration → List (List ℕ) → Result Event Reason
settle_row ds fields = row2 reasons.Form (kinds.node sorts.Host ds) (kinds.node sorts.Host ds) (λ a b. events.Settle a b) fields

-- a line of what nodes do
unfoldable pub node_fields : List Declaration → List ℕ → List (List ℕ) → Result Event Reason
node_fields ds word fields =
    if bytes_eq word (codes "move") then move_row ds fields
    else if bytes_eq word (codes "data") then data_row ds fields
    else if bytes_eq word (codes "restart") then restart_row ds fields
    else if bytes_eq word (codes "refresh") then refresh_row ds fields
    else if bytes_eq word (codes "plan") then plan_row ds fields
    else if bytes_eq word (codes "ask") then ask_row ds fields
    else if bytes_eq word (codes "show") then show_row ds fields
    else if bytes_eq word (codes "settle") then settle_row ds fields
    else Err reasons.Form

-- a line of what becomes of packets
unfoldable pub packet_fields : List Declaration → List ℕ → List (List ℕ) → Result Event Reason
packet_fields ds word fields =
    if bytes_eq word (codes "deliver") then deliver_row ds fields
    else if bytes_eq word (codes "repeat") then repeat_row ds fields
    else if bytes_eq word (codes "lose") then lose_row ds fields
    else if bytes_eq word (codes "carry") then carry_row ds fields
    else node_fields ds word fields

-- a line of what outsiders do; updates name their binding numbers, or do not
unfoldable pub outsider_fields : Bool → List Declaration → List ℕ → List (List ℕ) → Result Event Reason
outsider_fields numbered ds word fields =
    if bytes_eq word (codes "inject") then inject_row ds fields
    else if bytes_eq word (codes "probe") then probe_row ds fields
    else if bytes_eq word (codes "bind") then bind_row numbered ds fields
    else if bytes_eq word (codes "tell") then tell_row ds fields
    else if bytes_eq word (codes "listen") then listen_row ds fields
    else if bytes_eq word (codes "deaf") then deaf_row ds fields
    else if bytes_eq word (codes "squat") then squat_row ds fields
    else if bytes_eq word (codes "yield") then yield_row ds fields
    else packet_fields ds word fields

-- a line of events by its first field
unfoldable pub event_fields : Bool → List Declaration → List (List ℕ) → Result Event Reason
event_fields numbered ds [] = Err reasons.Form
event_fields numbered ds (word ∷ fields) =
    if bytes_eq word (codes "wait") then wait_row ds fields
    else if bytes_eq word (codes "advertise") then advertise_row ds fields
    else outsider_fields numbered ds word fields
