-- A line of more fields than any line has is no line.
use Rattle.std.proofs.Common.{◌≡◌, ℕ, ◌<◌, List, [], ◌∷◌, length, Bool, true, false, refl, ap, arith}
use Rattle.std.specs.Prelude.{Result, Err, codes}
use Rattle.std.specs.Str.{bytes_eq}
use Rattle.std.proofs.lemmas.Bool.{cond_both}
use Rattle.mip_words.specs.Steps.{◌>>=◌}
use Rattle.mip_lines.proofs.LongRows.{row1-long, row2-long, row3-long, row4-long, row6-long, row10-long, row11-long}
use Rattle.mip_schedule.specs.DeclarationRows.{u16, room, link_row, agent_row, correspondent_row, mobile_row, serve_row, outsider_row, node_fields, declaration_fields}
use Rattle.mip_schedule.specs.DeclarationTimes.{undeclared, judged, declaration_line}
use Rattle.mip_schedule.specs.Declarings.{next_of}
use Rattle.mip_schedule.specs.EventRows as events_rows
use Rattle.mip_schedule.specs.EventRows.{u32, binding_number, update_ends, wait_row, move_row, advertise_row, data_row, inject_row, probe_row, plain_bind_row, numbered_bind_row, bind_row, tell_row, listen_row, deaf_row, squat_row, yield_row, deliver_row, repeat_row, lose_row, carry_row, restart_row, refresh_row, plan_row, ask_row, show_row, settle_row, packet_fields, outsider_fields, event_fields}
use Rattle.mip_schedule.specs.EventTimes.{untimely, timed_line}
use Rattle.mip_symbols.specs.Kinds as kinds
use Rattle.mip_schedule.specs.Reading.{bad_form, headed, is_run}
use Rattle.mip_symbols.specs.declared.declaration.Declaration.{Declaration}
use Rattle.mip_symbols.specs.declared.declaration.Declaration.TheVariants as declare
use Rattle.mip_schedule.specs.declared.event.Event.{Event}
use Rattle.mip_schedule.specs.declared.event.Event.TheVariants as events
use Rattle.mip_symbols.specs.declared.places.Sort.TheVariants as sorts
use Rattle.mip_symbols.specs.declared.reason.Reason.{Reason}
use Rattle.mip_symbols.specs.declared.reason.Reason.TheVariants as reasons

-- declarations
long_node : (ds : List Declaration) (word : List ℕ) (fields : List (List ℕ)) → 11 < length fields → node_fields ds word fields ≡ Err reasons.Form
unfolding node_fields agent_row correspondent_row mobile_row
long_node ds word fields long =
    let P : Result Declaration Reason → Type 0 = λ r. r ≡ Err reasons.Form in
    cond_both (bytes_eq word (codes "agent")) _ _ P (λ _. row6-long reasons.Form (kinds.new_name ds) (kinds.link ds) kinds.address u16 u16 room (λ n l a p t r. declare.Agent n l a p t r) fields (omega arith)) (λ _.
    cond_both (bytes_eq word (codes "correspondent")) _ _ P (λ _. row4-long reasons.Form (kinds.new_name ds) (kinds.link ds) kinds.address room (λ n l a r. declare.Correspondent n l a r) fields (omega arith)) (λ _.
    cond_both (bytes_eq word (codes "mobile")) _ _ P (λ _. row4-long reasons.Form (kinds.new_name ds) (kinds.link ds) kinds.address (kinds.some_agent ds) (λ n l a g. declare.Mobile n l a g) fields (omega arith)) (λ _.
    refl)))

long_declaration_fields : (ds : List Declaration) (row : List (List ℕ)) → 12 < length row → declaration_fields ds row ≡ Err reasons.Form
unfolding declaration_fields link_row serve_row outsider_row
long_declaration_fields ds [] long = refl
long_declaration_fields ds (word ∷ fields) long =
    let P : Result Declaration Reason → Type 0 = λ r. r ≡ Err reasons.Form in
    cond_both (bytes_eq word (codes "link")) _ _ P (λ _. row2-long reasons.Form (kinds.new_name ds) kinds.prefix (λ n p. declare.Link n p) fields (omega arith)) (λ _.
    cond_both (bytes_eq word (codes "serve")) _ _ P (λ _. row2-long reasons.Form (kinds.node sorts.Agent ds) (kinds.node sorts.Mobile ds) (λ g m. declare.Serve g m) fields (omega arith)) (λ _.
    cond_both (bytes_eq word (codes "outsider")) _ _ P (λ _. row1-long reasons.Form (kinds.new_name ds) (λ n. declare.Outsider n) fields (omega arith)) (λ _.
    long_node ds word fields (omega arith))))

long_declaration : (ds : List Declaration) (row : List (List ℕ)) → 12 < length row → declaration_line ds row ≡ Err reasons.Form
unfolding declaration_line
long_declaration ds row long = ap (λ (r : Result Declaration Reason). r >>= (λ d. judged d (undeclared ds d))) (long_declaration_fields ds row long)

long_run : (row : List (List ℕ)) → 12 < length row → is_run row ≡ false
long_run [] long = refl
long_run (c1 ∷ []) long = absurd (omega arith)
long_run (c1 ∷ c2 ∷ more) long = refl

pub long_next : (ds : List Declaration) (n : ℕ) (row : List (List ℕ)) → 12 < length row → next_of ds n row ≡ bad_form n
unfolding next_of
long_next ds n row long = rw (long_run row long, long_declaration ds row long) refl

-- events
long_event_node : (ds : List Declaration) (word : List ℕ) (fields : List (List ℕ)) → 11 < length fields → events_rows.node_fields ds word fields ≡ Err reasons.Form
unfolding events_rows.node_fields move_row data_row restart_row refresh_row plan_row ask_row show_row settle_row
long_event_node ds word fields long =
    let P : Result Event Reason → Type 0 = λ r. r ≡ Err reasons.Form in
    cond_both (bytes_eq word (codes "move")) _ _ P (λ _. row2-long reasons.Form (kinds.node sorts.Mobile ds) (kinds.some_link ds) (λ a b. events.Move a b) fields (omega arith)) (λ _.
    cond_both (bytes_eq word (codes "data")) _ _ P (λ _. row4-long reasons.Form (kinds.node sorts.Host ds) kinds.address (kinds.number 0 255) (kinds.bytes 512) (λ a b c d. events.Payload a b c d) fields (omega arith)) (λ _.
    cond_both (bytes_eq word (codes "restart")) _ _ P (λ _. row1-long reasons.Form (kinds.node sorts.Node ds) (λ a. events.Restart a) fields (omega arith)) (λ _.
    cond_both (bytes_eq word (codes "refresh")) _ _ P (λ _. row2-long reasons.Form (kinds.node sorts.Host ds) kinds.address (λ a b. events.Refresh a b) fields (omega arith)) (λ _.
    cond_both (bytes_eq word (codes "plan")) _ _ P (λ _. row3-long reasons.Form (kinds.node sorts.Agent ds) u32 u32 (λ a b c. events.Plan a b c) fields (omega arith)) (λ _.
    cond_both (bytes_eq word (codes "ask")) _ _ P (λ _. row1-long reasons.Form (kinds.node sorts.Mobile ds) (λ a. events.Ask a) fields (omega arith)) (λ _.
    cond_both (bytes_eq word (codes "show")) _ _ P (λ _. row1-long reasons.Form (kinds.node sorts.Node ds) (λ a. events.Show a) fields (omega arith)) (λ _.
    cond_both (bytes_eq word (codes "settle")) _ _ P (λ _. row2-long reasons.Form (kinds.node sorts.Host ds) (kinds.node sorts.Host ds) (λ a b. events.Settle a b) fields (omega arith)) (λ _.
    refl))))))))

long_packet : (ds : List Declaration) (word : List ℕ) (fields : List (List ℕ)) → 11 < length fields → packet_fields ds word fields ≡ Err reasons.Form
unfolding packet_fields deliver_row repeat_row lose_row carry_row
long_packet ds word fields long =
    let P : Result Event Reason → Type 0 = λ r. r ≡ Err reasons.Form in
    cond_both (bytes_eq word (codes "deliver")) _ _ P (λ _. row1-long reasons.Form u32 (λ a. events.Deliver a) fields (omega arith)) (λ _.
    cond_both (bytes_eq word (codes "repeat")) _ _ P (λ _. row1-long reasons.Form u32 (λ a. events.Repeat a) fields (omega arith)) (λ _.
    cond_both (bytes_eq word (codes "lose")) _ _ P (λ _. row1-long reasons.Form u32 (λ a. events.Lose a) fields (omega arith)) (λ _.
    cond_both (bytes_eq word (codes "carry")) _ _ P (λ _. row1-long reasons.Form (kinds.number 1 1000) (λ a. events.Carry a) fields (omega arith)) (λ _.
    long_event_node ds word fields long))))

long_bind : (numbered : Bool) (ds : List Declaration) (fields : List (List ℕ)) → 11 < length fields → bind_row numbered ds fields ≡ Err reasons.Form
unfolding plain_bind_row numbered_bind_row
long_bind true ds fields long = row11-long reasons.Form (kinds.outsider ds) (kinds.link ds) kinds.address kinds.address kinds.address kinds.address u16 u16 u32 kinds.some_packet binding_number (λ a b c d e f g h i j k. events.Bind a b (update_ends c d e f) g h i j k) fields long
long_bind false ds fields long = row10-long reasons.Form (kinds.outsider ds) (kinds.link ds) kinds.address kinds.address kinds.address kinds.address u16 u16 u32 kinds.some_packet (λ a b c d e f g h i j. events.Bind a b (update_ends c d e f) g h i j 0) fields (omega arith)

long_outsider : (numbered : Bool) (ds : List Declaration) (word : List ℕ) (fields : List (List ℕ)) → 11 < length fields → outsider_fields numbered ds word fields ≡ Err reasons.Form
unfolding outsider_fields inject_row probe_row tell_row listen_row deaf_row squat_row yield_row
long_outsider numbered ds word fields long =
    let P : Result Event Reason → Type 0 = λ r. r ≡ Err reasons.Form in
    cond_both (bytes_eq word (codes "inject")) _ _ P (λ _. row3-long reasons.Form (kinds.outsider ds) (kinds.link ds) (kinds.bytes 2048) (λ a b c. events.Inject a b c) fields (omega arith)) (λ _.
    cond_both (bytes_eq word (codes "probe")) _ _ P (λ _. row6-long reasons.Form (kinds.outsider ds) (kinds.link ds) kinds.careof kinds.address kinds.address kinds.cookie (λ a b c d e f. events.Probe a b c d e f) fields (omega arith)) (λ _.
    cond_both (bytes_eq word (codes "bind")) _ _ P (λ _. long_bind numbered ds fields long) (λ _.
    cond_both (bytes_eq word (codes "tell")) _ _ P (λ _. row4-long reasons.Form (kinds.outsider ds) (kinds.link ds) u32 u32 (λ a b c d. events.Tell a b c d) fields (omega arith)) (λ _.
    cond_both (bytes_eq word (codes "listen")) _ _ P (λ _. row2-long reasons.Form (kinds.outsider ds) (kinds.link ds) (λ a b. events.Listen a b) fields (omega arith)) (λ _.
    cond_both (bytes_eq word (codes "deaf")) _ _ P (λ _. row2-long reasons.Form (kinds.outsider ds) (kinds.link ds) (λ a b. events.Deaf a b) fields (omega arith)) (λ _.
    cond_both (bytes_eq word (codes "squat")) _ _ P (λ _. row2-long reasons.Form (kinds.outsider ds) kinds.address (λ a b. events.Squat a b) fields (omega arith)) (λ _.
    cond_both (bytes_eq word (codes "yield")) _ _ P (λ _. row2-long reasons.Form (kinds.outsider ds) kinds.address (λ a b. events.Yield a b) fields (omega arith)) (λ _.
    long_packet ds word fields long))))))))

long_event_fields : (numbered : Bool) (ds : List Declaration) (row : List (List ℕ)) → 12 < length row → event_fields numbered ds row ≡ Err reasons.Form
unfolding event_fields wait_row advertise_row
long_event_fields numbered ds [] long = refl
long_event_fields numbered ds (word ∷ fields) long =
    let P : Result Event Reason → Type 0 = λ r. r ≡ Err reasons.Form in
    cond_both (bytes_eq word (codes "wait")) _ _ P (λ _. row1-long reasons.Form (kinds.number 1 600000) (λ a. events.Wait a) fields (omega arith)) (λ _.
    cond_both (bytes_eq word (codes "advertise")) _ _ P (λ _. row1-long reasons.Form (kinds.link ds) (λ a. events.Advertise a) fields (omega arith)) (λ _.
    long_outsider numbered ds word fields (omega arith)))

pub long_timed : (numbered : Bool) (ds : List Declaration) (count waits carries : ℕ) (row : List (List ℕ)) → 12 < length row → timed_line numbered ds count waits carries row ≡ Err reasons.Form
unfolding timed_line
long_timed numbered ds count waits carries row long = ap (λ (r : Result Event Reason). r >>= (λ e. judged e (untimely ds count waits carries e))) (long_event_fields numbered ds row long)

-- the head
pub long_head : (word : List ℕ) (row : List (List ℕ)) → 12 < length row → headed word row ≡ Err reasons.Form
long_head word [] long = refl
long_head word (c1 ∷ []) long = refl
long_head word (c1 ∷ c2 ∷ []) long = absurd (omega arith)
long_head word (c1 ∷ c2 ∷ c3 ∷ more) long = refl
