-- An event that is read is spelled so.
use Rattle.std.proofs.Common.{◌≡◌, ℕ, List, [], ◌∷◌, refl, ap, ◌∙◌}
use Rattle.std.specs.Prelude.{Bool, true, false, Option, Some, None, Result, Ok, codes}
use Rattle.std.specs.Str.{bytes_eq}
use Rattle.std.proofs.lemmas.Bool.{cond_both}
use Rattle.mip_words.proofs.StepLaws.{bind_ok}
use Rattle.mip_lines.proofs.RowLaws.{row1-spelled, row2-spelled, row3-spelled, row4-spelled, row6-spelled, row10-spelled, row11-spelled}
use Rattle.mip_schedule.specs.DeclarationTimes.{judged}
use Rattle.mip_schedule.specs.EventRows.{wait_row, move_row, advertise_row, data_row, inject_row, probe_row, plain_bind_row, numbered_bind_row, bind_row, tell_row, listen_row, deaf_row, squat_row, yield_row, deliver_row, repeat_row, lose_row, carry_row, restart_row, refresh_row, plan_row, ask_row, show_row, settle_row, node_fields, packet_fields, outsider_fields, event_fields}
use Rattle.mip_schedule.specs.EventTimes.{untimely, timed_line}
use Rattle.mip_schedule.specs.Spelling.{event_text}
use Rattle.mip_symbols.specs.declared.declaration.Declaration.{Declaration}
use Rattle.mip_schedule.specs.declared.event.Event.{Event}
use Rattle.mip_symbols.specs.declared.reason.Reason.{Reason}
use Rattle.mip_symbols.specs.declared.reason.Reason.TheVariants as reasons
use Rattle.mip_symbols.proofs.KindLaws.{number-spells, address-spells, cookie-spells, bytes-spells, link-spells, node-spells, agent-spells, mobile-spells, host-spells, outsider-spells, some_link-spells, some_packet-spells, careof-spells, worded}

abbrev Spelled : Bool → List Declaration → List ℕ → (List (List ℕ) → Result Event Reason) → Type 0
Spelled numbered ds word row = (fields : List (List ℕ)) (x : Event) → row fields ≡ Ok x → word ∷ fields ≡ event_text numbered ds x

wait-spelled : (numbered : Bool) (ds : List Declaration) → Spelled numbered ds (codes "wait") (wait_row ds)
unfolding wait_row
wait-spelled numbered ds = row1-spelled reasons.Form (event_text numbered ds) (codes "wait") (number-spells 1 600000) (λ a. refl)

move-spelled : (numbered : Bool) (ds : List Declaration) → Spelled numbered ds (codes "move") (move_row ds)
unfolding move_row
move-spelled numbered ds = row2-spelled reasons.Form (event_text numbered ds) (codes "move") (mobile-spells ds) (some_link-spells ds) (λ a b. refl)

advertise-spelled : (numbered : Bool) (ds : List Declaration) → Spelled numbered ds (codes "advertise") (advertise_row ds)
unfolding advertise_row
advertise-spelled numbered ds = row1-spelled reasons.Form (event_text numbered ds) (codes "advertise") (link-spells ds) (λ a. refl)

data-spelled : (numbered : Bool) (ds : List Declaration) → Spelled numbered ds (codes "data") (data_row ds)
unfolding data_row
data-spelled numbered ds = row4-spelled reasons.Form (event_text numbered ds) (codes "data") (host-spells ds) address-spells (number-spells 0 255) (bytes-spells 512) (λ a b c d. refl)

inject-spelled : (numbered : Bool) (ds : List Declaration) → Spelled numbered ds (codes "inject") (inject_row ds)
unfolding inject_row
inject-spelled numbered ds = row3-spelled reasons.Form (event_text numbered ds) (codes "inject") (outsider-spells ds) (link-spells ds) (bytes-spells 2048) (λ a b c. refl)

probe-spelled : (numbered : Bool) (ds : List Declaration) → Spelled numbered ds (codes "probe") (probe_row ds)
unfolding probe_row
probe-spelled numbered ds = row6-spelled reasons.Form (event_text numbered ds) (codes "probe") (outsider-spells ds) (link-spells ds) careof-spells address-spells address-spells cookie-spells (λ a b c d e f. refl)

plain_bind-spelled : (ds : List Declaration) → Spelled false ds (codes "bind") (plain_bind_row ds)
unfolding plain_bind_row
plain_bind-spelled ds = row10-spelled reasons.Form (event_text false ds) (codes "bind") (outsider-spells ds) (link-spells ds) address-spells address-spells address-spells address-spells (number-spells 0 65535) (number-spells 0 65535) (number-spells 0 4294967295) some_packet-spells (λ a b c d e f g h i j. refl)

numbered_bind-spelled : (ds : List Declaration) → Spelled true ds (codes "bind") (numbered_bind_row ds)
unfolding numbered_bind_row
numbered_bind-spelled ds =
    row11-spelled reasons.Form (event_text true ds) (codes "bind") (outsider-spells ds) (link-spells ds) address-spells address-spells address-spells address-spells (number-spells 0 65535) (number-spells 0 65535) (number-spells 0 4294967295) some_packet-spells (number-spells 0 7) (λ a b c d e f g h i j k. refl)

bind-spelled : (numbered : Bool) (ds : List Declaration) → Spelled numbered ds (codes "bind") (bind_row numbered ds)
bind-spelled true ds = numbered_bind-spelled ds
bind-spelled false ds = plain_bind-spelled ds

tell-spelled : (numbered : Bool) (ds : List Declaration) → Spelled numbered ds (codes "tell") (tell_row ds)
unfolding tell_row
tell-spelled numbered ds = row4-spelled reasons.Form (event_text numbered ds) (codes "tell") (outsider-spells ds) (link-spells ds) (number-spells 0 4294967295) (number-spells 0 4294967295) (λ a b c d. refl)

listen-spelled : (numbered : Bool) (ds : List Declaration) → Spelled numbered ds (codes "listen") (listen_row ds)
unfolding listen_row
listen-spelled numbered ds = row2-spelled reasons.Form (event_text numbered ds) (codes "listen") (outsider-spells ds) (link-spells ds) (λ a b. refl)

deaf-spelled : (numbered : Bool) (ds : List Declaration) → Spelled numbered ds (codes "deaf") (deaf_row ds)
unfolding deaf_row
deaf-spelled numbered ds = row2-spelled reasons.Form (event_text numbered ds) (codes "deaf") (outsider-spells ds) (link-spells ds) (λ a b. refl)

squat-spelled : (numbered : Bool) (ds : List Declaration) → Spelled numbered ds (codes "squat") (squat_row ds)
unfolding squat_row
squat-spelled numbered ds = row2-spelled reasons.Form (event_text numbered ds) (codes "squat") (outsider-spells ds) address-spells (λ a b. refl)

yield-spelled : (numbered : Bool) (ds : List Declaration) → Spelled numbered ds (codes "yield") (yield_row ds)
unfolding yield_row
yield-spelled numbered ds = row2-spelled reasons.Form (event_text numbered ds) (codes "yield") (outsider-spells ds) address-spells (λ a b. refl)

deliver-spelled : (numbered : Bool) (ds : List Declaration) → Spelled numbered ds (codes "deliver") (deliver_row ds)
unfolding deliver_row
deliver-spelled numbered ds = row1-spelled reasons.Form (event_text numbered ds) (codes "deliver") (number-spells 0 4294967295) (λ a. refl)

repeat-spelled : (numbered : Bool) (ds : List Declaration) → Spelled numbered ds (codes "repeat") (repeat_row ds)
unfolding repeat_row
repeat-spelled numbered ds = row1-spelled reasons.Form (event_text numbered ds) (codes "repeat") (number-spells 0 4294967295) (λ a. refl)

lose-spelled : (numbered : Bool) (ds : List Declaration) → Spelled numbered ds (codes "lose") (lose_row ds)
unfolding lose_row
lose-spelled numbered ds = row1-spelled reasons.Form (event_text numbered ds) (codes "lose") (number-spells 0 4294967295) (λ a. refl)

carry-spelled : (numbered : Bool) (ds : List Declaration) → Spelled numbered ds (codes "carry") (carry_row ds)
unfolding carry_row
carry-spelled numbered ds = row1-spelled reasons.Form (event_text numbered ds) (codes "carry") (number-spells 1 1000) (λ a. refl)

restart-spelled : (numbered : Bool) (ds : List Declaration) → Spelled numbered ds (codes "restart") (restart_row ds)
unfolding restart_row
restart-spelled numbered ds = row1-spelled reasons.Form (event_text numbered ds) (codes "restart") (node-spells ds) (λ a. refl)

refresh-spelled : (numbered : Bool) (ds : List Declaration) → Spelled numbered ds (codes "refresh") (refresh_row ds)
unfolding refresh_row
refresh-spelled numbered ds = row2-spelled reasons.Form (event_text numbered ds) (codes "refresh") (host-spells ds) address-spells (λ a b. refl)

plan-spelled : (numbered : Bool) (ds : List Declaration) → Spelled numbered ds (codes "plan") (plan_row ds)
unfolding plan_row
plan-spelled numbered ds = row3-spelled reasons.Form (event_text numbered ds) (codes "plan") (agent-spells ds) (number-spells 0 4294967295) (number-spells 0 4294967295) (λ a b c. refl)

ask-spelled : (numbered : Bool) (ds : List Declaration) → Spelled numbered ds (codes "ask") (ask_row ds)
unfolding ask_row
ask-spelled numbered ds = row1-spelled reasons.Form (event_text numbered ds) (codes "ask") (mobile-spells ds) (λ a. refl)

show-spelled : (numbered : Bool) (ds : List Declaration) → Spelled numbered ds (codes "show") (show_row ds)
unfolding show_row
show-spelled numbered ds = row1-spelled reasons.Form (event_text numbered ds) (codes "show") (node-spells ds) (λ a. refl)

settle-spelled : (numbered : Bool) (ds : List Declaration) → Spelled numbered ds (codes "settle") (settle_row ds)
unfolding settle_row
settle-spelled numbered ds = row2-spelled reasons.Form (event_text numbered ds) (codes "settle") (host-spells ds) (host-spells ds) (λ a b. refl)

node_fields-spelled : (numbered : Bool) (ds : List Declaration) (word : List ℕ) (fields : List (List ℕ)) (x : Event) → node_fields ds word fields ≡ Ok x → word ∷ fields ≡ event_text numbered ds x
unfolding node_fields
node_fields-spelled numbered ds word fields x =
    let P : Result Event Reason → Type 0 = λ r. r ≡ Ok x → word ∷ fields ≡ event_text numbered ds x in
    cond_both (bytes_eq word (codes "move")) _ _ P (λ test e. worded word (codes "move") fields (event_text numbered ds x) test (move-spelled numbered ds fields x e)) (λ _.
    cond_both (bytes_eq word (codes "data")) _ _ P (λ test e. worded word (codes "data") fields (event_text numbered ds x) test (data-spelled numbered ds fields x e)) (λ _.
    cond_both (bytes_eq word (codes "restart")) _ _ P (λ test e. worded word (codes "restart") fields (event_text numbered ds x) test (restart-spelled numbered ds fields x e)) (λ _.
    cond_both (bytes_eq word (codes "refresh")) _ _ P (λ test e. worded word (codes "refresh") fields (event_text numbered ds x) test (refresh-spelled numbered ds fields x e)) (λ _.
    cond_both (bytes_eq word (codes "plan")) _ _ P (λ test e. worded word (codes "plan") fields (event_text numbered ds x) test (plan-spelled numbered ds fields x e)) (λ _.
    cond_both (bytes_eq word (codes "ask")) _ _ P (λ test e. worded word (codes "ask") fields (event_text numbered ds x) test (ask-spelled numbered ds fields x e)) (λ _.
    cond_both (bytes_eq word (codes "show")) _ _ P (λ test e. worded word (codes "show") fields (event_text numbered ds x) test (show-spelled numbered ds fields x e)) (λ _.
    cond_both (bytes_eq word (codes "settle")) _ _ P (λ test e. worded word (codes "settle") fields (event_text numbered ds x) test (settle-spelled numbered ds fields x e)) (λ _.
    λ e. absurd cc))))))))

packet_fields-spelled : (numbered : Bool) (ds : List Declaration) (word : List ℕ) (fields : List (List ℕ)) (x : Event) → packet_fields ds word fields ≡ Ok x → word ∷ fields ≡ event_text numbered ds x
unfolding packet_fields
packet_fields-spelled numbered ds word fields x =
    let P : Result Event Reason → Type 0 = λ r. r ≡ Ok x → word ∷ fields ≡ event_text numbered ds x in
    cond_both (bytes_eq word (codes "deliver")) _ _ P (λ test e. worded word (codes "deliver") fields (event_text numbered ds x) test (deliver-spelled numbered ds fields x e)) (λ _.
    cond_both (bytes_eq word (codes "repeat")) _ _ P (λ test e. worded word (codes "repeat") fields (event_text numbered ds x) test (repeat-spelled numbered ds fields x e)) (λ _.
    cond_both (bytes_eq word (codes "lose")) _ _ P (λ test e. worded word (codes "lose") fields (event_text numbered ds x) test (lose-spelled numbered ds fields x e)) (λ _.
    cond_both (bytes_eq word (codes "carry")) _ _ P (λ test e. worded word (codes "carry") fields (event_text numbered ds x) test (carry-spelled numbered ds fields x e)) (λ _.
    node_fields-spelled numbered ds word fields x))))

outsider_fields-spelled : (numbered : Bool) (ds : List Declaration) (word : List ℕ) (fields : List (List ℕ)) (x : Event) → outsider_fields numbered ds word fields ≡ Ok x → word ∷ fields ≡ event_text numbered ds x
unfolding outsider_fields
outsider_fields-spelled numbered ds word fields x =
    let P : Result Event Reason → Type 0 = λ r. r ≡ Ok x → word ∷ fields ≡ event_text numbered ds x in
    cond_both (bytes_eq word (codes "inject")) _ _ P (λ test e. worded word (codes "inject") fields (event_text numbered ds x) test (inject-spelled numbered ds fields x e)) (λ _.
    cond_both (bytes_eq word (codes "probe")) _ _ P (λ test e. worded word (codes "probe") fields (event_text numbered ds x) test (probe-spelled numbered ds fields x e)) (λ _.
    cond_both (bytes_eq word (codes "bind")) _ _ P (λ test e. worded word (codes "bind") fields (event_text numbered ds x) test (bind-spelled numbered ds fields x e)) (λ _.
    cond_both (bytes_eq word (codes "tell")) _ _ P (λ test e. worded word (codes "tell") fields (event_text numbered ds x) test (tell-spelled numbered ds fields x e)) (λ _.
    cond_both (bytes_eq word (codes "listen")) _ _ P (λ test e. worded word (codes "listen") fields (event_text numbered ds x) test (listen-spelled numbered ds fields x e)) (λ _.
    cond_both (bytes_eq word (codes "deaf")) _ _ P (λ test e. worded word (codes "deaf") fields (event_text numbered ds x) test (deaf-spelled numbered ds fields x e)) (λ _.
    cond_both (bytes_eq word (codes "squat")) _ _ P (λ test e. worded word (codes "squat") fields (event_text numbered ds x) test (squat-spelled numbered ds fields x e)) (λ _.
    cond_both (bytes_eq word (codes "yield")) _ _ P (λ test e. worded word (codes "yield") fields (event_text numbered ds x) test (yield-spelled numbered ds fields x e)) (λ _.
    packet_fields-spelled numbered ds word fields x))))))))

event-fields-spelled : (numbered : Bool) (ds : List Declaration) (row : List (List ℕ)) (x : Event) → event_fields numbered ds row ≡ Ok x → row ≡ event_text numbered ds x
unfolding event_fields
event-fields-spelled numbered ds [] x = λ e. absurd cc
event-fields-spelled numbered ds (word ∷ fields) x =
    let P : Result Event Reason → Type 0 = λ r. r ≡ Ok x → word ∷ fields ≡ event_text numbered ds x in
    cond_both (bytes_eq word (codes "wait")) _ _ P (λ test e. worded word (codes "wait") fields (event_text numbered ds x) test (wait-spelled numbered ds fields x e)) (λ _.
    cond_both (bytes_eq word (codes "advertise")) _ _ P (λ test e. worded word (codes "advertise") fields (event_text numbered ds x) test (advertise-spelled numbered ds fields x e)) (λ _.
    outsider_fields-spelled numbered ds word fields x))

judged_is : (x y : Event) (o : Option Reason) → judged x o ≡ Ok y → x ≡ y
judged_is x y None e = cc
judged_is x y (Some why) e = absurd cc

-- a line of events that is read is spelled so
pub event-spelled : (numbered : Bool) (ds : List Declaration) (count waits carries : ℕ) (row : List (List ℕ)) (x : Event) → timed_line numbered ds count waits carries row ≡ Ok x → row ≡ event_text numbered ds x
unfolding timed_line
event-spelled numbered ds count waits carries row x e =
    let p = bind_ok (event_fields numbered ds row) (λ y. judged y (untimely ds count waits carries y)) x e in
    event-fields-spelled numbered ds row x (p.1 ∙ ap (λ (y : Event). Ok y) (judged_is p.0 x (untimely ds count waits carries p.0) p.2))
