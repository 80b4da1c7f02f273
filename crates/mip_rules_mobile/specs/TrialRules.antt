-- Return routability with a peer: how a trial starts, asks again, and makes updates. RFC 6275 sections 11.6, 11.7.2 and 11.8
use Rattle.std.specs.Prelude.{ℕ, zero, suc, ◌+◌, Bool, ◌==◌, if◌then◌else◌, Option, Some, None, is_some, Result, Ok, Err}
use Rattle.mip_words.specs.declared.address.Address.{Address}
use Rattle.mip_bulist.specs.declared.aim.Aim.TheVariants.{Bind, Delete}
use Rattle.mip_bulist.specs.declared.any.Any.{Any}
use Rattle.mip_bulist.specs.declared.any.Any.TheVariants.{Probing, Proved, Pending}
use Rattle.mip_bulist.specs.declared.made.Made.{Made}
use Rattle.mip_bulist.specs.declared.refused.Refused.{Refused}
use Rattle.mip_bulist.specs.declared.refused.Refused.TheVariants as refused
use Rattle.mip_bulist.specs.declared.state.Probing as probing
use Rattle.mip_bulist.specs.declared.trial.Trial.{Trial}
use Rattle.mip_bulist.specs.declared.work.Work.TheVariants.{Resend}
use Rattle.mip_rules_mobile.specs.declared.attachment.Attachment.{Attachment}
use Rattle.mip_rules_mobile.specs.declared.attachment.Attachment.TheVariants.{Detached, AtHome, Away}
use Rattle.mip_words.specs.Constants.{initial_bindack_timeout, max_bindack_timeout}
use Rattle.mip_rules_mobile.specs.Timing.{doubled}
use Rattle.mip_rules_mobile.specs.Trials.{Start, Rest, makes, lacks_home, lacks_careof}
use Rattle.mip_rules_mobile.specs.Sendings.{AsksHome, AsksCareof}
use Rattle.mip_rules_mobile.specs.Steps.{Sends, Tries, Updates, Waits}
use Rattle.mip_rules_mobile.specs.HomeQuestions.{home_of, binding_number_of}
use Rattle.mip_rules_mobile.specs.RowQuestions.{first_cookie, second_cookie, peer_of_row, trial_of, wait_of_row}
use Rattle.mip_rules_mobile.specs.Transitions.{Transition, noted}
use Rattle.mip_rules_mobile.specs.OutRules.{goes_out}

-- a rule for each of so many rows, from one on
abbrev pub each_from : (ℕ → Transition → Transition) → (left row : ℕ) → Transition → Transition
each_from rule zero row t = t
each_from rule (suc left) row t = each_from rule left (row + 1) (rule row t)

-- a rule for each row, in order
abbrev pub each_row : (ℕ → Transition → Transition) → Transition → Transition
each_row rule t = each_from rule 16 0 t

-- the inits are sent again, or the update, unless an answer comes before
abbrev pub waits : ℕ → ℕ → Transition → Transition
waits row wait t = noted (Waits (Resend row) wait) t

-- to bind, both inits are sent, the Home Test Init from the home address; to delete, from home, only that one
abbrev pub starts_with : Attachment → ℕ → Address → Transition → Transition
starts_with Detached row peer t = t
starts_with AtHome row peer t =
    let home = first_cookie t.known in
    waits row initial_bindack_timeout (goes_out (AsksHome peer home.0) (noted (Tries row (Start Delete home home)) t))
starts_with (Away careof) row peer t =
    let home = first_cookie t.known in
    let other = second_cookie t.known in
    waits row initial_bindack_timeout
    (noted (Sends (AsksCareof careof peer other.0)) (goes_out (AsksHome peer home.0) (noted (Tries row (Start (Bind careof) home other)) t)))

abbrev pub starts_at : Option Address → ℕ → Transition → Transition
starts_at None row t = t
starts_at (Some peer) row t = starts_with t.known.standing row peer t

-- a trial starts, or starts anew
unfoldable pub starts : ℕ → Transition → Transition
starts row t = starts_at (peer_of_row t.known row) row t

-- where an update is sent from: to bind, from the care-of address; to delete, from home
abbrev pub source_for : Attachment → Address → Made → Option Address
source_for Detached home made = None
source_for AtHome home made = if is_some made.careof then None else Some home
source_for (Away careof) home made = if is_some made.careof then Some careof else None

abbrev pub sends_update : Option Address → ℕ → Address → Made → ℕ → Transition → Transition
sends_update None row peer made wait t = t
sends_update (Some source) row peer made wait t =
    waits row wait (noted (Updates row (record { home = home_of t.known; source = source; peer = peer; number = binding_number_of t.known; made = made })) t)

-- with tokens too old the trial starts anew; too soon after three others, nothing is sent at this time
abbrev pub makes_with : Option (Result Made Refused) → ℕ → Address → ℕ → Transition → Transition
makes_with None row peer wait t = t
makes_with (Some (Ok made)) row peer wait t = sends_update (source_for t.known.standing (home_of t.known) made) row peer made wait t
makes_with (Some (Err refused.Old)) row peer wait t = starts row t
makes_with (Some (Err refused.TooSoon)) row peer wait t = waits row wait t
makes_with (Some (Err refused.Cookie)) row peer wait t = t
makes_with (Some (Err refused.NotMine)) row peer wait t = t

abbrev pub makes_at : Option Address → ℕ → ℕ → Transition → Transition
makes_at None row wait t = t
makes_at (Some peer) row wait t = makes_with (makes (record { 0 = t.now }) (trial_of t.known row)) row peer wait t

-- the trial makes an update, if it has the tests that its aim needs; it is sent again after so many milliseconds
unfoldable pub updates : ℕ → ℕ → Transition → Transition
updates row wait t = makes_at (peer_of_row t.known row) row wait t

-- the inits whose tests are missing are sent again, with the cookies of the start
abbrev pub asks_home : Bool → Address → ℕ → Transition → Transition
asks_home lacks peer cookie t = if lacks then goes_out (AsksHome peer cookie) t else t

abbrev pub asks_careof : Bool → Attachment → Address → ℕ → Transition → Transition
asks_careof lacks Detached peer cookie t = t
asks_careof lacks AtHome peer cookie t = t
asks_careof lacks (Away careof) peer cookie t = if lacks then noted (Sends (AsksCareof careof peer cookie)) t else t

unfoldable pub asks_again : ℕ → Address → Trial probing.Probing → Transition → Transition
asks_again row peer u t =
    asks_careof (lacks_careof u) t.known.standing peer u.state.careof_cookie.0 (asks_home (lacks_home u) peer u.state.home_cookie.0 t)

abbrev pub goes_on : Option Any → ℕ → Address → ℕ → Transition → Transition
goes_on (Some (Probing u)) row peer wait t = waits row wait (asks_again row peer u t)
goes_on (Some (Proved u)) row peer wait t = updates row wait t
goes_on (Some (Pending u)) row peer wait t = updates row wait t
goes_on _ row peer wait t = t

abbrev pub resends_at : Option Address → ℕ → ℕ → Transition → Transition
resends_at None row wait t = t
resends_at (Some peer) row wait t =
    if wait == max_bindack_timeout then noted (Tries row Rest) t
    else goes_on (trial_of t.known row) row peer (doubled wait) t

-- a time of resending: what waits for an answer is sent again, and after the longest time the trial is given up
unfoldable pub resends_row : ℕ → Transition → Transition
resends_row row t = resends_at (peer_of_row t.known row) row (wait_of_row t.known row) t
