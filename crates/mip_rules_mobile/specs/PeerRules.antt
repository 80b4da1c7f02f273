-- What a mobile does about the messages of a peer. RFC 6275 sections 11.3.6, 11.6.2, 11.7.3 and 11.7.4
use Rattle.std.specs.Prelude.{ℕ, ◌*◌, List, Bool, true, ◌&&◌, ◌||◌, not, ◌==◌, nat_le, if◌then◌else◌, Option, Some, None, is_some, unwrap_or, Result, Ok, Err}
use Rattle.std.specs.Option.{option_map_or}
use Rattle.mip_words.specs.declared.address.Address.{Address}
use Rattle.mip_words.specs.declared.token.Cookie.{Cookie}
use Rattle.mip_words.specs.declared.why.Why.TheVariants as whys
use Rattle.mip_tokens.specs.Token.{is_authentic}
use Rattle.mip_bulist.specs.declared.any.Any.{Any}
use Rattle.mip_bulist.specs.declared.any.Any.TheVariants.{Pending}
use Rattle.mip_bulist.specs.declared.list_full.ListFull.{ListFull}
use Rattle.mip_bulist.specs.declared.state.Pending as pending
use Rattle.mip_bulist.specs.declared.tested.Test.{Test}
use Rattle.mip_bulist.specs.declared.trial.Trial.{Trial}
use Rattle.mip_bulist.specs.declared.work.Work.TheVariants.{Resend}
use Rattle.mip_bulist.specs.Rows.{given_row}
use Rattle.mip_reception.specs.Statuses.{accepts_it, sequence_out_of_window, expired_home_nonce, expired_nonces}
use Rattle.mip_rules_mobile.specs.declared.attachment.Attachment.{Attachment}
use Rattle.mip_rules_mobile.specs.declared.attachment.Attachment.TheVariants.{Detached, AtHome, Away}
use Rattle.mip_words.specs.Constants.{initial_bindack_timeout, lifetime_unit}
use Rattle.mip_rules_mobile.specs.Timing.{refresh_unit}
use Rattle.mip_rules_mobile.specs.Trials.{HomeTest, CareofTest, Resequence, Acknowledge, Rest, keeps_home_test, keeps_careof_test, last_made, binds_to, sent_at, is_idle}
use Rattle.mip_rules_mobile.specs.Steps.{Drops, Meets, Tries, Forgets, Binds, Unbinds, Stops}
use Rattle.mip_rules_mobile.specs.Known.{Known}
use Rattle.mip_rules_mobile.specs.HomeQuestions.{home_of, registration_of}
use Rattle.mip_rules_mobile.specs.RowQuestions.{row_of, trial_of, is_bound_row, bound_row_of}
use Rattle.mip_rules_mobile.specs.TimerQuestions.{later}
use Rattle.mip_rules_mobile.specs.Transitions.{Transition, noted}
use Rattle.mip_rules_mobile.specs.TrialRules.{starts, updates}

-- after data from a tunnel its peer gets a row, and a trial starts where none is under way, no binding stands, and the
-- mobile is registered
abbrev pub begins_at : Result ℕ ListFull → Transition → Transition
begins_at (Err full) t = t
begins_at (Ok row) t =
    if is_idle (trial_of t.known row) && (not (is_bound_row t.known t.now row) && is_some (registration_of t.known t.now)) then starts row t
    else t

unfoldable pub meets : Address → Transition → Transition
meets peer t = begins_at (given_row peer t.known.list.rows) (noted (Meets peer) t)

-- away, a Home Test comes through the tunnel, and a Care-of Test does not (`through` is then that it came outside); elsewhere either way is right
abbrev pub comes_right : Attachment → (through_tunnel : Bool) → Bool
comes_right Detached through = true
comes_right AtHome through = true
comes_right (Away careof) through = through

abbrev pub test_at : ℕ → (index : ℕ) → (token : List ℕ) → Test
test_at now index token = record { index = index; token = record { 0 = token }; at = record { 0 = now } }

abbrev pub cookie : ℕ → Cookie
cookie n = record { 0 = n }

-- the row of a peer whose trial keeps the test
abbrev pub home_row : Known → Address → Cookie → Test → Option ℕ → Option ℕ
home_row k peer c test None = None
home_row k peer c test (Some row) = if keeps_home_test peer c test (trial_of k row) then Some row else None

abbrev pub careof_row : Known → Address → Cookie → Test → Option ℕ → Option ℕ
careof_row k peer c test None = None
careof_row k peer c test (Some row) = if keeps_careof_test peer c test (trial_of k row) then Some row else None

abbrev pub keeps_home : ℕ → Address → Cookie → Test → Option ℕ → Transition → Transition
keeps_home number peer c test None t = noted (Drops number whys.Cookie) t
keeps_home number peer c test (Some row) t = updates row initial_bindack_timeout (noted (Tries row (HomeTest peer c test)) t)

abbrev pub keeps_careof : ℕ → Address → Cookie → Test → Option ℕ → Transition → Transition
keeps_careof number peer c test None t = noted (Drops number whys.Cookie) t
keeps_careof number peer c test (Some row) t = updates row initial_bindack_timeout (noted (Tries row (CareofTest peer c test)) t)

-- a Home Test is kept by the trial that asked for it; with all that its aim needs, an update is made
unfoldable pub takes_home_test : ℕ → Bool → Address → (index cookie : ℕ) → List ℕ → Transition → Transition
takes_home_test number tunnelled peer index c token t =
    if comes_right t.known.standing tunnelled
    then keeps_home number peer (cookie c) (test_at t.now index token) (home_row t.known peer (cookie c) (test_at t.now index token) (row_of t.known peer)) t
    else noted (Drops number whys.Cookie) t

-- so is a Care-of Test
unfoldable pub takes_careof_test : ℕ → Bool → Address → (index cookie : ℕ) → List ℕ → Transition → Transition
takes_careof_test number tunnelled peer index c token t =
    if comes_right t.known.standing (not tunnelled)
    then keeps_careof number peer (cookie c) (test_at t.now index token) (careof_row t.known peer (cookie c) (test_at t.now index token) (row_of t.known peer)) t
    else noted (Drops number whys.Cookie) t

-- expired nonce indices
abbrev pub tells_of_nonces : ℕ → Bool
tells_of_nonces status = nat_le expired_home_nonce status && nat_le status expired_nonces

-- the authenticator is that of the last update: between the address that it binds, where it deletes the home address, and
-- the peer
abbrev pub is_genuine : Address → Trial pending.Pending → List ℕ → Bool
is_genuine home u message = is_authentic (last_made u).kbm.0 (unwrap_or (binds_to u) home) u.peer message

-- it is authentic, or tells of expired nonces without an authenticator
abbrev pub is_trusted : Address → Trial pending.Pending → (status : ℕ) → Option (List ℕ) → List ℕ → Bool
is_trusted home u status None message = tells_of_nonces status
is_trusted home u status (Some authenticator) message = is_genuine home u message

-- an acknowledgement of the last update: trusted, with its sequence or status 135
abbrev pub acknowledges : Address → (status sequence : ℕ) → Option (List ℕ) → List ℕ → Trial pending.Pending → Bool
acknowledges home status sequence authenticator message u =
    is_trusted home u status authenticator message && ((sequence == (last_made u).sequence) || (status == sequence_out_of_window))

-- the binding: its end is counted from the sending, and so is its renewal
abbrev pub binds_from : Trial pending.Pending → ℕ → ℕ → Transition → Transition
binds_from u row lifetime t =
    let sent = option_map_or (λ m. m.0) (sent_at u) t.now in
    noted (Binds row u.peer (later sent (lifetime_unit * lifetime)) (later sent (refresh_unit * lifetime))) t

abbrev pub ends_for : Option Address → Trial pending.Pending → ℕ → ℕ → Transition → Transition
ends_for None u row lifetime t = noted (Forgets row) t
ends_for (Some careof) u row lifetime t = if lifetime == 0 then t else binds_from u row lifetime t

-- the peer accepts: it has the binding, or has none any more
unfoldable pub is_granted : ℕ → Trial pending.Pending → (sequence lifetime : ℕ) → Transition → Transition
is_granted row u sequence lifetime t =
    ends_for (binds_to u) u row lifetime (noted (Tries row (Acknowledge sequence lifetime)) (noted (Stops (Resend row)) t))

-- the trial is given up
unfoldable pub rests : ℕ → Transition → Transition
rests row t = noted (Tries row Rest) (noted (Stops (Resend row)) t)

-- status 135: the next sequence comes after the one received, and the sending follows at once; 136 to 138: the trial starts
-- anew
unfoldable pub takes_peer_ack : ℕ → Trial pending.Pending → (status sequence lifetime : ℕ) → Transition → Transition
takes_peer_ack row u status sequence lifetime t =
    if accepts_it status then is_granted row u sequence lifetime t
    else if status == sequence_out_of_window then updates row initial_bindack_timeout (noted (Tries row (Resequence sequence)) t)
    else if tells_of_nonces status then starts row t
    else rests row t

abbrev pub acks_trial : ℕ → ℕ → Address → (status sequence lifetime : ℕ) → Option (List ℕ) → List ℕ → Option Any → Transition → Transition
acks_trial number row home status sequence lifetime authenticator message (Some (Pending u)) t =
    if acknowledges home status sequence authenticator message u then takes_peer_ack row u status sequence lifetime t
    else noted (Drops number whys.Ack) t
acks_trial number row home status sequence lifetime authenticator message trial t = noted (Drops number whys.Ack) t

abbrev pub acks_row : ℕ → Option ℕ → (status sequence lifetime : ℕ) → Option (List ℕ) → List ℕ → Transition → Transition
acks_row number None status sequence lifetime authenticator message t = noted (Drops number whys.Ack) t
acks_row number (Some row) status sequence lifetime authenticator message t =
    acks_trial number row (home_of t.known) status sequence lifetime authenticator message (trial_of t.known row) t

-- an acknowledgement of a peer
unfoldable pub takes_ack_of : ℕ → Address → (status sequence lifetime : ℕ) → Option (List ℕ) → List ℕ → Transition → Transition
takes_ack_of number peer status sequence lifetime authenticator message t =
    acks_row number (row_of t.known peer) status sequence lifetime authenticator message t

-- a peer that has no binding any more says so
abbrev pub loses : ℕ → Option ℕ → Address → Transition → Transition
loses number None peer t = noted (Drops number whys.Error) t
loses number (Some row) peer t = rests row (noted (Unbinds row peer) t)

unfoldable pub takes_error : ℕ → Address → (status : ℕ) → (home : Address) → Transition → Transition
takes_error number peer status home t =
    if (status == 1) && (home.0 == (home_of t.known).0) then loses number (bound_row_of t.known t.now peer) peer t
    else noted (Drops number whys.Error) t

-- a peer that has the binding asks for a new one
abbrev pub renews : ℕ → Option ℕ → Transition → Transition
renews number None t = noted (Drops number whys.Refresh) t
renews number (Some row) t = starts row t

unfoldable pub takes_refresh : ℕ → Address → Transition → Transition
takes_refresh number peer t = renews number (bound_row_of t.known t.now peer) t
