-- Home registration and discovery of agents. RFC 6275 sections 11.4.1, 11.5.5, 11.7.1, 11.7.3 and 11.8
use Rattle.std.specs.Prelude.{ℕ, ◌*◌, ◌^◌, Bool, true, false, ◌&&◌, ◌||◌, not, ◌==◌, if◌then◌else◌, Option, Some, None, is_some}
use Rattle.mip_words.specs.declared.address.Address.{Address}
use Rattle.mip_words.specs.declared.shield.Shield.{Shield}
use Rattle.mip_discovery.specs.Retries.{DiscoverySeen, retried}
use Rattle.mip_reception.specs.Statuses.{accepts_it, sequence_out_of_window}
use Rattle.mip_rules_mobile.specs.declared.attachment.Attachment.{Attachment}
use Rattle.mip_rules_mobile.specs.declared.attachment.Attachment.TheVariants.{Detached, AtHome, Away}
use Rattle.mip_rules_mobile.specs.declared.home_update.HomeUpdate.{HomeUpdate}
use Rattle.mip_words.specs.Constants.{initial_bindack_timeout_first_reg, initial_bindack_timeout, lifetime_unit, initial_dhaad_timeout}
use Rattle.mip_rules_mobile.specs.Timing.{refresh_unit}
use Rattle.mip_rules_mobile.specs.Trials.{is_idle}
use Rattle.mip_rules_mobile.specs.Sendings.{RegistersHome, DeregistersHome, Discovers}
use Rattle.mip_rules_mobile.specs.Steps.{Sends, Registers, Unregisters, IsRefused, Resequences, Seeks, SeeksAgain, GivesUp, Chooses, Waits, Stops}
use Rattle.mip_rules_mobile.specs.Known.{Known}
use Rattle.mip_rules_mobile.specs.HomeQuestions.{home_of, next_to, target_of}
use Rattle.mip_rules_mobile.specs.DiscoveryQuestions.{next_found}
use Rattle.mip_rules_mobile.specs.RowQuestions.{trial_of, is_bound_row, is_touched_row}
use Rattle.mip_rules_mobile.specs.TimerQuestions.{resending_home, renewing_home, seeking, later}
use Rattle.mip_rules_mobile.specs.Transitions.{Transition, noted}
use Rattle.mip_rules_mobile.specs.TrialRules.{each_row, starts}

-- a discovery begins: a request goes to all agents of the home link
unfoldable pub seeks : Address → Transition → Transition
seeks careof t =
    noted (Waits seeking initial_dhaad_timeout) (noted (Sends (Discovers (home_of t.known) careof t.known.discoveries)) (noted Seeks t))

-- the request again, or the end of the discovery after the last time
abbrev pub seeks_again_from : Address → Option DiscoverySeen → ℕ → Transition → Transition
seeks_again_from careof None identifier t = noted GivesUp t
seeks_again_from careof (Some d) identifier t =
    noted (Waits seeking (initial_dhaad_timeout * 2 ^ d.retries)) (noted (Sends (Discovers (home_of t.known) careof identifier)) (noted SeeksAgain t))

abbrev pub seeks_again_at : Attachment → Option DiscoverySeen → Transition → Transition
seeks_again_at (Away careof) (Some d) t = seeks_again_from careof (retried t.now d) d.identifier t
seeks_again_at (Away careof) None t = t
seeks_again_at Detached d t = t
seeks_again_at AtHome d t = t

unfoldable pub seeks_again : Transition → Transition
seeks_again t = seeks_again_at t.known.standing t.known.discovery t

-- a home registration to an agent, sent again after so many milliseconds
unfoldable pub registers_with : (careof agent : Address) → ℕ → Transition → Transition
registers_with careof agent wait t =
    noted (Waits resending_home wait) (noted (Sends (RegistersHome (home_of t.known) careof agent (next_to agent t.known.numberings))) t)

-- a deregistration
unfoldable pub deregisters_with : (agent : Address) → ℕ → Transition → Transition
deregisters_with agent wait t =
    noted (Waits resending_home wait) (noted (Sends (DeregistersHome (home_of t.known) agent (next_to agent t.known.numberings))) t)

-- the first registration of a life waits longer
abbrev pub wait_behind : Option HomeUpdate → ℕ
wait_behind None = initial_bindack_timeout_first_reg
wait_behind (Some u) = initial_bindack_timeout

abbrev pub registers_at : Address → Option Address → Transition → Transition
registers_at careof None t = seeks careof t
registers_at careof (Some agent) t = registers_with careof agent (wait_behind t.known.latest) t

-- a home registration; without an agent, a discovery
unfoldable pub registers : Address → Transition → Transition
registers careof t = registers_at careof (target_of t.known) t

-- away, the home address is registered: as a new life begins, and before a registration ends
abbrev pub registers_if_away : Attachment → Transition → Transition
registers_if_away Detached t = t
registers_if_away AtHome t = t
registers_if_away (Away careof) t = registers careof t

abbrev pub deregisters_at : Option Address → Transition → Transition
deregisters_at None t = t
deregisters_at (Some agent) t = deregisters_with agent initial_bindack_timeout t

-- the last registration or deregistration again, with a new sequence
abbrev pub resends_as : Attachment → Option HomeUpdate → ℕ → Transition → Transition
resends_as Detached u wait t = t
resends_as AtHome None wait t = t
resends_as AtHome (Some u) wait t = if u.deletes then deregisters_with u.agent wait t else t
resends_as (Away careof) None wait t = t
resends_as (Away careof) (Some u) wait t = if u.deletes then t else registers_with careof u.agent wait t

unfoldable pub resends_home : ℕ → Transition → Transition
resends_home wait t = resends_as t.known.standing t.known.latest wait t

-- at home only a deregistration is answered
abbrev pub is_answered_at : Attachment → HomeUpdate → Bool
is_answered_at Detached u = false
is_answered_at AtHome u = u.deletes
is_answered_at (Away careof) u = true

-- an acknowledgement of the last home registration or deregistration: in no tunnel, protected, from its agent, with its
-- sequence or status 135
abbrev pub is_answer_to : Attachment → (tunnelled : Bool) → Option Shield → (source : Address) (status sequence : ℕ) → HomeUpdate → Bool
is_answer_to standing tunnelled shield source status sequence u =
    not tunnelled && (is_some shield && ((source.0 == u.agent.0) && (((sequence == u.sequence) || (status == sequence_out_of_window)) && is_answered_at standing u)))

abbrev pub if_answered : Bool → HomeUpdate → Option HomeUpdate
if_answered answered u = if answered then Some u else None

abbrev pub answered_by : Attachment → (tunnelled : Bool) → Option Shield → (source : Address) (status sequence : ℕ) → Option HomeUpdate → Option HomeUpdate
answered_by standing tunnelled shield source status sequence None = None
answered_by standing tunnelled shield source status sequence (Some u) =
    if_answered (is_answer_to standing tunnelled shield source status sequence u) u

abbrev pub home_answered : Known → (tunnelled : Bool) → Option Shield → (source : Address) (status sequence : ℕ) → Option HomeUpdate
home_answered k tunnelled shield source status sequence = answered_by k.standing tunnelled shield source status sequence k.latest

-- once registered, each touched row that is idle and unbound starts a trial
abbrev pub starts_for : Bool → ℕ → Transition → Transition
starts_for due row t = if due then starts row t else t

abbrev pub starts_bound : ℕ → Transition → Transition
starts_bound row t =
    starts_for (is_touched_row t.known row && (is_idle (trial_of t.known row) && not (is_bound_row t.known t.now row))) row t

-- the registration: its end is counted from the sending, and so is its renewal
unfoldable pub is_registered : HomeUpdate → ℕ → Transition → Transition
is_registered u lifetime t =
    each_row starts_bound
    (noted (Registers u.agent (later u.at.0 (lifetime_unit * lifetime)) (later u.at.0 (refresh_unit * lifetime))) (noted (Stops resending_home) t))

-- once deregistered, each touched row starts a trial to delete its binding
abbrev pub starts_deletion : ℕ → Transition → Transition
starts_deletion row t = starts_for (is_touched_row t.known row) row t

unfoldable pub is_unregistered : HomeUpdate → Transition → Transition
is_unregistered u t = each_row starts_deletion (noted (Unregisters u.agent) (noted (Stops resending_home) t))

-- refused: the next agent that was found is tried; without one, nothing more is sent
abbrev pub turns_to : Attachment → Option Address → Transition → Transition
turns_to (Away careof) (Some agent) t = registers_with careof agent initial_bindack_timeout (noted (Chooses agent) t)
turns_to standing agent t = noted (Stops renewing_home) (noted (Stops resending_home) t)

unfoldable pub is_refused : ℕ → Transition → Transition
is_refused status t = turns_to t.known.standing (next_found t.known) (noted (IsRefused status) t)

-- status 135: the next sequence comes after the one received, and the sending follows at once
unfoldable pub is_behind : HomeUpdate → ℕ → Transition → Transition
is_behind u sequence t = resends_home initial_bindack_timeout (noted (Resequences u.agent sequence) t)

abbrev pub is_accepted : HomeUpdate → (status lifetime : ℕ) → Transition → Transition
is_accepted u status lifetime t =
    if u.deletes then is_unregistered u t
    else if lifetime == 0 then is_refused status t
    else is_registered u lifetime t

-- what an agent answers
unfoldable pub takes_home_ack : HomeUpdate → (status sequence lifetime : ℕ) → Transition → Transition
takes_home_ack u status sequence lifetime t =
    if accepts_it status then is_accepted u status lifetime t
    else if status == sequence_out_of_window then is_behind u sequence t
    else is_refused status t
