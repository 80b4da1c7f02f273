-- Rules of a mobile by which it claims no address and gives up none: sending, trials, the home registration.
use Rattle.std.proofs.Common.{◌≡◌, ℕ, List, [], ◌∷◌, refl}
use Rattle.std.specs.Prelude.{Option, Some, None, Bool, true, false, not, ◌==◌, ◌&&◌, if◌then◌else◌, Result, Ok, Err}
use Rattle.std.specs.List.{AllByRecursion}
use Rattle.mip_words.specs.Constants.{initial_bindack_timeout, max_bindack_timeout}
use Rattle.mip_words.specs.declared.address.Address.{Address}
use Rattle.mip_words.specs.declared.token.Cookie.{Cookie}
use Rattle.mip_reception.specs.declared.reply.Reply.{Reply}
use Rattle.mip_reception.specs.Replies.{reply_packet}
use Rattle.mip_discovery.specs.Retries.{DiscoverySeen, retried}
use Rattle.mip_reception.specs.Statuses.{accepts_it, sequence_out_of_window}
use Rattle.mip_bulist.specs.declared.aim.Aim.TheVariants.{Bind, Delete}
use Rattle.mip_bulist.specs.declared.any.Any.{Any}
use Rattle.mip_bulist.specs.declared.any.Any.TheVariants.{Idle, Probing, Proved, Pending, Bound}
use Rattle.mip_bulist.specs.declared.made.Made.{Made}
use Rattle.mip_bulist.specs.declared.refused.Refused.{Refused}
use Rattle.mip_bulist.specs.declared.refused.Refused.TheVariants as refused
use Rattle.mip_bulist.specs.declared.state.Probing as probing
use Rattle.mip_bulist.specs.declared.trial.Trial.{Trial}
use Rattle.mip_entries.specs.declared.answer.Answer.{Answer}
use Rattle.mip_entries.specs.declared.answer.Answer.TheVariants.{Send, Note}
use Rattle.mip_rules_correspondent.specs.declared.identity.Identity.{Identity}
use Rattle.mip_rules_correspondent.specs.Calls as parts
use Rattle.mip_rules_mobile.specs.declared.attachment.Attachment.{Attachment}
use Rattle.mip_rules_mobile.specs.declared.attachment.Attachment.TheVariants.{Detached, AtHome, Away}
use Rattle.mip_rules_mobile.specs.declared.home_update.HomeUpdate.{HomeUpdate}
use Rattle.mip_rules_mobile.specs.Calls.{Call}
use Rattle.mip_rules_mobile.specs.Timing.{doubled}
use Rattle.mip_rules_mobile.specs.Trials.{Rest, is_idle, makes, lacks_home, lacks_careof}
use Rattle.mip_rules_mobile.specs.Trials as trials
use Rattle.mip_rules_mobile.specs.Sendings.{Inner, OfPart, AsksHome}
use Rattle.mip_rules_mobile.specs.Steps.{Step, Parts, Notes, Claims, Releases, FindsTaken, Arrives, Detaches, Restarts, Chooses, Tries, IsRefused, Resequences}
use Rattle.mip_rules_mobile.specs.HomeQuestions.{home_of, registered_agent, agent_of, target_of}
use Rattle.mip_rules_mobile.specs.DiscoveryQuestions.{next_found}
use Rattle.mip_rules_mobile.specs.RowQuestions.{first_cookie, second_cookie, peer_of_row, trial_of, wait_of_row, is_bound_row, is_touched_row}
use Rattle.mip_rules_mobile.specs.Transitions.{Transition, noted}
use Rattle.mip_rules_mobile.specs.OutRules.{tunnels, goes_from, goes_out, passes_all, part_answers, asks_part, goes_back, replies}
use Rattle.mip_rules_mobile.specs.TrialRules.{starts_with, starts_at, starts, source_for, sends_update, makes_with, makes_at, updates, asks_home, asks_careof, asks_again, goes_on, resends_at, resends_row}
use Rattle.mip_rules_mobile.specs.HomeRules.{seeks, seeks_again_from, seeks_again_at, seeks_again, registers_with, deregisters_with, registers_at, registers, deregisters_at, resends_as, resends_home, starts_for, starts_bound, is_registered, starts_deletion, is_unregistered, turns_to, is_refused, is_behind, is_accepted, takes_home_ack}
use Rattle.mip_rules_mobile.specs.PeerRules.{cookie}
use Rattle.mip_rules_mobile.specs.MovingRules.{settles_at, settles, registers_if_away}
use Rattle.mip_rules_mobile.specs.Fitting.{IsAsked}
use Rattle.mip_rules_mobile.proofs.Steady.{Notings}
use Rattle.mip_rules_mobile.proofs.PartAnswers.{IsPartAnswer, part-answers}
use Rattle.mip_rules_mobile.proofs.TrialWalks.{every-row}

-- a step that neither moves the mobile nor is an entry of its correspondent part
abbrev pub is_plain : Step → Bool
is_plain (Notes entry) = false
is_plain (Claims address) = false
is_plain (Releases address) = false
is_plain (FindsTaken address holder) = false
is_plain (Arrives address) = false
is_plain Detaches = false
is_plain (Restarts secrets) = false
is_plain _ = true

-- what such a step keeps, and an entry of the correspondent part
module _ (P : Transition → Type 0) (one : (step : Step) (t : Transition) → is_plain step ≡ true → P t → P (noted step t)) (notes : Notings P) where
  -- packets
  pub still_out : (inner : Inner) (t : Transition) → P t → P (goes_out inner t)
  unfolding goes_out
  still_out inner t p = by t.known.standing
    where
      away : (careof : Address) (agent : Option Address) → P (tunnels careof inner agent t)
      away careof None = one _ t refl p
      away careof (Some agent) = one _ t refl p

      by : (s : Attachment) → P (goes_from s inner t)
      by Detached = one _ t refl p
      by AtHome = one _ t refl p
      by (Away careof) = away careof (registered_agent t.known t.now)

  still_passes : (c : Call) (me : Identity) (now : ℕ) (answers : List Answer) → AllByRecursion (IsPartAnswer c me now) answers → (t : Transition) → P t → P (passes_all answers t)
  unfolding passes_all
  still_passes c me now [] all t p = p
  still_passes c me now (Send shield packet ∷ answers) all t p = still_passes c me now answers all.1 (goes_out (OfPart packet) t) (still_out (OfPart packet) t p)
  still_passes c me now (Note entry ∷ answers) all t p = still_passes c me now answers all.1 (noted (Notes entry) t) (notes entry t all.0 p)

  pub still_part : (c : Call) (call : parts.Call) → IsAsked c call → (t : Transition) → P t → P (asks_part call t)
  unfolding asks_part
  still_part c call asked t p =
      still_passes c t.known.part.identity t.now (part_answers t call) (part-answers c t.known.part.identity t.known.part.known t.now call asked) (noted (Parts call) t)
      (one (Parts call) t refl p)

  pub still_replies : (source : Address) (bytes : List ℕ) (reply : Reply) (t : Transition) → P t → P (replies source bytes reply t)
  unfolding replies
  still_replies source bytes reply t p = by (reply_packet (home_of t.known) source bytes reply)
    where
      by : (o : Option (List ℕ)) → P (goes_back o t)
      by None = p
      by (Some packet) = still_out (OfPart packet) t p

  -- trials
  pub still_starts : (row : ℕ) (t : Transition) → P t → P (starts row t)
  unfolding starts
  still_starts row t p = by (peer_of_row t.known row)
    where
      home : Cookie
      home = first_cookie t.known

      other : Cookie
      other = second_cookie t.known

      from : (peer : Address) (s : Attachment) → P (starts_with s row peer t)
      from peer Detached = p
      from peer AtHome = let first = noted (Tries row (trials.Start Delete home home)) t in one _ _ refl (still_out (AsksHome peer home.0) first (one _ t refl p))
      from peer (Away careof) = let first = noted (Tries row (trials.Start (Bind careof) home other)) t in one _ _ refl (one _ _ refl (still_out (AsksHome peer home.0) first (one _ t refl p)))

      by : (peer : Option Address) → P (starts_at peer row t)
      by None = p
      by (Some peer) = from peer t.known.standing

  still_sends : (source : Option Address) (row : ℕ) (peer : Address) (made : Made) (wait : ℕ) (t : Transition) → P t → P (sends_update source row peer made wait t)
  still_sends None row peer made wait t p = p
  still_sends (Some source) row peer made wait t p = one _ _ refl (one _ t refl p)

  pub still_updates : (row wait : ℕ) (t : Transition) → P t → P (updates row wait t)
  unfolding updates
  still_updates row wait t p = by (peer_of_row t.known row)
    where
      of : (peer : Address) (o : Option (Result Made Refused)) → P (makes_with o row peer wait t)
      of peer None = p
      of peer (Some (Ok made)) = still_sends (source_for t.known.standing (home_of t.known) made) row peer made wait t p
      of peer (Some (Err refused.Old)) = still_starts row t p
      of peer (Some (Err refused.TooSoon)) = one _ t refl p
      of peer (Some (Err refused.Cookie)) = p
      of peer (Some (Err refused.NotMine)) = p

      by : (peer : Option Address) → P (makes_at peer row wait t)
      by None = p
      by (Some peer) = of peer (makes (record { 0 = t.now }) (trial_of t.known row))

  still_home : (lacks : Bool) (peer : Address) (cookie : ℕ) (t : Transition) → P t → P (asks_home lacks peer cookie t)
  still_home true peer cookie t p = still_out (AsksHome peer cookie) t p
  still_home false peer cookie t p = p

  still_careof : (lacks : Bool) (s : Attachment) (peer : Address) (cookie : ℕ) (t : Transition) → P t → P (asks_careof lacks s peer cookie t)
  still_careof lacks Detached peer cookie t p = p
  still_careof lacks AtHome peer cookie t p = p
  still_careof true (Away careof) peer cookie t p = one _ t refl p
  still_careof false (Away careof) peer cookie t p = p

  still_again : (row : ℕ) (peer : Address) (u : Trial probing.Probing) (t : Transition) → P t → P (asks_again row peer u t)
  unfolding asks_again
  still_again row peer u t p =
      still_careof (lacks_careof u) t.known.standing peer u.state.careof_cookie.0 (asks_home (lacks_home u) peer u.state.home_cookie.0 t)
      (still_home (lacks_home u) peer u.state.home_cookie.0 t p)

  still_on : (o : Option Any) (row : ℕ) (peer : Address) (wait : ℕ) (t : Transition) → P t → P (goes_on o row peer wait t)
  still_on (Some (Probing u)) row peer wait t p = one _ (asks_again row peer u t) refl (still_again row peer u t p)
  still_on (Some (Proved u)) row peer wait t p = still_updates row wait t p
  still_on (Some (Pending u)) row peer wait t p = still_updates row wait t p
  still_on (Some (Idle u)) row peer wait t p = p
  still_on (Some (Bound u)) row peer wait t p = p
  still_on None row peer wait t p = p

  pub still_row : (row : ℕ) (t : Transition) → P t → P (resends_row row t)
  unfolding resends_row
  still_row row t p = by (peer_of_row t.known row)
    where
      last : (peer : Address) (wait : ℕ) (over : Bool) → P (if over then noted (Tries row Rest) t else goes_on (trial_of t.known row) row peer (doubled wait) t)
      last peer wait true = one _ t refl p
      last peer wait false = still_on (trial_of t.known row) row peer (doubled wait) t p

      by : (peer : Option Address) → P (resends_at peer row (wait_of_row t.known row) t)
      by None = p
      by (Some peer) = last peer (wait_of_row t.known row) (wait_of_row t.known row == max_bindack_timeout)

  -- the home registration, and the search for agents
  still_seeks : (careof : Address) (t : Transition) → P t → P (seeks careof t)
  unfolding seeks
  still_seeks careof t p = one _ _ refl (one _ _ refl (one _ t refl p))

  pub still_search : (t : Transition) → P t → P (seeks_again t)
  unfolding seeks_again
  still_search t p = by t.known.standing t.known.discovery
    where
      from : (careof : Address) (d : DiscoverySeen) (o : Option DiscoverySeen) → P (seeks_again_from careof o d.identifier t)
      from careof d None = one _ t refl p
      from careof d (Some e) = one _ _ refl (one _ _ refl (one _ t refl p))

      by : (s : Attachment) (d : Option DiscoverySeen) → P (seeks_again_at s d t)
      by (Away careof) (Some d) = from careof d (retried t.now d)
      by (Away careof) None = p
      by Detached d = p
      by AtHome d = p

  still_with : (careof agent : Address) (wait : ℕ) (t : Transition) → P t → P (registers_with careof agent wait t)
  unfolding registers_with
  still_with careof agent wait t p = one _ _ refl (one _ t refl p)

  still_without : (agent : Address) (wait : ℕ) (t : Transition) → P t → P (deregisters_with agent wait t)
  unfolding deregisters_with
  still_without agent wait t p = one _ _ refl (one _ t refl p)

  pub still_registers : (careof : Address) (t : Transition) → P t → P (registers careof t)
  unfolding registers
  still_registers careof t p = by (target_of t.known)
    where
      by : (agent : Option Address) → P (registers_at careof agent t)
      by None = still_seeks careof t p
      by (Some agent) = still_with careof agent _ t p

  still_deregisters : (agent : Option Address) (t : Transition) → P t → P (deregisters_at agent t)
  still_deregisters None t p = p
  still_deregisters (Some agent) t p = still_without agent initial_bindack_timeout t p

  pub still_resends : (wait : ℕ) (t : Transition) → P t → P (resends_home wait t)
  unfolding resends_home
  still_resends wait t p = by t.known.standing t.known.latest
    where
      home : (u : HomeUpdate) (deletes : Bool) → P (if deletes then deregisters_with u.agent wait t else t)
      home u true = still_without u.agent wait t p
      home u false = p

      away : (careof : Address) (u : HomeUpdate) (deletes : Bool) → P (if deletes then t else registers_with careof u.agent wait t)
      away careof u true = p
      away careof u false = still_with careof u.agent wait t p

      by : (s : Attachment) (u : Option HomeUpdate) → P (resends_as s u wait t)
      by Detached u = p
      by AtHome None = p
      by AtHome (Some u) = home u u.deletes
      by (Away careof) None = p
      by (Away careof) (Some u) = away careof u u.deletes

  -- it settles where it comes to, and registers anew where it restarted away
  pub still_settles : (t : Transition) → P t → P (settles t)
  unfolding settles
  still_settles t p = by t.known.standing
    where
      home : (owes : Bool) → P (if owes then deregisters_at (agent_of t.known t.now) t else t)
      home true = still_deregisters (agent_of t.known t.now) t p
      home false = p

      by : (s : Attachment) → P (settles_at s t)
      by Detached = p
      by AtHome = home t.known.owes
      by (Away careof) = still_registers careof t p

  pub still_if_away : (s : Attachment) (t : Transition) → P t → P (registers_if_away s t)
  still_if_away Detached t p = p
  still_if_away AtHome t p = p
  still_if_away (Away careof) t p = still_registers careof t p

  still_starting : (due : Bool) (row : ℕ) (t : Transition) → P t → P (starts_for due row t)
  still_starting true row t p = still_starts row t p
  still_starting false row t p = p

  still_refused : (status : ℕ) (t : Transition) → P t → P (is_refused status t)
  unfolding is_refused
  still_refused status t p = by t.known.standing (next_found t.known)
    where
      first : Transition
      first = noted (IsRefused status) t

      q : P first
      q = one (IsRefused status) t refl p

      by : (s : Attachment) (agent : Option Address) → P (turns_to s agent first)
      by (Away careof) (Some agent) = still_with careof agent initial_bindack_timeout (noted (Chooses agent) first) (one _ first refl q)
      by (Away careof) None = one _ _ refl (one _ first refl q)
      by Detached agent = one _ _ refl (one _ first refl q)
      by AtHome agent = one _ _ refl (one _ first refl q)

  still_unregistered : (u : HomeUpdate) (t : Transition) → P t → P (is_unregistered u t)
  unfolding is_unregistered
  still_unregistered u t p = every-row P starts_deletion (λ row v q. still_starting (is_touched_row v.known row) row v q) _ (one _ _ refl (one _ t refl p))

  still_registered : (u : HomeUpdate) (lifetime : ℕ) (t : Transition) → P t → P (is_registered u lifetime t)
  unfolding is_registered
  still_registered u lifetime t p =
      every-row P starts_bound (λ row v q. still_starting (is_touched_row v.known row && (is_idle (trial_of v.known row) && not (is_bound_row v.known v.now row))) row v q) _
      (one _ _ refl (one _ t refl p))

  still_behind : (u : HomeUpdate) (sequence : ℕ) (t : Transition) → P t → P (is_behind u sequence t)
  unfolding is_behind
  still_behind u sequence t p = still_resends initial_bindack_timeout (noted (Resequences u.agent sequence) t) (one _ t refl p)

  pub still_home_ack : (u : HomeUpdate) (status sequence lifetime : ℕ) (t : Transition) → P t → P (takes_home_ack u status sequence lifetime t)
  unfolding takes_home_ack
  still_home_ack u status sequence lifetime t p = by (accepts_it status) (status == sequence_out_of_window)
    where
      granted : (deletes none : Bool) → P (if deletes then is_unregistered u t else if none then is_refused status t else is_registered u lifetime t)
      granted true none = still_unregistered u t p
      granted false true = still_refused status t p
      granted false false = still_registered u lifetime t p

      by : (accepted behind : Bool) → P (if accepted then is_accepted u status lifetime t else if behind then is_behind u sequence t else is_refused status t)
      by true behind = granted u.deletes (lifetime == 0)
      by false true = still_behind u sequence t p
      by false false = still_refused status t p
