-- The agent to which a mobile sent its last home registration is the one that its packets name.
use Rattle.std.proofs.Common.{◌≡◌, ◌≢◌, ℕ, ◌<◌, List, [], ◌∷◌, ◌++◌, length, Bool, true, false, inl, inr, refl, sym, ap, ◌∙◌, subst, arith, length-set}
use Rattle.std.specs.Prelude.{fold, ◌&&◌, ◌==◌, if◌then◌else◌, Option, Some, None, is_some, unwrap_or, option_map, slice_get, slice_index_or, Result, Ok, Err}
use Rattle.std.specs.List.{AllByRecursion}
use Rattle.std.specs.Result.{result_ok}
use Rattle.std.proofs.lemmas.Bool.{cases_eq, eq-eqb, ne_eqb}
use Rattle.std.proofs.lemmas.List.{append_assoc, length-map, get_or-set_same}
use Rattle.std.proofs.lemmas.List.Sums.{fold-append}
use Rattle.std.proofs.lemmas.Option.{slice_get_within}
use Rattle.mip_words.specs.declared.address.Address.{Address}
use Rattle.mip_nonce.specs.Secrets.{Life}
use Rattle.mip_ipv6.specs.declared.not_packet.NotPacket.{NotPacket}
use Rattle.mip_ipv6.specs.Packet.{Packet, names_no_body, source_of, destination_of}
use Rattle.mip_ipv6.specs.Spelling.{packet_bytes}
use Rattle.mip_mobhdr.specs.Reading.{message_of}
use Rattle.mip_ipv6.specs.Reading.{packet_of}
use Rattle.mip_ipv6.specs.Tunnel.{tunnel_packet, encapsulated}
use Rattle.mip_packets.specs.Packets.{data_packet}
use Rattle.mip_packets.specs.Says.{message_in}
use Rattle.mip_packets.proofs.WrittenPackets.{read_back}
use Rattle.mip_entries.specs.declared.answer.Answer.{Answer}
use Rattle.mip_entries.specs.declared.answer.Answer.TheVariants.{Send, Note}
use Rattle.mip_entries.specs.declared.entry.Entry.{Entry}
use Rattle.mip_entries.specs.declared.entry.Entry.TheVariants as entries
use Rattle.mip_entries.specs.Completed.{node_id, named}
use Rattle.mip_entries.specs.Stamped.{Stamped, stamped}
use Rattle.mip_entries.specs.Transitions.{noted_by}
use Rattle.mip_provenance.specs.declared.accepted_update.AcceptedUpdate.{AcceptedUpdate}
use Rattle.mip_provenance.specs.declared.mark.Mark.{Mark}
use Rattle.mip_provenance.specs.declared.mark.Mark.TheVariants.{Origin, Forged}
use Rattle.mip_provenance.specs.Entries.{mark_entry}
use Rattle.mip_provenance.specs.Marks.{mark_in}
use Rattle.mip_outside.specs.Places.{claim_in}
use Rattle.mip_rules_correspondent.specs.Calls as correspondent_calls
use Rattle.mip_rules_agent.specs.Calls as agent_calls
use Rattle.mip_rules_mobile.specs.declared.attachment.Attachment.{Attachment}
use Rattle.mip_rules_mobile.specs.declared.attachment.Attachment.TheVariants.{Detached, AtHome, Away}
use Rattle.mip_rules_mobile.specs.Calls as mobiles
use Rattle.mip_rules_mobile.specs.Sendings.{Sending, FromHome, ByTunnel, AsksCareof, RegistersHome, DeregistersHome, SendsData, Discovers, Solicits, packet_of_sending, shield_of, solicitation_packet}
use Rattle.mip_rules_mobile.specs.Steps.{Step, Called, Notes, Sends, Restarts, Updates, answers_of}
use Rattle.mip_rules_mobile.specs.Known.{Known}
use Rattle.mip_rules_mobile.specs.HomeQuestions.{agent_said}
use Rattle.mip_rules_mobile.specs.Questions.{after, known}
use Rattle.mip_rules_mobile.specs.Transitions.{Transition, begun, noted, with_transition}
use Rattle.mip_rules_mobile.specs.MovingRules.{address_under, registers_if_away, restarts}
use Rattle.mip_rules_mobile.specs.PartLaws.{is_restart}
use Rattle.mip_rules_mobile.specs.Doing.{does, transition_of}
use Rattle.mip_rules_mobile.specs.Fitting.{Fits, EachFits, kind_of}
use Rattle.mip_rules_mobile.specs.Fitting.Kind.{Steady}
use Rattle.mip_rules_mobile.proofs.Steady.{standing-noted}
use Rattle.mip_rules_mobile.proofs.HomeWalks.{every-registers}
use Rattle.mip_rules_mobile.proofs.Fits.{known_along, call-along}
use Rattle.mip_links.specs.Table.{Post, holder_outside}
use Rattle.mip_schedule.specs.declared.event.Event.{Event}
use Rattle.mip_history.specs.Setup.{Setup, Host, Kind, is_mobile_host}
use Rattle.mip_history.specs.Setup.Kind.{Correspondent, Agent, Mobile}
use Rattle.mip_history.specs.Runs.{Run, note, entered, mobile_past_at, with_past, with_agent_past, with_mobile_past}
use Rattle.mip_history.specs.Calls as calls
use Rattle.mip_history.specs.Calls.{for_correspondent, for_agent, for_mobile}
use Rattle.mip_history.specs.Knowing.{now_in, secrets_in, mobile_known_in, around_in}
use Rattle.mip_history.specs.Nodes.{left_by, answered_one, answered, after_mobile_transition, asks, by_kind, by_host, acts}
use Rattle.mip_history.specs.Permitted.{run_of}
use Rattle.mip_history.proofs.Opening.{nothing}
use Rattle.mip_history.proofs.Keeping.{is_busy, is_rebirth, emptied, Keeps, keeps_claims, keeps_gives_up, keeps_overheard}
use Rattle.mip_history.proofs.Folds.{emptied_keeps}
use Rattle.mip_history.proofs.Effects.{answers_mobiles}
use Rattle.mip_history.proofs.Walking.{walk_run}
use Rattle.mip_settled.proofs.Roaming.{others_acts, known_then}
use Rattle.mip_past.specs.Registering.{agent_by, packet_agent, sent_to, last_sent_to}
use Rattle.mip_past.specs.SendingLaws.{IsSpellable, AreSpellable}
use Rattle.mip_past.proofs.Sending.{read_as_sent, ends_none}
use Rattle.mip_past.proofs.PlacesTold.{no_past}

-- a packet of another protocol asks no agent
message_none : (q : Packet) → (q.head.proto == 135) ≡ false → message_in q ≡ None
message_none q is = ap (λ (b : Bool). if b then result_ok (message_of (source_of q.head) (destination_of q.head) q.body) else None) is

other_none : (p : Packet) → names_no_body p.head.proto ≡ false → (p.head.proto == 135) ≡ false → packet_agent (packet_of (packet_bytes p)) ≡ None
other_none p plain other = by (packet_of (packet_bytes p)) refl
  where
    by : (r : Result Packet NotPacket) → packet_of (packet_bytes p) ≡ r → packet_agent r ≡ None
    by (Err fault) read = refl
    by (Ok q) read = let back = read_back p q plain read in ap (agent_by q) (message_none q (ap (λ (n : ℕ). n == 135) back.proto ∙ other))

tunnel_none : (entry exit : Address) (packet : List ℕ) → packet_agent (packet_of (encapsulated entry exit packet)) ≡ None
unfolding encapsulated
tunnel_none entry exit packet = other_none (tunnel_packet entry exit packet) refl refl

solicitation_none : (home careof agent : Address) (identifier : ℕ) → packet_agent (packet_of (solicitation_packet home careof agent identifier)) ≡ None
unfolding solicitation_packet data_packet
solicitation_none home careof agent identifier = other_none _ refl refl

mark_none : (m : ℕ) (k : Mark) → sent_to m (mark_entry k) ≡ None
mark_none m (Origin hot cot update) = refl
mark_none m (Forged cause) = refl

module _ (m : ℕ) where
  abbrev f : Option Address → Entry → Option Address
  f x e = unwrap_or (sent_to m e) x

  abbrev sends : ℕ → Bool → List ℕ → Entry
  sends n shielded packet = entries.Sent 0 (node_id n) shielded packet

  busy_none : (e : Entry) → is_busy e ≡ false → sent_to m e ≡ None
  busy_none (entries.Sent number node shielded packet) quiet = absurd cc
  busy_none (entries.Restarted node) quiet = absurd cc
  busy_none _ quiet = refl

  -- what an answer of node n tells, and a step of the mobile
  abbrev answer_told : ℕ → Option Address → Answer → Option Address
  answer_told n x (Send shield packet) = f x (sends n (is_some shield) packet)
  answer_told n x (Note e) = x

  abbrev step_told : Option Address → Step → Option Address
  step_told x (Sends sending) = f x (sends m (is_some (shield_of sending)) (packet_of_sending sending))
  step_told x _ = x

  bare_none : (x : Option Address) (packet : List ℕ) → f x (sends m false packet) ≡ x
  bare_none x packet = by (m == m)
    where
      by : (b : Bool) → unwrap_or (if b && false then option_map (λ a. Some a) (packet_agent (packet_of packet)) else None) x ≡ x
      by true = refl
      by false = refl

  own_answers : (x : Option Address) (steps : List Step) → fold (answer_told m) x (answers_of steps) ≡ fold step_told x steps
  own_answers x [] = refl
  own_answers x (Notes entry ∷ steps) = own_answers x steps
  own_answers x (Sends sending ∷ steps) = own_answers (f x (sends m (is_some (shield_of sending)) (packet_of_sending sending))) steps
  own_answers x (Updates row update ∷ steps) = ap (λ (y : Option Address). fold (answer_told m) y (answers_of steps)) (bare_none x _) ∙ own_answers x steps
  own_answers x (_ ∷ steps) = own_answers x steps

  other_answers : (n : ℕ) → m ≢ n → (x : Option Address) (answers : List Answer) → fold (answer_told n) x answers ≡ x
  other_answers n other x [] = refl
  other_answers n other x (Note e ∷ answers) = other_answers n other x answers
  other_answers n other x (Send shield packet ∷ answers) =
      ap (λ (b : Bool). fold (answer_told n) (unwrap_or (if b && is_some shield then option_map (λ a. Some a) (packet_agent (packet_of packet)) else None) x) answers) (ne_eqb m n other)
      ∙ other_answers n other x answers

  -- what is sent and asks none
  shield_none : (x : Option Address) (shielded : Bool) (packet : List ℕ) → packet_agent (packet_of packet) ≡ None → f x (sends m shielded packet) ≡ x
  shield_none x shielded packet none = by ((m == m) && shielded)
    where
      by : (b : Bool) → unwrap_or (if b then option_map (λ a. Some a) (packet_agent (packet_of packet)) else None) x ≡ x
      by true = ap (λ (o : Option Address). unwrap_or (option_map (λ a. Some a) o) x) none
      by false = refl

  sends_row : (x : Option Address) (sending : Sending) → IsSpellable (Sends sending) → f x (sends m (is_some (shield_of sending)) (packet_of_sending sending)) ≡ unwrap_or (agent_said (Sends sending)) x
  sends_row x (FromHome home inner) is = bare_none x _
  sends_row x (ByTunnel home careof agent inner) is = shield_none x _ _ (tunnel_none careof agent _)
  sends_row x (AsksCareof careof peer cookie) is = bare_none x _
  sends_row x (RegistersHome home careof agent sequence) is =
      let read = read_as_sent home careof agent sequence is.0 is.1 in
      ap (λ (b : Bool). unwrap_or (if b && true then option_map (λ a. Some a) (packet_agent (packet_of (packet_of_sending (RegistersHome home careof agent sequence)))) else None) x) (eq-eqb m m refl)
      ∙ ap (λ (o : Option Address). unwrap_or (option_map (λ a. Some a) o) x) read.registers
  sends_row x (DeregistersHome home agent sequence) is = shield_none x _ _ (ends_none home agent sequence is.0 is.1 is.2)
  sends_row x (SendsData home careof to held proto payload) is = bare_none x _
  sends_row x (Discovers home careof identifier) is = bare_none x _
  sends_row x (Solicits home careof agent identifier) is = shield_none x _ _ (solicitation_none home careof agent identifier)

  row : (c : mobiles.Call) (now : ℕ) (x : Option Address) (k : Known) (step : Step) → is_restart c ≡ false → Fits c now k step → IsSpellable step → x ≡ k.agent
      → step_told x step ≡ (let l : Known = after k (record { at = now; step = step }) in l.agent)
  unfolding after
  row c now x k (Sends sending) lives fits is same = sends_row x sending is ∙ ap (unwrap_or (agent_said (Sends sending))) same
  row c now x k (Restarts secrets) lives fits is same = absurd (let both : false ≡ true = sym lives ∙ ap is_restart fits in cc)
  row c now x k _ lives fits is same = same

  along : (c : mobiles.Call) (now : ℕ) (steps : List Step) (x : Option Address) (k : Known) → is_restart c ≡ false → EachFits c now k steps → AllByRecursion IsSpellable steps → x ≡ k.agent
      → fold step_told x steps ≡ (let l : Known = known_along k now steps in l.agent)
  along c now [] x k lives each are same = same
  along c now (step ∷ steps) x k lives each are same =
      along c now steps (step_told x step) (after k (record { at = now; step = step })) lives each.1 are.1 (row c now x k step lives each.0 are.0 same)

  lives_told : (k : Known) (now : ℕ) (x : Option Address) (c : mobiles.Call) → is_restart c ≡ false → (let t : Transition = transition_of k now c in AllByRecursion IsSpellable t.steps) → x ≡ k.agent
      → (let t : Transition = transition_of k now c in fold step_told x t.steps ≡ (let l : Known = t.known in l.agent))
  lives_told k now x c lives are same =
      let a = call-along k now c in
      let t : Transition = transition_of k now c in
      along c now t.steps x k lives a.each are same ∙ ap (λ (l : Known). l.agent) (sym a.known)

  all_first : (steps : List Step) (step : Step) → AllByRecursion IsSpellable (steps ++ step ∷ []) → AllByRecursion IsSpellable steps × IsSpellable step
  all_first [] step all = (tt, all.0)
  all_first (x ∷ steps) step all = let more = all_first steps step all.1 in ((all.0, more.0), more.1)

  -- it restarts: its entry stood before the transition
  module _ (k : Known) (now : ℕ) (secrets : Life) where
    record Follows (t : Transition) : Type 0 where
      joined : AllByRecursion IsSpellable t.steps → fold step_told None t.steps ≡ (let l : Known = t.known in l.agent)

    steady_row : (k : Known) (at : ℕ) (x : Option Address) (step : Step) → kind_of step ≡ Steady → IsSpellable step → x ≡ k.agent → step_told x step ≡ (let l : Known = after k (record { at = at; step = step }) in l.agent)
    unfolding after
    steady_row k at x (Sends sending) steady is same = sends_row x sending is ∙ ap (unwrap_or (agent_said (Sends sending))) same
    steady_row k at x (Restarts secrets) steady is same = absurd cc
    steady_row k at x _ steady is same = same

    follows_step : (step : Step) (t : Transition) → kind_of step ≡ Steady → Follows t → Follows (noted step t)
    unfolding noted_by
    follows_step step t steady is = record {
      joined = λ all. (let parts = all_first t.steps step all in fold-append step_told None t.steps (step ∷ []) ∙ steady_row t.known t.now (fold step_told None t.steps) step steady parts.1 (is.joined parts.0));
    }

    abbrev c : mobiles.Call
    c = mobiles.Restart secrets

    abbrev first : Transition
    first = noted (Called c) (begun now k)

    follows_next : Follows (noted (Restarts secrets) first)
    unfolding noted_by after
    follows_next = record { joined = λ all. refl }

    restart_told : (let t : Transition = transition_of k now c in AllByRecursion IsSpellable t.steps → fold step_told None t.steps ≡ (let l : Known = t.known in l.agent))
    unfolding does restarts
    restart_told = let is = by first.known.standing refl in is.joined
      where
        by : (st : Attachment) → first.known.standing ≡ st → Follows (registers_if_away st (noted (Restarts secrets) first))
        by Detached here = follows_next
        by AtHome here = follows_next
        by (Away careof) here =
            every-registers c Follows (λ step t steady fits is. follows_step step t steady is) careof (noted (Restarts secrets) first) (standing-noted (Restarts secrets) first ∙ here) follows_next

fresh_agent : (own : Address) (agent : Option Address) (numbers : ℕ) (secrets : Life) → (let l : Known = known own agent numbers secrets [] in l.agent) ≡ None
unfolding known
fresh_agent own agent numbers secrets = refl

-- all of a past, and all of what follows it
all_parts : (past : List (Stamped Step)) (now : ℕ) (steps : List Step) → AreSpellable (past ++ stamped now steps) → AreSpellable past × AllByRecursion IsSpellable steps
all_parts [] now [] all = (tt, tt)
all_parts [] now (step ∷ steps) all = let more = all_parts [] now steps all.1 in (tt, (all.0, more.1))
all_parts (s ∷ past) now steps all = let more = all_parts past now steps all.1 in ((all.0, more.0), more.1)

module _ (s : Setup) (m : ℕ) (own : Address) (agent : Option Address) (host : slice_get s.hosts m ≡ Some (record { address = own; kind = Mobile agent })) where
  abbrev k : Run → Known
  k run = mobile_known_in s run m own agent

  abbrev told : Run → Option Address
  told run = last_sent_to run.past m

  record IsTold (run : Run) : Type 0 where
    long : length run.mobile_pasts ≡ length s.hosts
    joined : AreSpellable (mobile_past_at run m) → told run ≡ (let l : Known = k run in l.agent)

  told_push : (run : Run) (e : Entry) → told (note e run) ≡ f m (told run) e
  told_push run e = fold-append (f m) None run.past (e ∷ [])

  -- what is seen of a run
  record Seen (x : Option Address) (run next : Run) : Type 0 where
    told_is : told next ≡ x
    pasts_are : next.mobile_pasts ≡ run.mobile_pasts

  seen_one : (x : Option Address) (run next : Run) (e : Entry) → sent_to m e ≡ None → Seen x run next → Seen x run (note e next)
  seen_one x run next e none seen = record { told_is = told_push next e ∙ ap (λ (o : Option (Option Address)). unwrap_or o (told next)) none ∙ seen.told_is; pasts_are = seen.pasts_are }

  seen_idle : (x : Option Address) (run next : Run) (e : Entry) → is_busy e ≡ false → Seen x run next → Seen x run (note e next)
  seen_idle x run next e quiet seen = seen_one x run next e (busy_none m e quiet) seen

  seen_left : (x : Option Address) (run next : Run) (n : ℕ) (e : Entry) → Seen x run next → Seen x run (left_by s n next e)
  seen_left x run next n (entries.Claimed who link address) seen = keeps_claims s (Seen x run) (seen_idle x run) n address next (λ on holder. seen_one x run next (entries.Taken n on address holder) refl seen) seen
  seen_left x run next n (entries.Taken who link address holder) seen = keeps_claims s (Seen x run) (seen_idle x run) n address next (λ on other. seen_one x run next (entries.Taken n on address other) refl seen) seen
  seen_left x run next n (entries.Released who link address) seen = keeps_gives_up s (Seen x run) (seen_idle x run) n address next seen
  seen_left x run next n (entries.Restarted node) seen = seen
  seen_left x run next n (entries.Accepted node number home binding careof sequence end i j) seen =
      let update : AcceptedUpdate = record { node = node_id n; number = number; home = home; careof = careof; home_index = i; careof_index = j } in
      let e : Entry = entries.Accepted (node_id n) number home binding careof sequence end i j in
      let mark : Entry = mark_entry (mark_in next.past update) in
      subst (λ (l : List Entry). Seen x run (record next { past = l })) (append_assoc next.past (e ∷ []) (mark ∷ []))
      (seen_one x run (note e next) mark (mark_none m (mark_in next.past update)) (seen_one x run next e refl seen))
  seen_left x run next n e seen = seen_one x run next (named n 0 (length next.posts) e) refl seen

  seen_answer : (x : Option Address) (run next : Run) (n from : ℕ) (answer : Answer) → Seen x run next → Seen (answer_told m n x answer) run (answered_one s n from next answer)
  seen_answer x run next n from (Send shield packet) seen =
      let post : Post = record { from = from; shield = shield; packet = packet } in
      let e : Entry = entries.Sent (length next.posts) (node_id n) (is_some shield) packet in
      keeps_overheard s (Seen (answer_told m n x (Send shield packet)) run) (seen_idle (answer_told m n x (Send shield packet)) run) from shield None (length next.posts) (entered post (note e next))
      (record { told_is = told_push next e ∙ ap (λ (y : Option Address). f m y e) seen.told_is; pasts_are = seen.pasts_are })
  seen_answer x run next n from (Note e) seen = seen_left x run next n e seen

  seen_answers : (x : Option Address) (run next : Run) (n from : ℕ) (answers : List Answer) → Seen x run next → Seen (fold (answer_told m n) x answers) run (answered s n from next answers)
  unfolding answered
  seen_answers x run next n from [] seen = seen
  seen_answers x run next n from (answer ∷ answers) seen = seen_answers (answer_told m n x answer) run (answered_one s n from next answer) n from answers (seen_answer x run next n from answer seen)

  goes_on : (run next : Run) → told next ≡ told run → length next.mobile_pasts ≡ length run.mobile_pasts → mobile_past_at next m ≡ mobile_past_at run m → IsTold run → IsTold next
  goes_on run next same long past t = record {
    long = long ∙ t.long;
    joined = λ are. same ∙ t.joined (subst AreSpellable past are) ∙ ap (λ (l : List (Stamped Step)). let x : Known = known own agent s.numbers (secrets_in s m 0) l in x.agent) (sym past);
  }

  one_entry : (run : Run) (e : Entry) → sent_to m e ≡ None → IsTold run → IsTold (note e run)
  one_entry run e none t = goes_on run (note e run) (told_push run e ∙ ap (λ (o : Option (Option Address)). unwrap_or o (told run)) none) refl refl t

  -- another node
  module _ (n : ℕ) (other : m ≢ n) where
    other_goes : (from : ℕ) (answers : List Answer) (run start : Run) → told start ≡ told run → told (answered s n from start answers) ≡ told run
    other_goes from answers run start same =
        let seen = seen_answers (told run) start start n from answers (record { told_is = same; pasts_are = refl }) in
        seen.told_is ∙ other_answers m n other (told run) answers

    other_asks : {C : Type 0} (does : C → Run → Run) (call : Option C) (run : Run) → ((c : C) → told (does c run) ≡ told run) → told (asks does call run) ≡ told run
    other_asks does None run go = told_push run entries.Idle
    other_asks does (Some call) run go = go call

    other_kind : (at : Address) (call : calls.Call) (run : Run) (kind : Kind) → told (by_kind s n at call run kind) ≡ told run
    other_kind at call run (Correspondent places) = other_asks _ (for_correspondent call) run (λ (c : correspondent_calls.Call). other_goes _ _ run (with_past n _ run) refl)
    other_kind at call run (Agent rank lasts places homes) = other_asks _ (for_agent (around_in run n None) call) run (λ (c : agent_calls.Call). other_goes _ _ run (with_agent_past n _ run) refl)
    other_kind at call run (Mobile home) = other_asks _ (for_mobile (around_in run n (Some at.0)) at call) run (λ (c : mobiles.Call). other_goes _ _ run (with_mobile_past n _ run) refl)

    other_host : (call : calls.Call) (run : Run) → told (acts s n call run) ≡ told run
    other_host call run = by (slice_get s.hosts n)
      where
        by : (o : Option Host) → told (by_host s n call run o) ≡ told run
        by None = told_push run entries.Idle
        by (Some x) = other_kind x.address call run x.kind

    other_acts : (call : calls.Call) (run : Run) → IsTold run → IsTold (acts s n call run)
    other_acts call run t = let o = others_acts s n call run in goes_on run (acts s n call run) (other_host call run) o.long (o.others m other) t

  -- the mobile itself
  module _ (run : Run) (c : mobiles.Call) (long : length run.mobile_pasts ≡ length s.hosts) where
    abbrev t : Transition
    t = transition_of (k run) (now_in s run) c

    abbrev more : List (Stamped Step)
    more = with_transition (mobile_past_at run m) t

    abbrev later : Run
    later = after_mobile_transition s m own t run

    past_then : mobile_past_at later m ≡ more
    past_then =
        let inside : m < length s.hosts = slice_get_within s.hosts m (record { address = own; kind = Mobile agent }) host in
        ap (λ (l : List (List (Stamped Step))). slice_index_or l m []) (answers_mobiles s m _ (answers_of t.steps) (with_mobile_past m more run))
        ∙ get_or-set_same run.mobile_pasts m more [] (omega (arith, long, inside))

    own_goes : (AreSpellable more → fold (step_told m) (told run) t.steps ≡ (let l : Known = t.known in l.agent)) → IsTold later
    own_goes joined = record {
      long = ap (λ (l : List (List (Stamped Step))). length l) (answers_mobiles s m _ (answers_of t.steps) (with_mobile_past m more run)) ∙ length-set run.mobile_pasts m more ∙ long;
      joined = λ are.
          (let seen = seen_answers (told run) (with_mobile_past m more run) (with_mobile_past m more run) m _ (answers_of t.steps) (record { told_is = refl; pasts_are = refl }) in seen.told_is)
          ∙ own_answers m (told run) t.steps ∙ joined (subst AreSpellable past_then are)
          ∙ ap (λ (l : Known). l.agent) (sym (known_then s m own agent host run long c));
    }

  lives_on : (run : Run) (c : mobiles.Call) → is_restart c ≡ false → IsTold run → IsTold (after_mobile_transition s m own (transition_of (k run) (now_in s run) c) run)
  lives_on run c lives t =
      own_goes run c t.long
      (λ are.
      let now : ℕ = (let u : Transition = transition_of (k run) (now_in s run) c in u.now) in
      let parts = all_parts (mobile_past_at run m) now (let u : Transition = transition_of (k run) (now_in s run) c in u.steps) are in
      lives_told m (k run) (now_in s run) (told run) c lives parts.1 (t.joined parts.0))

  mine : (call : calls.Call) (run : Run) → is_rebirth call ≡ false → IsTold run → IsTold (by_kind s m own call run (Mobile agent))
  mine (calls.Take number shield packet) run lives t = lives_on run (mobiles.Take number shield packet) refl t
  mine (calls.Send to proto payload) run lives t = lives_on run (mobiles.Send to proto payload) refl t
  mine (calls.Refresh to) run lives t = lives_on run (mobiles.Refresh to) refl t
  mine calls.Tick run lives t = lives_on run mobiles.Tick refl t
  mine (calls.Attach prefix) run lives t =
      let around = around_in run m (Some own.0) in
      lives_on run (mobiles.Attach prefix (claim_in around own.0) (claim_in around (address_under own prefix).0)) refl t
  mine calls.Leave run lives t = lives_on run (mobiles.Leave (claim_in (around_in run m (Some own.0)) own.0)) refl t
  mine calls.Ask run lives t = lives_on run mobiles.Ask refl t
  mine (calls.Restart secrets) run lives t = absurd cc
  mine (calls.Plan valid preferred) run lives t = one_entry run entries.Idle refl t
  mine (calls.Hear agent' preference life) run lives t = one_entry run entries.Idle refl t

  told_acts : (n : ℕ) (call : calls.Call) (run : Run) → is_rebirth call ≡ false → IsTold run → IsTold (acts s n call run)
  told_acts n call run lives t =
      elim (cases_eq m n) as (λ _. IsTold (acts s n call run)) [
        | inl same ↦ subst (λ (x : ℕ). IsTold (acts s x call run)) same (subst (λ (o : Option Host). IsTold (by_host s m call run o)) (sym host) (mine call run lives t))
        | inr other ↦ other_acts n other call run t
      ]

  -- its next life
  born_mine : (secrets : Life) (run : Run) → IsTold run → IsTold (by_kind s m own (calls.Restart secrets) (note (entries.Restarted (node_id m)) run) (Mobile agent))
  born_mine secrets run t =
      let next : Run = note (entries.Restarted (node_id m)) run in
      let none : told next ≡ None = told_push run (entries.Restarted (node_id m)) ∙ ap (λ (b : Bool). unwrap_or (if b then Some None else None) (told run)) (eq-eqb m m refl) in
      own_goes next (mobiles.Restart secrets) t.long
      (λ are.
      let now : ℕ = (let u : Transition = transition_of (k next) (now_in s next) (mobiles.Restart secrets) in u.now) in
      let parts = all_parts (mobile_past_at next m) now (let u : Transition = transition_of (k next) (now_in s next) (mobiles.Restart secrets) in u.steps) are in
      ap (λ (x : Option Address). let u : Transition = transition_of (k next) (now_in s next) (mobiles.Restart secrets) in fold (step_told m) x u.steps) none
      ∙ restart_told m (k next) (now_in s next) secrets parts.1)

  restarted_other : (n : ℕ) → m ≢ n → sent_to m (entries.Restarted (node_id n)) ≡ None
  restarted_other n other = ap (λ (b : Bool). if b then Some None else None) (ne_eqb m n other)

  told_renewed : (n : ℕ) (secrets : Life) (run : Run) → IsTold run → IsTold (acts s n (calls.Restart secrets) (note (entries.Restarted (node_id n)) run))
  told_renewed n secrets run t =
      elim (cases_eq m n) as (λ _. IsTold (acts s n (calls.Restart secrets) (note (entries.Restarted (node_id n)) run))) [
        | inl same ↦
            subst (λ (x : ℕ). IsTold (acts s x (calls.Restart secrets) (note (entries.Restarted (node_id x)) run))) same
            (subst (λ (o : Option Host). IsTold (by_host s m (calls.Restart secrets) (note (entries.Restarted (node_id m)) run) o)) (sym host) (born_mine secrets run t))
        | inr other ↦ other_acts n other (calls.Restart secrets) (note (entries.Restarted (node_id n)) run) (one_entry run (entries.Restarted (node_id n)) (restarted_other n other) t)
      ]

  not_here : (n : ℕ) → is_mobile_host (slice_get s.hosts n) ≡ false → m ≢ n
  not_here n is same = absurd (let both : true ≡ false = sym (ap is_mobile_host host) ∙ ap (λ (x : ℕ). is_mobile_host (slice_get s.hosts x)) same ∙ is in cc)

  told_reborn : (run : Run) (n : ℕ) → is_mobile_host (slice_get s.hosts n) ≡ false → IsTold run → IsTold (note (entries.Restarted (node_id n)) (emptied s n run))
  told_reborn run n is t =
      one_entry (emptied s n run) (entries.Restarted (node_id n)) (restarted_other n (not_here n is))
      (emptied_keeps s n run IsTold t (record { long = t.long; joined = t.joined }) (record { long = t.long; joined = t.joined }))

  told_keeps : Keeps s IsTold
  told_keeps = record {
    idle = λ run e quiet t. one_entry run e (busy_none m e quiet) t;
    timed = λ run u t. one_entry run (entries.At (record { 0 = u })) refl t;
    injects = λ run o link packet t. injected run o link packet t;
    leaves = λ run number t. record { long = t.long; joined = t.joined };
    taken = λ run o link address holder t. one_entry run (entries.Taken (holder_outside o) link address holder) refl t;
    acted = λ run n call handed stays lives t. told_acts n call run lives t;
    moved = λ run n link is t. one_entry (acts s n calls.Leave run) (entries.Moved (node_id n) link) refl (told_acts n calls.Leave run refl t);
    reborn = told_reborn;
    renewed = λ run n secrets is t. told_renewed n secrets run t;
  }
    where
      injected : (run : Run) (o link : ℕ) (packet : List ℕ) → IsTold run
          → IsTold (entered (record { from = link; shield = None; packet = packet }) (note (entries.Injected (length run.posts) o (record { 0 = link }) packet) run))
      injected run o link packet t =
          let noted : IsTold (note (entries.Injected (length run.posts) o (record { 0 = link }) packet) run) = one_entry run (entries.Injected (length run.posts) o (record { 0 = link }) packet) refl t in
          record { long = noted.long; joined = noted.joined }

  told_nothing : IsTold (nothing s)
  told_nothing = record {
    long = length-map s.hosts (λ (x : Host). let l : List (Stamped Step) = [] in l);
    joined = λ are. sym (ap (λ (l : List (Stamped Step)). let x : Known = known own agent s.numbers (secrets_in s m 0) l in x.agent) (no_past s.hosts m) ∙ fresh_agent own agent s.numbers (secrets_in s m 0));
  }

  -- the agent to which the last home registration went
  pub sent_as_told : (es : List Event) → AreSpellable (mobile_past_at (run_of s es) m) → last_sent_to (run_of s es).past m ≡ (let l : Known = mobile_known_in s (run_of s es) m own agent in l.agent)
  sent_as_told es are = let t : IsTold (run_of s es) = walk_run s IsTold told_keeps es told_nothing in t.joined are
