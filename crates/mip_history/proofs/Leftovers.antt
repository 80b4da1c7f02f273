-- A wait leaves no work that is due.
use Rattle.std.proofs.Common.{◌≡◌, ◌≢◌, ℕ, zero, suc, ◌+◌, ◌<◌, ◌≤◌, List, [], ◌∷◌, ◌++◌, Bool, true, false, length, inl, inr, refl, sym, ap, ◌∙◌, subst, arith, nat_lt}
use Rattle.std.specs.Prelude.{◌⊎◌, max, min, not, unwrap_or, Option, Some, None, option_map, ◌==◌, ◌&&◌, if◌then◌else◌, slice_get, slice_index_or, filter, is_some}
use Rattle.std.proofs.lemmas.List.{get_or-set_same, get_or-set_other}
use Rattle.std.proofs.lemmas.Option.{slice_get_within}
use Rattle.std.proofs.lemmas.Bool.{cases_eq}
use Rattle.std.proofs.lemmas.Bool.Decides.{nat_tests}
use Rattle.mip_words.specs.declared.address.Address.{Address}
use Rattle.mip_words.specs.declared.moment.Moment.{Moment}
use Rattle.mip_bulist.specs.declared.timer.Timer.{Timer}
use Rattle.mip_bulist.specs.Timers.{first_due, AreDueFrom}
use Rattle.mip_entries.specs.declared.answer.Answer.{Answer}
use Rattle.mip_entries.specs.declared.answer.Answer.TheVariants.{Send, Note}
use Rattle.mip_entries.specs.declared.entry.Entry.{Entry}
use Rattle.mip_entries.specs.declared.entry.Entry.TheVariants as entries
use Rattle.mip_entries.specs.Stamped.{Stamped}
use Rattle.mip_entries.specs.Transitions.{StandsBy}
use Rattle.mip_rules_agent.specs.declared.ending.Ending.{Ending}
use Rattle.mip_rules_agent.specs.declared.identity.Identity.{Identity}
use Rattle.mip_rules_agent.specs.Known as agent_known
use Rattle.mip_rules_agent.specs.Steps as agents
use Rattle.mip_rules_agent.specs.Calls as agent_calls
use Rattle.mip_rules_agent.specs.Transitions as agent_transitions
use Rattle.mip_rules_agent.specs.Questions as agent_questions
use Rattle.mip_rules_agent.specs.Doing as agent_doing
use Rattle.mip_rules_agent.proofs.Pasts as agent_pasts
use Rattle.mip_rules_agent.proofs.Calls as agent_stands
use Rattle.mip_rules_agent.proofs.Ticking.{tick-leaves}
use Rattle.mip_rules_mobile.specs.Known as mobile_known
use Rattle.mip_rules_mobile.specs.Steps as mobiles
use Rattle.mip_rules_mobile.specs.Calls as mobile_calls
use Rattle.mip_rules_mobile.specs.Transitions as mobile_transitions
use Rattle.mip_rules_mobile.specs.Questions as mobile_questions
use Rattle.mip_rules_mobile.specs.Doing as mobile_doing
use Rattle.mip_rules_mobile.proofs.Calls as mobile_stands
use Rattle.mip_rules_mobile.proofs.Timers.{timers-order, tick-empties}
use Rattle.mip_history.specs.Setup.{Setup, Host, Kind}
use Rattle.mip_history.specs.Setup.Kind.{Correspondent, Agent, Mobile}
use Rattle.mip_history.specs.Runs.{Run, note, notes, entered, agent_past_at, mobile_past_at, with_agent_past, with_mobile_past}
use Rattle.mip_history.specs.Questions.{holder_in, hears_in}
use Rattle.mip_history.specs.Calls.{Tick}
use Rattle.mip_history.specs.Claims.{claimed_on}
use Rattle.mip_history.specs.Homes.{resident, passes_to, left_on, given_up_on}
use Rattle.mip_history.specs.Knowing.{link_or_first, now_in, secrets_in, agent_of, agent_known_in, mobile_known_in, stands_on}
use Rattle.mip_history.specs.Posting.{heards, is_other, posted}
use Rattle.mip_history.specs.Nodes.{left_by, answered_one, answered, by_kind, by_host, acts}
use Rattle.mip_history.specs.Waiting.{Waiting, due_by_kind, due_by_host, due_of, sooner, earliest, comes_to, is_due, ticks_one, ticked, works, works_on, works_until, waited}
use Rattle.mip_links.specs.Table.{Post, link_of}
use Rattle.mip_links.specs.Nets.{is_held_by}
use Rattle.mip_history.proofs.Runs.{IsRun}
use Rattle.mip_history.proofs.Waiting.{ticked_goes, comes_goes, max_later, works_until_within}

-- what agents and mobiles did is the same in both runs
record AreSame (before after : Run) : Type 0 where
  agents : after.agent_pasts ≡ before.agent_pasts
  mobiles : after.mobile_pasts ≡ before.mobile_pasts

same : (run : Run) → AreSame run run
same run = record { agents = refl; mobiles = refl }

same_then : (a b c : Run) → AreSame a b → AreSame b c → AreSame a c
same_then a b c p q = record { agents = q.agents ∙ p.agents; mobiles = q.mobiles ∙ p.mobiles }

-- what a node does beside its transition
same_claimed : (who : ℕ) (address : Address) (run : Run) (link : Option ℕ) → AreSame run (claimed_on who address run link)
same_claimed who address run None = record { agents = refl; mobiles = refl }
same_claimed who address run (Some link) = record { agents = refl; mobiles = refl }

same_passed : (who : ℕ) (address : Address) (link : ℕ) (run : Run) (m : Option ℕ) → AreSame run (passes_to who address link run m)
same_passed who address link run None = same run
same_passed who address link run (Some m) = by (m == who)
  where
    by : (b : Bool) → AreSame run (if b then run else note (entries.Claimed m (record { 0 = link }) address) run)
    by true = same run
    by false = record { agents = refl; mobiles = refl }

same_given_up : (s : Setup) (who : ℕ) (address : Address) (run : Run) (link : Option ℕ) → AreSame run (given_up_on s who address run link)
same_given_up s who address run None = record { agents = refl; mobiles = refl }
same_given_up s who address run (Some link) = by (is_held_by (holder_in run.past address.0) who)
  where
    left : Run
    left = note (entries.Released who (record { 0 = link }) address) run

    by : (b : Bool) → AreSame run (if b then left_on s who address link run else note entries.Idle run)
    by true = same_then run left _ (record { agents = refl; mobiles = refl }) (same_passed who address link left (resident s run address.0))
    by false = record { agents = refl; mobiles = refl }

same_left : (s : Setup) (n : ℕ) (run : Run) (entry : Entry) → AreSame run (left_by s n run entry)
same_left s n run (entries.Claimed who link address) = same_claimed n address run (link_of s.links address.0)
same_left s n run (entries.Taken who link address holder) = same_claimed n address run (link_of s.links address.0)
same_left s n run (entries.Released who link address) = same_given_up s n address run (link_of s.links address.0)
same_left s n run (entries.Restarted node) = same run
same_left s n run entry = record { agents = refl; mobiles = refl }

same_posted : (s : Setup) (post : Post) (by : Option ℕ) (entry : Entry) (run : Run) → AreSame run (posted s post by entry run)
same_posted s post by entry run = cut (is_some post.shield)
  where
    cut : (b : Bool) → AreSame run (if b then entered post (note entry run) else notes (heards (λ o. is_other by o && hears_in (run.past ++ entry ∷ []) o post.from) (length run.posts) s.outsiders) (entered post (note entry run)))
    cut true = record { agents = refl; mobiles = refl }
    cut false = record { agents = refl; mobiles = refl }

same_one : (s : Setup) (n from : ℕ) (run : Run) (answer : Answer) → AreSame run (answered_one s n from run answer)
same_one s n from run (Send shield packet) = same_posted s (record { from = from; shield = shield; packet = packet }) None _ run
same_one s n from run (Note entry) = same_left s n run entry

same_answered : (s : Setup) (n from : ℕ) (run : Run) (answers : List Answer) → AreSame run (answered s n from run answers)
unfolding answered
same_answered s n from run [] = same run
same_answered s n from run (answer ∷ answers) =
    let next = answered_one s n from run answer in same_then run next _ (same_one s n from run answer) (same_answered s n from next answers)

-- nothing is due at a moment
is_later : (m now : ℕ) → now < m → is_due (Some m) now ≡ false
is_later m now later = by (nat_lt now m) refl
  where
    by : (b : Bool) → nat_lt now m ≡ b → not b ≡ false
    by true e = refl
    by false e = absurd (grind (arith, nat_tests, e, later))

later_than : (m now : ℕ) → is_due (Some m) now ≡ false → now < m
later_than m now none = by (nat_lt now m) refl none
  where
    by : (b : Bool) → nat_lt now m ≡ b → not b ≡ false → now < m
    by true e none = grind (arith, nat_tests, e)
    by false e none = absurd cc

-- what a tick leaves to an agent
abbrev first_end : List Ending → Option ℕ
first_end es = option_map (λ (e : Ending). e.end.0) (slice_get es 0)

none_ends : (now : ℕ) (es : List Ending) → is_due (first_end (filter (λ (e : Ending). nat_lt now e.end.0) es)) now ≡ false
none_ends now [] = refl
none_ends now (e ∷ es) = by (nat_lt now e.end.0) refl (none_ends now es)
  where
    by : (b : Bool) → nat_lt now e.end.0 ≡ b → is_due (first_end (filter (λ (e : Ending). nat_lt now e.end.0) es)) now ≡ false
        → is_due (first_end (if b then e ∷ filter (λ (e : Ending). nat_lt now e.end.0) es else filter (λ (e : Ending). nat_lt now e.end.0) es)) now ≡ false
    by true is rest = ap not is
    by false is rest = rest

-- and to a mobile
none_rings : (now : ℕ) (ts : List Timer) → AreDueFrom (now + 1) ts → is_due (option_map (λ (m : Moment). m.0) (first_due ts)) now ≡ false
none_rings now [] due = refl
none_rings now (t ∷ ts) due = is_later t.due.0 now (let e = due.0 in omega arith)

-- a node did what it did about a tick: it has nothing due, and the others have what they had
record IsTicked (s : Setup) (run : Run) (n : ℕ) (after : Run) : Type 0 where
  mine : is_due (due_of s after n) (now_in s run) ≡ false
  others : (m : ℕ) → m ≢ n → due_of s after m ≡ due_of s run m

-- what is due to a node is told by what it did
due_same : (s : Setup) (a b : Run) (m : ℕ) → agent_past_at b m ≡ agent_past_at a m → mobile_past_at b m ≡ mobile_past_at a m → due_of s b m ≡ due_of s a m
due_same s a b m did went = by (slice_get s.hosts m)
  where
    of_kind : (own : Address) (kind : Kind) → due_by_kind s b m own kind ≡ due_by_kind s a m own kind
    of_kind own (Correspondent room) = refl
    of_kind own (Agent preference life room serves) = ap (λ (l : List (Stamped agents.Step)). first_end (agent_questions.known serves l).ends) did
    of_kind own (Mobile agent) =
        ap (λ (l : List (Stamped mobiles.Step)). option_map (λ (m : Moment). m.0) (first_due (mobile_questions.known own agent s.numbers (secrets_in s m 0) l).list.timers)) went

    by : (o : Option Host) → due_by_host s b m o ≡ due_by_host s a m o
    by None = refl
    by (Some host) = of_kind host.address host.kind

at_host : (s : Setup) (run : Run) (n : ℕ) (host : Host) → slice_get s.hosts n ≡ Some host → due_of s run n ≡ due_by_kind s run n host.address host.kind
at_host s run n host is = ap (λ (o : Option Host). due_by_host s run n o) is

at_none : (s : Setup) (run : Run) (n now : ℕ) → slice_get s.hosts n ≡ None → is_due (due_of s run n) now ≡ false
at_none s run n now is = ap (λ (o : Option Host). is_due (due_by_host s run n o) now) is

-- a node with nothing to do
idle_ticked : (s : Setup) (run : Run) (n : ℕ) → is_due (due_of s run n) (now_in s run) ≡ false → IsTicked s run n (note entries.Idle run)
idle_ticked s run n none = record {
  mine = ap (λ (o : Option ℕ). is_due o (now_in s run)) (due_same s run (note entries.Idle run) n refl refl) ∙ none;
  others = λ m other. due_same s run (note entries.Idle run) m refl refl;
}

-- an agent
module _ (s : Setup) (run : Run) (is : IsRun s run) (n : ℕ) (own : Address) (preference life room : ℕ) (serves : List Address)
    (host : slice_get s.hosts n ≡ Some (record { address = own; kind = Agent preference life room serves })) where
  abbrev now : ℕ
  now = now_in s run

  abbrev me : Identity
  me = agent_of own preference life room

  abbrev k : agent_known.Known
  k = agent_known_in run n serves

  abbrev transition : agent_transitions.Transition
  transition = agent_doing.transition_of me k now agent_calls.Tick

  abbrev more : List (Stamped agents.Step)
  more = agent_transitions.with_transition (agent_past_at run n) transition

  abbrev middle : Run
  middle = with_agent_past n more run

  abbrev done : Run
  done = answered s n (link_or_first s own.0) (with_agent_past n (agent_transitions.with_transition (agent_past_at run n) (agent_doing.transition_of (agent_of own preference life room) (agent_known_in run n serves) (now_in s run) agent_calls.Tick)) run)
      (agents.answers_of (agent_doing.transition_of (agent_of own preference life room) (agent_known_in run n serves) (now_in s run) agent_calls.Tick).steps)

  done_same : AreSame middle done
  done_same = same_answered s n (link_or_first s own.0) middle (agents.answers_of transition.steps)

  stands : agent_transitions.Stands serves (agent_past_at run n) k
  unfolding agent_questions.known StandsBy
  stands = refl

  knows : agent_questions.known serves more ≡ transition.known
  knows = sym (agent_pasts.stands-known serves more transition.known (agent_stands.call-stands serves (agent_past_at run n) k now me agent_calls.Tick stands))

  there : agent_past_at done n ≡ more
  there =
      ap (λ (l : List (List (Stamped agents.Step))). slice_index_or l n []) done_same.agents
      ∙ get_or-set_same run.agent_pasts n more []
      (let inside : n < length s.hosts = slice_get_within s.hosts n (record { address = own; kind = Agent preference life room serves }) host in let i = is.agents in omega (arith, i, inside))

  none : is_due (first_end (agent_known_in done n serves).ends) now ≡ false
  none =
      ap (λ (l : List (Stamped agents.Step)). is_due (first_end (agent_questions.known serves l).ends) now) there
      ∙ ap (λ (x : agent_known.Known). is_due (first_end x.ends) now) knows
      ∙ ap (λ (es : List Ending). is_due (first_end es) now) (tick-leaves me k now)
      ∙ none_ends now k.ends

  agent_ticked : IsTicked s run n done
  agent_ticked = record {
    mine = ap (λ (o : Option ℕ). is_due o now) (at_host s done n (record { address = own; kind = Agent preference life room serves }) host) ∙ none;
    others = λ m other. due_same s run done m
        (ap (λ (l : List (List (Stamped agents.Step))). slice_index_or l m []) done_same.agents ∙ get_or-set_other run.agent_pasts n m more [] other)
        (ap (λ (l : List (List (Stamped mobiles.Step))). slice_index_or l m []) done_same.mobiles);
  }

-- a mobile
module _ (s : Setup) (run : Run) (is : IsRun s run) (n : ℕ) (home : Address) (agent : Option Address) (host : slice_get s.hosts n ≡ Some (record { address = home; kind = Mobile agent })) where
  abbrev at : ℕ
  at = now_in s run

  abbrev knew : mobile_known.Known
  knew = mobile_known_in s run n home agent

  abbrev tick : mobile_transitions.Transition
  tick = mobile_doing.transition_of knew at mobile_calls.Tick

  abbrev longer : List (Stamped mobiles.Step)
  longer = mobile_transitions.with_transition (mobile_past_at run n) tick

  abbrev between : Run
  between = with_mobile_past n longer run

  abbrev gone : Run
  gone = answered s n (unwrap_or (stands_on s run n home) 0)
      (with_mobile_past n (mobile_transitions.with_transition (mobile_past_at run n) (mobile_doing.transition_of (mobile_known_in s run n home agent) (now_in s run) mobile_calls.Tick)) run)
      (mobiles.answers_of (mobile_doing.transition_of (mobile_known_in s run n home agent) (now_in s run) mobile_calls.Tick).steps)

  gone_same : AreSame between gone
  gone_same = same_answered s n (unwrap_or (stands_on s run n home) 0) between (mobiles.answers_of tick.steps)

  roams : mobile_transitions.Stands home agent s.numbers (secrets_in s n 0) (mobile_past_at run n) knew
  unfolding mobile_questions.known StandsBy
  roams = refl

  learnt : mobile_questions.known home agent s.numbers (secrets_in s n 0) longer ≡ tick.known
  learnt =
      sym (mobile_stands.stands-known home agent s.numbers (secrets_in s n 0) longer tick.known
      (mobile_stands.call-stands home agent s.numbers (secrets_in s n 0) (mobile_past_at run n) knew at mobile_calls.Tick roams))

  here : mobile_past_at gone n ≡ longer
  here =
      ap (λ (l : List (List (Stamped mobiles.Step))). slice_index_or l n []) gone_same.mobiles
      ∙ get_or-set_same run.mobile_pasts n longer []
      (let inside : n < length s.hosts = slice_get_within s.hosts n (record { address = home; kind = Mobile agent }) host in let i = is.mobiles in omega (arith, i, inside))

  silent : is_due (option_map (λ (m : Moment). m.0) (first_due (mobile_known_in s gone n home agent).list.timers)) at ≡ false
  silent =
      ap (λ (l : List (Stamped mobiles.Step)). is_due (option_map (λ (m : Moment). m.0) (first_due (mobile_questions.known home agent s.numbers (secrets_in s n 0) l).list.timers)) at) here
      ∙ ap (λ (x : mobile_known.Known). is_due (option_map (λ (m : Moment). m.0) (first_due x.list.timers)) at) learnt
      ∙ none_rings at tick.known.list.timers (tick-empties knew at (timers-order home agent s.numbers (secrets_in s n 0) (mobile_past_at run n)))

  mobile_ticked : IsTicked s run n gone
  mobile_ticked = record {
    mine = ap (λ (o : Option ℕ). is_due o at) (at_host s gone n (record { address = home; kind = Mobile agent }) host) ∙ silent;
    others = λ m other. due_same s run gone m
        (ap (λ (l : List (List (Stamped agents.Step))). slice_index_or l m []) gone_same.agents)
        (ap (λ (l : List (List (Stamped mobiles.Step))). slice_index_or l m []) gone_same.mobiles ∙ get_or-set_other run.mobile_pasts n m longer [] other);
  }

-- whatever node it is
acts_ticked : (s : Setup) (run : Run) (is : IsRun s run) (n : ℕ) → IsTicked s run n (acts s n Tick run)
acts_ticked s run is n = by (slice_get s.hosts n) refl
  where
    of_kind : (own : Address) (kind : Kind) → slice_get s.hosts n ≡ Some (record { address = own; kind = kind }) → IsTicked s run n (by_kind s n own Tick run kind)
    of_kind own (Correspondent room) e = idle_ticked s run n (ap (λ (o : Option ℕ). is_due o (now_in s run)) (at_host s run n (record { address = own; kind = Correspondent room }) e))
    of_kind own (Agent preference life room serves) e = agent_ticked s run is n own preference life room serves e
    of_kind own (Mobile agent) e = mobile_ticked s run is n own agent e

    by : (o : Option Host) → slice_get s.hosts n ≡ o → IsTicked s run n (by_host s n Tick run o)
    by None e = idle_ticked s run n (at_none s run n (now_in s run) e)
    by (Some host) e = of_kind host.address host.kind e

one_ticked : (s : Setup) (run : Run) (is : IsRun s run) (n : ℕ) → IsTicked s run n (ticks_one s n run)
one_ticked s run is n = by (is_due (due_of s run n) (now_in s run)) refl
  where
    by : (b : Bool) → is_due (due_of s run n) (now_in s run) ≡ b → IsTicked s run n (if b then acts s n Tick run else run)
    by true e = acts_ticked s run is n
    by false e = record { mine = e; others = λ m other. refl }

-- the first so many nodes
some_none : (s : Setup) (run : Run) (is : IsRun s run) (many n : ℕ) → n < many → is_due (due_of s (ticked s many run) n) (now_in s run) ≡ false
unfolding ticked
some_none s run is zero n few = absurd (omega (arith, few))
some_none s run is (suc many) n few =
    let goes = ticked_goes s many run is in
    let before : Run = ticked s many run in
    let one : IsTicked s before many (ticks_one s many before) = one_ticked s before goes.run many in
    elim (cases_eq n many) as (λ _. is_due (due_of s (ticks_one s many before) n) (now_in s run) ≡ false) [
      | inl e ↦
          subst (λ (at : ℕ). is_due (due_of s (ticks_one s many before) n) at ≡ false) goes.moment
          (subst (λ (m : ℕ). is_due (due_of s (ticks_one s many before) m) (now_in s before) ≡ false) (sym e) one.mine)
      | inr other ↦
          ap (λ (o : Option ℕ). is_due o (now_in s run)) (one.others n other) ∙ some_none s run is many n (let ne = other in omega (arith, few, ne))
    ]

-- nothing is due
abbrev IsIdle : Setup → Run → ℕ → Type 0
IsIdle s run at = (n : ℕ) → is_due (due_of s run n) at ≡ false

all_none : (s : Setup) (run : Run) (is : IsRun s run) → IsIdle s (ticked s (length s.hosts) run) (now_in s run)
all_none s run is n = by (slice_get s.hosts n) refl
  where
    by : (o : Option Host) → slice_get s.hosts n ≡ o → is_due (due_of s (ticked s (length s.hosts) run) n) (now_in s run) ≡ false
    by None e = at_none s (ticked s (length s.hosts) run) n (now_in s run) e
    by (Some host) e = some_none s run is (length s.hosts) n (slice_get_within s.hosts n host e)

-- the work of one moment leaves nothing due, and is done at that moment
record IsWorked (s : Setup) (w : Waiting) (due : ℕ) : Type 0 where
  run : IsRun s (works s due w).run
  moment : now_in s (works s due w).run ≡ max (now_in s w.run) due
  idle : IsIdle s (works s due w).run (now_in s (works s due w).run)

works_idle : (s : Setup) (due : ℕ) (w : Waiting) → IsRun s w.run → IsWorked s w due
works_idle s due w is =
    let m = max (now_in s w.run) due in
    let come = comes_goes s m w is (max_later (now_in s w.run) due) in
    let goes = ticked_goes s (length s.hosts) (comes_to s m w).run come.run in
    record {
      run = goes.run;
      moment = goes.moment ∙ come.moment;
      idle = λ n. subst (λ (at : ℕ). is_due (due_of s (works s due w).run n) at ≡ false) (sym goes.moment) (all_none s (comes_to s m w).run come.run n);
    }

-- the earliest of moments
sooner_none : (at : ℕ) (a b : Option ℕ) → is_due a at ≡ false → is_due b at ≡ false → is_due (sooner a b) at ≡ false
sooner_none at None b p q = q
sooner_none at (Some a) None p q = p
sooner_none at (Some a) (Some b) p q = is_later (min a b) at (let one = later_than a at p in let two = later_than b at q in least a b one two)
  where
    least : (a b : ℕ) → at < a → at < b → at < min a b
    least a b one two = omega arith

sooner_parts : (at : ℕ) (a b : Option ℕ) → is_due (sooner a b) at ≡ false → (is_due a at ≡ false) × (is_due b at ≡ false)
sooner_parts at None b p = (refl, p)
sooner_parts at (Some a) None p = (p, refl)
sooner_parts at (Some a) (Some b) p =
    let both = later_than (min a b) at p in (is_later a at (first a b both), is_later b at (second a b both))
  where
    first : (a b : ℕ) → at < min a b → at < a
    first a b both = omega arith

    second : (a b : ℕ) → at < min a b → at < b
    second a b both = omega arith

earliest_none : (due : ℕ → Option ℕ) (t many : ℕ) → ((n : ℕ) → is_due (due n) t ≡ false) → is_due (earliest due many) t ≡ false
earliest_none due t zero idle = refl
earliest_none due t (suc many) idle = sooner_none t (earliest due many) (due many) (earliest_none due t many idle) (idle many)

none_earlier : (due : ℕ → Option ℕ) (at many n : ℕ) → is_due (earliest due many) at ≡ false → n < many → is_due (due n) at ≡ false
none_earlier due at zero n none few = absurd (omega (arith, few))
none_earlier due at (suc many) n none few =
    let parts = sooner_parts at (earliest due many) (due many) none in
    elim (cases_eq n many) as (λ _. is_due (due n) at ≡ false) [
      | inl e ↦ subst (λ (m : ℕ). is_due (due m) at ≡ false) (sym e) parts.1
      | inr other ↦ none_earlier due at many n parts.0 (let ne = other in omega (arith, few, ne))
    ]

idle_by : (s : Setup) (run : Run) (at : ℕ) → is_due (earliest (due_of s run) (length s.hosts)) at ≡ false → IsIdle s run at
idle_by s run at none n = by (slice_get s.hosts n) refl
  where
    by : (o : Option Host) → slice_get s.hosts n ≡ o → is_due (due_of s run n) at ≡ false
    by None e = at_none s run n at e
    by (Some host) e = none_earlier (due_of s run) at (length s.hosts) n none (slice_get_within s.hosts n host e)

-- so many rounds are enough: each has a moment of its own
abbrev IsEnough : Setup → ℕ → ℕ → Waiting → Type 0
IsEnough s target rounds w = (IsIdle s w.run (now_in s w.run) × (target ≤ now_in s w.run + rounds)) ⊎ (target < now_in s w.run + rounds)

until_idle : (s : Setup) (target rounds : ℕ) (w : Waiting) → IsRun s w.run → now_in s w.run ≤ target → IsEnough s target rounds w → IsIdle s (works_until s target rounds w).run target
unfolding works_until
until_idle s target zero w is early (inl enough) =
    λ n. let much = enough.1 in let all = enough.0 in subst (λ (at : ℕ). is_due (due_of s w.run n) at ≡ false) (omega (arith, much, early)) (all n)
until_idle s target zero w is early (inr much) = absurd (omega (arith, much, early))
until_idle s target (suc rounds) w is early enough = by (earliest (due_of s w.run) (length s.hosts)) refl (until_idle s target rounds)
  where
    by : (o : Option ℕ) → earliest (due_of s w.run) (length s.hosts) ≡ o
        → ((w : Waiting) → IsRun s w.run → now_in s w.run ≤ target → IsEnough s target rounds w → IsIdle s (works_until s target rounds w).run target)
        → IsIdle s (let x : Waiting = works_on (works_until s target rounds) s target o w in x.run) target
    by None e next = idle_by s w.run target (ap (λ (o : Option ℕ). is_due o target) e)
    by (Some due) e next = cut (nat_lt target due) refl
      where
        cut : (b : Bool) → nat_lt target due ≡ b → IsIdle s (let x : Waiting = (if b then w else works_until s target rounds (works s due w)) in x.run) target
        cut true later = idle_by s w.run target (ap (λ (o : Option ℕ). is_due o target) e ∙ ap not later)
        cut false within =
            let worked = works_idle s due w is in
            let moment = worked.moment in
            let by_then : due ≤ target = grind (arith, nat_tests, within) in
            next (works s due w) worked.run (omega (arith, moment, early, by_then)) (inl (worked.idle, much enough))
          where
            much : IsEnough s target (suc rounds) w → target ≤ now_in s (works s due w).run + rounds
            much (inl both) =
                let idle = both.0 in
                let some = both.1 in
                let first : is_due (Some due) (now_in s w.run) ≡ false =
                (ap (λ (o : Option ℕ). is_due o (now_in s w.run)) (sym e) ∙ earliest_none (due_of s w.run) (now_in s w.run) (length s.hosts) idle) in
                let later = later_than due (now_in s w.run) first in
                let moment = (works_idle s due w is).moment in
                omega (arith, moment, later, some)
            much (inr some) = let moment = (works_idle s due w is).moment in omega (arith, moment, some)

-- coming to a moment leaves due what was due
comes_idle : (s : Setup) (m at : ℕ) (w : Waiting) → IsIdle s w.run at → IsIdle s (comes_to s m w).run at
comes_idle s m at w idle n = by (w.told && (now_in s w.run == m))
  where
    by : (b : Bool) → is_due (due_of s (let x : Waiting = (if b then w else record { run = note (entries.At (record { 0 = m })) w.run; told = true }) in x.run) n) at ≡ false
    by true = idle n
    by false = ap (λ (o : Option ℕ). is_due o at) (due_same s w.run (note (entries.At (record { 0 = m })) w.run) n refl refl) ∙ idle n

pub waited_idle : (s : Setup) (run : Run) (ms n : ℕ) → IsRun s run → is_due (due_of s (waited s run ms) n) (now_in s (waited s run ms)) ≡ false
unfolding waited
waited_idle s run ms n is =
    let target = now_in s run + ms in
    let first : Waiting = record { run = run; told = false } in
    let late = works_until_within s target (suc ms) first is (omega arith) in
    let come = comes_goes s target (works_until s target (suc ms) first) late.run late.early in
    subst (λ (at : ℕ). is_due (due_of s (comes_to s target (works_until s target (suc ms) first)).run n) at ≡ false) (sym come.moment)
    (comes_idle s target target (works_until s target (suc ms) first) (until_idle s target (suc ms) first is (omega arith) (inr (omega arith))) n)
