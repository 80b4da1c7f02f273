-- What no node of a kind tells: a question that goes unanswered over every run.
use Rattle.std.proofs.Common.{◌≡◌, ◌≢◌, ℕ, List, [], ◌∷◌, true, length, inl, inr, refl, ap, ◌∙◌, subst}
use Rattle.std.specs.Prelude.{Option, Some, None, unwrap_or, slice_get}
use Rattle.std.specs.List.{AllByRecursion}
use Rattle.std.proofs.lemmas.Bool.{cases_eq}
use Rattle.mip_words.specs.declared.address.Address.{Address}
use Rattle.mip_words.specs.declared.ids.LinkId.{LinkId}
use Rattle.mip_entries.specs.declared.answer.Answer.{Answer}
use Rattle.mip_entries.specs.declared.answer.Answer.TheVariants.{Send, Note}
use Rattle.mip_entries.specs.declared.entry.Entry.{Entry}
use Rattle.mip_entries.specs.declared.entry.Entry.TheVariants as entries
use Rattle.mip_entries.specs.Completed.{node_id, named}
use Rattle.mip_entries.specs.Shows.{answers_by}
use Rattle.mip_rules_correspondent.specs.Steps as correspondents
use Rattle.mip_rules_correspondent.specs.Transitions as correspondent_transitions
use Rattle.mip_rules_correspondent.specs.Doing as correspondent_doing
use Rattle.mip_rules_agent.specs.Steps as agents
use Rattle.mip_rules_agent.specs.Transitions as agent_transitions
use Rattle.mip_rules_agent.specs.Doing as agent_doing
use Rattle.mip_rules_mobile.specs.Calls as mobile_calls
use Rattle.mip_rules_mobile.specs.Known as mobile_known
use Rattle.mip_rules_mobile.specs.Steps as mobiles
use Rattle.mip_rules_mobile.specs.Transitions as mobile_transitions
use Rattle.mip_rules_mobile.specs.Doing as mobile_doing
use Rattle.mip_links.specs.Table.{holder_outside}
use Rattle.mip_schedule.specs.declared.event.Event.{Event}
use Rattle.mip_history.specs.Setup.{Setup, Host, Kind, is_mobile_host}
use Rattle.mip_history.specs.Setup.Kind.{Correspondent, Agent, Mobile}
use Rattle.mip_history.specs.Runs.{Run, note}
use Rattle.mip_history.specs.Calls.{Call, Leave, Restart, for_correspondent, for_agent, for_mobile}
use Rattle.mip_history.specs.Knowing.{now_in, identity_in, known_in, agent_of, agent_known_in, mobile_known_in, around_in}
use Rattle.mip_history.specs.Claims.{link_id}
use Rattle.mip_history.specs.Nodes.{left_by, answered_one, answered, asks, by_kind, by_host, acts}
use Rattle.mip_history.specs.Permitted.{run_of}
use Rattle.mip_history.proofs.Reasons.{all_append}
use Rattle.mip_history.proofs.Keeping.{Keeps, emptied}
use Rattle.mip_history.proofs.Folds.{emptied_keeps}
use Rattle.mip_history.proofs.Walking.{walk_run}
use Rattle.mip_settled.proofs.Answered.{IsQuiet, IsMute, tells, tells_push, tells_same, tells_marked, tells_sent, tells_released, tells_claimed}
use Rattle.mip_settled.proofs.Roaming.{acts_mute}

-- an answer of node n that says nothing of it; a restart is noted before its answers
abbrev pub IsSilentEntry : {S : Type 0} → (Entry → Option S) → ℕ → Entry → Type 0
IsSilentEntry says n (entries.Restarted node) = Unit {0}
IsSilentEntry says n e = (k : ℕ) → says (named n 0 k e) ≡ None

abbrev pub IsSilent : {S : Type 0} → (Entry → Option S) → ℕ → Answer → Type 0
IsSilent says n (Send shield packet) = Unit {0}
IsSilent says n (Note e) = IsSilentEntry says n e

-- no step of a role says something of it
silent_steps : {A S : Type 0} (show : A → List Answer) (says : Entry → Option S) (n : ℕ) → ((step : A) → AllByRecursion (IsSilent says n) (show step))
    → (steps : List A) → AllByRecursion (IsSilent says n) (answers_by show steps)
silent_steps show says n each [] = tt
silent_steps show says n each (step ∷ steps) = all_append (IsSilent says n) (show step) (answers_by show steps) (each step) (silent_steps show says n each steps)

abbrev pub IsSilentKind : {S : Type 0} → (Entry → Option S) → ℕ → Kind → Type 0
IsSilentKind says n (Correspondent room) = (step : correspondents.Step) → AllByRecursion (IsSilent says n) (correspondents.answer_of step)
IsSilentKind says n (Agent preference life room serves) = (step : agents.Step) → AllByRecursion (IsSilent says n) (agents.answer_of step)
IsSilentKind says n (Mobile agent) = (k : mobile_known.Known) (now : ℕ) (c : mobile_calls.Call) → AllByRecursion (IsSilent says n) (mobiles.answers_of (mobile_doing.transition_of k now c).steps)

-- a question that no claim, no time and no packet answers
pub record IsApart {S : Type 0} (says : Entry → Option S) : Type 0 where
  pub quiet : IsQuiet says
  pub taken : (who : ℕ) (link : LinkId) (address : Address) (holder : ℕ) → says (entries.Taken who link address holder) ≡ None
  pub timed : (m : ℕ) → says (entries.At (record { 0 = m })) ≡ None
  pub injected : (number o link : ℕ) (packet : List ℕ) → says (entries.Injected number o (link_id link) packet) ≡ None

module _ {S : Type 0} (s : Setup) (says : Entry → Option S) (d : S) (apart : IsApart says) (n : ℕ) where
  silent_left : (run : Run) (e : Entry) → IsSilentEntry says n e → tells s says d (left_by s n run e) ≡ tells s says d run
  silent_left run (entries.Claimed who link address) is =
      tells_claimed s says d apart.quiet (λ (x : S). x) n address run (λ on holder. ap (λ (o : Option S). unwrap_or o (tells s says d run)) (apart.taken n on address holder))
  silent_left run (entries.Taken who link address holder) is =
      tells_claimed s says d apart.quiet (λ (x : S). x) n address run (λ on other. ap (λ (o : Option S). unwrap_or o (tells s says d run)) (apart.taken n on address other))
  silent_left run (entries.Released who link address) is = tells_released s says d apart.quiet n address run
  silent_left run (entries.Restarted node) is = refl
  silent_left run e is = tells_marked s says d apart.quiet run (named n 0 (length run.posts) e) ∙ ap (λ (o : Option S). unwrap_or o (tells s says d run)) (is (length run.posts))

  silent_answer : (from : ℕ) (run : Run) (answer : Answer) → IsSilent says n answer → tells s says d (answered_one s n from run answer) ≡ tells s says d run
  silent_answer from run (Send shield packet) is = tells_sent s says d apart.quiet n from shield packet run
  silent_answer from run (Note e) is = silent_left run e is

  silent_answers : (from : ℕ) (run : Run) (answers : List Answer) → AllByRecursion (IsSilent says n) answers → tells s says d (answered s n from run answers) ≡ tells s says d run
  unfolding answered
  silent_answers from run [] is = refl
  silent_answers from run (answer ∷ answers) is = silent_answers from (answered_one s n from run answer) answers is.1 ∙ silent_answer from run answer is.0

  asks_silent : {C : Type 0} (does : C → Run → Run) (call : Option C) (run : Run) → ((c : C) → tells s says d (does c run) ≡ tells s says d run) → tells s says d (asks does call run) ≡ tells s says d run
  asks_silent does None run each = tells_same s says d run entries.Idle (let q = apart.quiet in q.idle entries.Idle refl)
  asks_silent does (Some c) run each = each c

  -- node n acts, whose kind says nothing of it
  pub acts_silent : ((host : Host) → slice_get s.hosts n ≡ Some host → IsSilentKind says n host.kind) → (call : Call) (run : Run) → tells s says d (acts s n call run) ≡ tells s says d run
  acts_silent each call run = by_node (slice_get s.hosts n) each
    where
      kinds : (own : Address) (kind : Kind) → IsSilentKind says n kind → tells s says d (by_kind s n own call run kind) ≡ tells s says d run
      kinds own (Correspondent room) silent =
          asks_silent _ (for_correspondent call) run (λ c.
          let transition : correspondent_transitions.Transition = correspondent_doing.transition_of (identity_in s run n own room) (known_in s run n room) (now_in s run) c in
          silent_answers _ _ (correspondents.answers_of transition.steps) (silent_steps correspondents.answer_of says n silent transition.steps))
      kinds own (Agent preference life room serves) silent =
          asks_silent _ (for_agent (around_in run n None) call) run (λ c.
          let transition : agent_transitions.Transition = agent_doing.transition_of (agent_of own preference life room) (agent_known_in run n serves) (now_in s run) c in
          silent_answers _ _ (agents.answers_of transition.steps) (silent_steps agents.answer_of says n silent transition.steps))
      kinds own (Mobile agent) silent =
          asks_silent _ (for_mobile (around_in run n (Some own.0)) own call) run (λ c.
          let k : mobile_known.Known = mobile_known_in s run n own agent in
          let transition : mobile_transitions.Transition = mobile_doing.transition_of k (now_in s run) c in
          silent_answers _ _ (mobiles.answers_of transition.steps) (silent k (now_in s run) c))

      by_node : (o : Option Host) → ((host : Host) → o ≡ Some host → IsSilentKind says n host.kind) → tells s says d (by_host s n call run o) ≡ tells s says d run
      by_node None silent = tells_same s says d run entries.Idle (let q = apart.quiet in q.idle entries.Idle refl)
      by_node (Some host) silent = kinds host.address host.kind (silent host refl)

-- a question of node n that its kind never answers, and that other nodes and moves leave unanswered
pub record IsNever {S : Type 0} (s : Setup) (says : Entry → Option S) (d : S) (n : ℕ) : Type 0 where
  pub apart : IsApart says
  pub own : (host : Host) → slice_get s.hosts n ≡ Some host → IsSilentKind says n host.kind
  pub others : (m : ℕ) → n ≢ m → IsMute says m
  pub moved : (m : ℕ) (link : Option LinkId) → is_mobile_host (slice_get s.hosts m) ≡ true → says (entries.Moved (node_id m) link) ≡ None
  pub restarted : (m : ℕ) → unwrap_or (says (entries.Restarted (node_id m))) d ≡ d

module _ {S : Type 0} (s : Setup) (says : Entry → Option S) (d : S) (n : ℕ) (never : IsNever s says d n) where
  never_acts : (m : ℕ) (call : Call) (run : Run) → tells s says d (acts s m call run) ≡ tells s says d run
  never_acts m call run = elim (cases_eq n m) as (λ _. tells s says d (acts s m call run) ≡ tells s says d run) [
    | inl e ↦ subst (λ (x : ℕ). tells s says d (acts s x call run) ≡ tells s says d run) e (acts_silent s says d never.apart n never.own call run)
    | inr other ↦ let a = never.apart in acts_mute s says d a.quiet m (never.others m other) call run
  ]

  restart_kept : (m : ℕ) (run : Run) → tells s says d run ≡ d → tells s says d (note (entries.Restarted (node_id m)) run) ≡ d
  restart_kept m run p =
      tells_push s says d run (entries.Restarted (node_id m)) ∙ ap (λ (x : S). unwrap_or (says (entries.Restarted (node_id m))) x) p ∙ never.restarted m

  emptied_same : (m : ℕ) (run : Run) → tells s says d (emptied s m run) ≡ tells s says d run
  emptied_same m run = emptied_keeps s m run (λ (r : Run). tells s says d r ≡ tells s says d run) refl refl refl

  never_keeps : Keeps s (λ (run : Run). tells s says d run ≡ d)
  never_keeps = record {
    idle = λ run e idle p. tells_same s says d run e (let a = never.apart in let q = a.quiet in q.idle e idle) ∙ p;
    timed = λ run m p. tells_same s says d run _ (let a = never.apart in a.timed m) ∙ p;
    injects = λ run o link packet p. tells_same s says d run _ (let a = never.apart in a.injected (length run.posts) o link packet) ∙ p;
    leaves = λ run k p. p;
    taken = λ run o link address holder p. tells_same s says d run _ (let a = never.apart in a.taken (holder_outside o) link address holder) ∙ p;
    acted = λ run m call is stays lives p. never_acts m call run ∙ p;
    moved = λ run m link is p. tells_same s says d (acts s m Leave run) _ (never.moved m link is) ∙ never_acts m Leave run ∙ p;
    reborn = λ run m other p. restart_kept m (emptied s m run) (emptied_same m run ∙ p);
    renewed = λ run m secrets is p. never_acts m (Restart secrets) (note (entries.Restarted (node_id m)) run) ∙ restart_kept m run p;
  }

  pub never_told : (events : List Event) → tells s says d (run_of s events) ≡ d
  never_told events = walk_run s (λ (run : Run). tells s says d run ≡ d) never_keeps events refl
