-- What a node does in a transition, and what becomes of it in the run.
use Rattle.std.specs.Prelude.{ℕ, List, [], ◌∷◌, length, fold, map, Option, Some, None, is_some, unwrap_or, slice_get}
use Rattle.mip_words.specs.declared.address.Address.{Address}
use Rattle.mip_bcache.specs.Seen as caches
use Rattle.mip_bcache.specs.declared.row.Row.{Row}
use Rattle.mip_entries.specs.declared.answer.Answer.{Answer}
use Rattle.mip_entries.specs.declared.answer.Answer.TheVariants.{Send, Note}
use Rattle.mip_entries.specs.declared.entry.Entry.{Entry}
use Rattle.mip_entries.specs.declared.entry.Entry.TheVariants.{Sent, Idle, Claimed, Released, Taken, Restarted, Row as ShownRow}
use Rattle.mip_entries.specs.Completed.{node_id, named}
use Rattle.mip_rules_correspondent.specs.Steps as correspondents
use Rattle.mip_rules_correspondent.specs.Transitions as correspondent_transitions
use Rattle.mip_rules_correspondent.specs.Doing as correspondent_doing
use Rattle.mip_rules_agent.specs.Steps as agents
use Rattle.mip_rules_agent.specs.Transitions as agent_transitions
use Rattle.mip_rules_agent.specs.Doing as agent_doing
use Rattle.mip_rules_agent.specs.Questions.{rows_at}
use Rattle.mip_rules_agent.specs.declared.home_row.HomeRow.{HomeRow}
use Rattle.mip_rules_mobile.specs.Steps as mobiles
use Rattle.mip_rules_mobile.specs.Transitions as mobile_transitions
use Rattle.mip_rules_mobile.specs.Doing as mobile_doing
use Rattle.mip_provenance.specs.declared.accepted_update.AcceptedUpdate.{AcceptedUpdate}
use Rattle.mip_provenance.specs.Entries.{update_accepted, mark_entry}
use Rattle.mip_provenance.specs.Marks.{mark_in}
use Rattle.mip_history.specs.Setup.{Setup, Host, Kind}
use Rattle.mip_history.specs.Setup.Kind.{Correspondent, Agent, Mobile}
use Rattle.mip_history.specs.Runs.{Run, note, notes, past_at, agent_past_at, mobile_past_at, with_past, with_agent_past, with_mobile_past}
use Rattle.mip_history.specs.Calls.{Call, for_correspondent, for_agent, for_mobile}
use Rattle.mip_history.specs.Knowing.{link_or_first, now_in, identity_in, known_in, agent_of, agent_known_in, mobile_known_in, stands_on, around_in}
use Rattle.mip_history.specs.Claims.{claims}
use Rattle.mip_history.specs.Homes.{gives_up}
use Rattle.mip_history.specs.Posting.{posted}

-- after an `accepted` stands the mark of its origin
abbrev pub marks_of : List Entry → Option AcceptedUpdate → List Entry
marks_of past None = []
marks_of past (Some a) = mark_entry (mark_in past a) ∷ []

abbrev pub marked : Entry → Run → Run
marked entry run = notes (entry ∷ marks_of run.past (update_accepted entry)) run

-- an entry of node n: who holds an address is for all nodes to see, and decides what a claim comes to; a restart is noted as it
-- happens, before its answers; any other entry gets the node's number
abbrev pub left_by : Setup → ℕ → Run → Entry → Run
left_by s n run (Claimed who link address) = claims s n address run
left_by s n run (Taken who link address holder) = claims s n address run
left_by s n run (Released who link address) = gives_up s n address run
left_by s n run (Restarted node) = run
left_by s n run entry = marked (named n 0 (length run.posts) entry) run

-- one thing that node n does: a packet is posted with its `sent`, or an entry is left
abbrev pub answered_one : Setup → ℕ → ℕ → Run → Answer → Run
answered_one s n from run (Send shield packet) =
    posted s (record { from = from; shield = shield; packet = packet }) None (Sent (length run.posts) (node_id n) (is_some shield) packet) run
answered_one s n from run (Note entry) = left_by s n run entry

-- what node n does, in order
unfoldable pub answered : Setup → ℕ → ℕ → Run → List Answer → Run
answered s n from run answers = fold (λ r answer. answered_one s n from r answer) run answers

-- node n with this address has done a transition; a mobile sends from the link on which it stands
abbrev pub after_transition : Setup → ℕ → Address → correspondent_transitions.Transition → Run → Run
after_transition s n own transition run =
    answered s n (link_or_first s own.0) (with_past n (correspondent_transitions.with_transition (past_at run n) transition) run) (correspondents.answers_of transition.steps)

abbrev pub after_agent_transition : Setup → ℕ → Address → agent_transitions.Transition → Run → Run
after_agent_transition s n own transition run =
    answered s n (link_or_first s own.0) (with_agent_past n (agent_transitions.with_transition (agent_past_at run n) transition) run) (agents.answers_of transition.steps)

abbrev pub after_mobile_transition : Setup → ℕ → Address → mobile_transitions.Transition → Run → Run
after_mobile_transition s n own transition run =
    answered s n (unwrap_or (stands_on s run n own) 0) (with_mobile_past n (mobile_transitions.with_transition (mobile_past_at run n) transition) run) (mobiles.answers_of transition.steps)

-- what is nothing to a node leaves `idle`
abbrev pub asks : {C : Type 0} → (C → Run → Run) → Option C → Run → Run
asks does None run = note Idle run
asks does (Some call) run = does call run

-- node n does what it does about a call
abbrev pub by_kind : Setup → ℕ → Address → Call → Run → Kind → Run
by_kind s n own call run (Correspondent room) =
    asks (λ c run. after_transition s n own (correspondent_doing.transition_of (identity_in s run n own room) (known_in s run n room) (now_in s run) c) run) (for_correspondent call) run
by_kind s n own call run (Agent preference life room serves) =
    asks (λ c run. after_agent_transition s n own (agent_doing.transition_of (agent_of own preference life room) (agent_known_in run n serves) (now_in s run) c) run)
    (for_agent (around_in run n None) call) run
by_kind s n own call run (Mobile agent) =
    asks (λ c run. after_mobile_transition s n own (mobile_doing.transition_of (mobile_known_in s run n own agent) (now_in s run) c) run)
    (for_mobile (around_in run n (Some own.0)) own call) run

-- nothing where there is no such node
abbrev pub by_host : Setup → ℕ → Call → Run → Option Host → Run
by_host s n call run None = note Idle run
by_host s n call run (Some host) = by_kind s n host.address call run host.kind

abbrev pub acts : Setup → ℕ → Call → Run → Run
acts s n call run = by_host s n call run (slice_get s.hosts n)

-- a row of a binding cache, and a home that is registered
abbrev pub row_entry : ℕ → Row → Entry
row_entry n r = ShownRow (node_id n) r.home r.number r.careof r.sequence r.end r.kept_until

abbrev pub home_entry : ℕ → HomeRow → Entry
home_entry n r = ShownRow (node_id n) r.home 0 r.careof r.sequence r.end r.end

abbrev pub rows_by_kind : Setup → ℕ → Address → Run → Kind → List Entry
rows_by_kind s n own run (Correspondent room) = map (row_entry n) (caches.rows_at (known_in s run n room).cache (now_in s run))
rows_by_kind s n own run (Agent preference life room serves) = map (home_entry n) (rows_at (now_in s run) (agent_known_in run n serves).homes)
rows_by_kind s n own run (Mobile agent) = map (row_entry n) (caches.rows_at (mobile_known_in s run n own agent).part.known.cache (now_in s run))

abbrev pub rows_shown : Setup → ℕ → Run → Option Host → Run
rows_shown s n run None = note Idle run
rows_shown s n run (Some host) = notes (rows_by_kind s n host.address run host.kind) run

-- the rows that node n keeps, in order of home, then of number: those of a cache, or an agent's registrations
abbrev pub shown : Setup → ℕ → Run → Run
shown s n run = rows_shown s n run (slice_get s.hosts n)
