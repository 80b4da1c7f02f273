-- The role of a node, and what it does about a call.
use Rattle.std.specs.Prelude.{ℕ, List, [], ◌∷◌, map, Bool, true, false, ◌&&◌, ◌==◌, Option, Some, None, option_map, slice_get}
use Rattle.mip_words.specs.declared.address.Address.{Address}
use Rattle.mip_bcache.specs.Seen.{rows_at as cache_rows}
use Rattle.mip_bulist.specs.Timers.{first_due}
use Rattle.mip_entries.specs.declared.answer.Answer.{Answer}
use Rattle.mip_entries.specs.declared.answer.Answer.TheVariants.{Note}
use Rattle.mip_entries.specs.declared.entry.Entry.{Entry}
use Rattle.mip_entries.specs.declared.entry.Entry.TheVariants.{Idle}
use Rattle.mip_outside.specs.Places.{Around}
use Rattle.mip_rules_correspondent.specs.Questions as correspondent_questions
use Rattle.mip_rules_correspondent.specs.Seen as correspondents
use Rattle.mip_rules_correspondent.specs.Steps as correspondent_steps
use Rattle.mip_rules_agent.specs.Questions as agent_questions
use Rattle.mip_rules_agent.specs.Questions.{rows_at}
use Rattle.mip_rules_agent.specs.Seen as agents
use Rattle.mip_rules_agent.specs.Steps as agent_steps
use Rattle.mip_rules_agent.specs.declared.home_row.HomeRow.{HomeRow}
use Rattle.mip_rules_mobile.specs.Doing.{transition_of}
use Rattle.mip_rules_mobile.specs.HomeQuestions.{home_of}
use Rattle.mip_rules_mobile.specs.Questions as mobile_questions
use Rattle.mip_rules_mobile.specs.Steps as mobile_steps
use Rattle.mip_history.specs.Setup.{Kind}
use Rattle.mip_history.specs.Setup.Kind.{Correspondent as OfCorrespondent, Agent as OfAgent, Mobile as OfMobile}
use Rattle.mip_history.specs.Calls.{Call, for_correspondent, for_agent, for_mobile}
use Rattle.mip_history.specs.Nodes.{row_entry, home_entry}
use Rattle.mip_history.specs.Homes.{is_at_home}
use Rattle.mip_roles.specs.declared.role.Role.{Role}
use Rattle.mip_roles.specs.declared.role.Role.TheVariants.{Correspondent, Agent, Mobile}

-- the moment of its last call
abbrev pub last_of : Role → ℕ
last_of (Correspondent c) = c.known.last.0
last_of (Agent a) = a.known.last
last_of (Mobile k) = k.last.0

-- what is nothing to a role leaves `idle`
abbrev pub or_idle : {C : Type 0} → (C → List Answer) → Option C → List Answer
or_idle answers None = Note Idle ∷ []
or_idle answers (Some call) = answers call

-- its answers to a call
abbrev pub answers_to : Around → Role → ℕ → Call → List Answer
answers_to around (Correspondent c) now call = or_idle (λ x. correspondent_steps.answers_of (correspondents.transition_at c now x).steps) (for_correspondent call)
answers_to around (Agent a) now call = or_idle (λ x. agent_steps.answers_of (agents.transition_at a now x).steps) (for_agent around call)
answers_to around (Mobile k) now call = or_idle (λ x. mobile_steps.answers_of (transition_of k now x).steps) (for_mobile around (home_of k) call)

-- and changes nothing
abbrev pub or_same : {C R : Type 0} → R → (C → R) → Option C → R
or_same role becomes None = role
or_same role becomes (Some call) = becomes call

-- what a call makes of it
abbrev pub after_call : Around → Role → ℕ → Call → Role
after_call around (Correspondent c) now call = or_same (Correspondent c) (λ x. Correspondent (correspondents.called c now x)) (for_correspondent call)
after_call around (Agent a) now call = or_same (Agent a) (λ x. Agent (agents.called a now x)) (for_agent around call)
after_call around (Mobile k) now call = or_same (Mobile k) (λ x. Mobile (transition_of k now x).known) (for_mobile around (home_of k) call)

-- when it has work due: an agent the end of a registration, a mobile whatever its timers are set for
abbrev pub due_of : Role → Option ℕ
due_of (Correspondent c) = None
due_of (Agent a) = option_map (λ e. e.end.0) (slice_get a.known.ends 0)
due_of (Mobile k) = option_map (λ m. m.0) (first_due k.list.timers)

-- the rows that it keeps as node n, in order of home, then of number
abbrev pub rows_of : ℕ → Role → ℕ → List Entry
rows_of n (Correspondent c) now = map (row_entry n) (cache_rows c.known.cache now)
rows_of n (Agent a) now = map (home_entry n) (rows_at now a.known.homes)
rows_of n (Mobile k) now = map (row_entry n) (cache_rows k.part.known.cache now)

-- the homes that it has registered, in order of address
abbrev pub homes_of : Role → ℕ → List HomeRow
homes_of (Correspondent c) now = []
homes_of (Agent a) now = rows_at now a.known.homes
homes_of (Mobile k) now = []

-- it is a mobile at home, and this is its home address
abbrev pub lives_in : Role → (address : ℕ) → Bool
lives_in (Correspondent c) address = false
lives_in (Agent a) address = false
lives_in (Mobile k) address = ((home_of k).0 == address) && is_at_home k.standing

abbrev pub is_roaming : Role → Bool
is_roaming (Correspondent c) = false
is_roaming (Agent a) = false
is_roaming (Mobile k) = true

-- node n in this life, with nothing behind it, where a home's bindings may have so many numbers; a mobile is in its first
abbrev pub new_role : List ℕ → (numbers : ℕ) → ℕ → ℕ → Address → Kind → Role
new_role seed numbers n life own (OfCorrespondent room) =
    Correspondent (record { identity = record { own = own; secrets = record { seed = seed; node = n; life = life }; room = room }; known = correspondent_questions.fresh room numbers })
new_role seed numbers n life own (OfAgent preference seconds room serves) =
    Agent (record { identity = record { own = own; preference = preference; life = seconds; room = room }; known = agent_questions.fresh serves })
new_role seed numbers n life own (OfMobile agent) = Mobile (mobile_questions.fresh own agent numbers (record { seed = seed; node = n; life = 0 }))
