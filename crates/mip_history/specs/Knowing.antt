-- What each node knows in a run.
use Rattle.std.specs.Prelude.{ℕ, true, ◌==◌, if◌then◌else◌, List, Option, Some, None, unwrap_or}
use Rattle.mip_words.specs.declared.address.Address.{Address}
use Rattle.mip_nonce.specs.Secrets.{Life}
use Rattle.mip_outside.specs.Places.{Around}
use Rattle.mip_rules_correspondent.specs.declared.identity.Identity.{Identity}
use Rattle.mip_rules_correspondent.specs.declared.known.Known.{Known}
use Rattle.mip_rules_correspondent.specs.Questions.{known}
use Rattle.mip_rules_agent.specs.declared.identity.Identity as agent
use Rattle.mip_rules_agent.specs.Known as agents
use Rattle.mip_rules_agent.specs.Questions as agent_questions
use Rattle.mip_rules_mobile.specs.Known as mobiles
use Rattle.mip_rules_mobile.specs.Questions as mobile_questions
use Rattle.mip_links.specs.Table.{link_of}
use Rattle.mip_history.specs.Setup.{Setup}
use Rattle.mip_history.specs.Runs.{Run, past_at, agent_past_at, mobile_past_at}
use Rattle.mip_history.specs.Questions.{moment_in, life_in, holder_in, spot_in}

-- the link of an address that is on one
abbrev pub link_or_first : Setup → ℕ → ℕ
link_or_first s address = unwrap_or (link_of s.links address) 0

abbrev pub now_in : Setup → Run → ℕ
now_in s run = moment_in s.start run.past

-- what node n draws its secrets from, in a life
abbrev pub secrets_in : Setup → ℕ → ℕ → Life
secrets_in s n life = record { seed = s.seed; node = n; life = life }

-- correspondent n in its present life, and what it knows
abbrev pub identity_in : Setup → Run → ℕ → Address → ℕ → Identity
identity_in s run n own room = record { own = own; secrets = secrets_in s n (life_in run.past n); room = room }

abbrev pub known_in : Setup → Run → ℕ → ℕ → Known
known_in s run n room = known room s.numbers (past_at run n)

-- agent n, and what it knows in its present life
abbrev pub agent_of : Address → (preference life room : ℕ) → agent.Identity
agent_of own preference life room = record { own = own; preference = preference; life = life; room = room }

abbrev pub agent_known_in : Run → ℕ → List Address → agents.Known
agent_known_in run n serves = agent_questions.known serves (agent_past_at run n)

-- what mobile n knows, through all its lives
abbrev pub mobile_known_in : Setup → Run → ℕ → (home : Address) → (agent : Option Address) → mobiles.Known
mobile_known_in s run n home agent = mobile_questions.known home agent s.numbers (secrets_in s n 0) (mobile_past_at run n)

-- the link on which a mobile with this home stands
abbrev pub stands_on : Setup → Run → ℕ → (home : Address) → Option ℕ
stands_on s run n home = spot_in (link_of s.links home.0) run.past n

-- who holds an address besides node n
abbrev pub other_than : ℕ → Option ℕ → Option ℕ
other_than n None = None
other_than n (Some by) = if by == n then None else Some by

-- what node n finds around it as it claims addresses; a mobile has a home address
abbrev pub around_in : Run → ℕ → (home : Option ℕ) → Around
around_in run n home = record { room = λ _. true; others = λ a. other_than n (holder_in run.past a); home = home }
