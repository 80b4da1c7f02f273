-- What a mobile knows of where it stands and of its home registration. RFC 6275 sections 11.5 and 11.7.1
use Rattle.std.specs.Prelude.{ℕ, ◌+◌, ◌%◌, Bool, true, false, ◌==◌, nat_lt, if◌then◌else◌, Option, Some, None, unwrap_or, option_map, List, [], ◌∷◌, not, filter, ◌++◌}
use Rattle.std.specs.Option.{option_or}
use Rattle.mip_words.specs.declared.address.Address.{Address}
use Rattle.mip_bulist.specs.declared.home_timer.HomeTimer.{HomeTimer}
use Rattle.mip_bulist.specs.declared.home_timer.HomeTimer.TheVariants as home_timers
use Rattle.mip_bulist.specs.declared.work.Work.TheVariants.{Home}
use Rattle.mip_rules_mobile.specs.declared.attachment.Attachment.{Attachment}
use Rattle.mip_rules_mobile.specs.declared.attachment.Attachment.TheVariants.{Detached, AtHome, Away}
use Rattle.mip_rules_mobile.specs.declared.registered.Registered.{Registered}
use Rattle.mip_rules_mobile.specs.declared.home_update.HomeUpdate.{HomeUpdate}
use Rattle.mip_rules_mobile.specs.declared.numbering.Numbering.{Numbering}
use Rattle.mip_rules_mobile.specs.Sendings.{RegistersHome, DeregistersHome}
use Rattle.mip_rules_mobile.specs.Steps.{Step, Sends, FindsTaken, Arrives, Detaches, Restarts, Registers, Unregisters, Resequences, Waits}
use Rattle.mip_rules_mobile.specs.Known.{Known}

-- its home address
abbrev pub home_of : Known → Address
home_of k = k.part.identity.own

-- at home, or away
abbrev pub standing_at : (home address : Address) → Attachment
standing_at home address = if address.0 == home.0 then AtHome else Away address

-- where a step says that it stands: at the last address that it uses, nowhere once it left or found its address taken
abbrev pub standing_said : Address → Step → Option Attachment
standing_said home (Arrives address) = Some (standing_at home address)
standing_said home (FindsTaken address holder) = Some Detached
standing_said home Detaches = Some Detached
standing_said home _ = None

abbrev pub standing_after : Known → Step → Attachment
standing_after k step = unwrap_or (standing_said (home_of k) step) k.standing

-- how many numbers its bindings may have, from 0 on: as many as its correspondent part has for those of others
abbrev pub numbers_of : Known → ℕ
numbers_of k = k.part.known.cache.numbers

-- one place more where it comes to an address other than its home; a restart begins anew
abbrev pub places_after : Known → Step → ℕ
places_after k (Arrives address) = if address.0 == (home_of k).0 then k.places else (k.places + 1) % numbers_of k
places_after k (Restarts secrets) = 0
places_after k _ = k.places

-- the number of a binding that it asks for: each place has the next number, and behind the last comes 0 again
abbrev pub binding_number_of : Known → ℕ
binding_number_of k = k.places % numbers_of k

-- the registration that a step says it has: the last one acknowledged, since it last arrived, left, found its address taken
-- or restarted, and not ended since
abbrev pub registered_said : Step → Option (Option Registered)
registered_said (Registers agent end renew) = Some (Some (record { agent = agent; end = end }))
registered_said (Unregisters agent) = Some None
registered_said (Arrives address) = Some None
registered_said (FindsTaken address holder) = Some None
registered_said Detaches = Some None
registered_said (Restarts secrets) = Some None
registered_said _ = None

abbrev pub registered_after : Known → Step → Option Registered
registered_after k step = unwrap_or (registered_said step) k.registered

abbrev pub sent_home : (agent : Address) (sequence at : ℕ) (deletes : Bool) → HomeUpdate
sent_home agent sequence at deletes = record { agent = agent; sequence = sequence; at = record { 0 = at }; deletes = deletes }

-- the home registration or deregistration that a step sends; none is known after a restart
abbrev pub latest_said : ℕ → Step → Option (Option HomeUpdate)
latest_said at (Sends (RegistersHome home careof agent sequence)) = Some (Some (sent_home agent sequence at false))
latest_said at (Sends (DeregistersHome home agent sequence)) = Some (Some (sent_home agent sequence at true))
latest_said at (Restarts secrets) = Some None
latest_said at _ = None

abbrev pub latest_after : Known → ℕ → Step → Option HomeUpdate
latest_after k at step = unwrap_or (latest_said at step) k.latest

-- where a home registration goes
abbrev pub agent_said : Step → Option (Option Address)
agent_said (Sends (RegistersHome home careof agent sequence)) = Some (Some agent)
agent_said (Restarts secrets) = Some None
agent_said _ = None

abbrev pub agent_after : Known → Step → Option Address
agent_after k step = unwrap_or (agent_said step) k.agent

-- a home registration was sent since the last end of one, or since it restarted
abbrev pub owes_said : Step → Option Bool
owes_said (Sends (RegistersHome home careof agent sequence)) = Some true
owes_said (Unregisters agent) = Some false
owes_said (Restarts secrets) = Some false
owes_said _ = None

abbrev pub owes_after : Known → Step → Bool
owes_after k step = unwrap_or (owes_said step) k.owes

-- the number of the next update to an agent: 1 where there was none
abbrev pub next_to : Address → List Numbering → ℕ
next_to agent [] = 1
next_to agent (n ∷ ns) = if n.agent.0 == agent.0 then n.next else next_to agent ns

-- the next update to an agent takes this number
abbrev pub with_next : Address → ℕ → List Numbering → List Numbering
with_next agent next ns = filter (λ n. not (n.agent.0 == agent.0)) ns ++ record { agent = agent; next = next } ∷ []

abbrev pub number_after : ℕ → ℕ
number_after sequence = (sequence + 1) % 65536

-- a number that the next update to an agent takes
pub record Next : Type 0 where
  pub agent : Address
  pub next : ℕ

-- one more than the one sent, or than a value received with status 135; a restart forgets all
abbrev pub next_said : Step → Option (Option Next)
next_said (Sends (RegistersHome home careof agent sequence)) = Some (Some (record { agent = agent; next = number_after sequence }))
next_said (Sends (DeregistersHome home agent sequence)) = Some (Some (record { agent = agent; next = number_after sequence }))
next_said (Resequences agent last) = Some (Some (record { agent = agent; next = number_after last }))
next_said (Restarts secrets) = Some None
next_said _ = None

abbrev pub renumbered : Option (Option Next) → List Numbering → List Numbering
renumbered (Some (Some n)) ns = with_next n.agent n.next ns
renumbered (Some None) ns = []
renumbered None ns = ns

abbrev pub numberings_after : Known → Step → List Numbering
numberings_after k step = renumbered (next_said step) k.numberings

-- how long the resending waits once a timer is set: its own timer alone changes that
abbrev pub wait_set_by : HomeTimer → (wait old : ℕ) → ℕ
wait_set_by home_timers.Resend wait old = wait
wait_set_by home_timers.Renew wait old = old
wait_set_by home_timers.End wait old = old
wait_set_by home_timers.Discover wait old = old

-- how long the resending of a home registration or deregistration waits
abbrev pub wait_after : Known → Step → ℕ
wait_after k (Waits (Home timer) wait) = wait_set_by timer wait k.wait
wait_after k (Restarts secrets) = 0
wait_after k _ = k.wait

-- registered: its end lies ahead
abbrev pub standing_registration : ℕ → Option Registered → Option Registered
standing_registration now None = None
standing_registration now (Some r) = if nat_lt now r.end.0 then Some r else None

abbrev pub registration_of : Known → ℕ → Option Registered
registration_of k now = standing_registration now k.registered

-- the agent of its registration while it is registered
abbrev pub registered_agent : Known → ℕ → Option Address
registered_agent k now = option_map (λ r. r.agent) (registration_of k now)

-- the agent for tunnels, deregistrations and prefix messages: that of the registration, else where the last home
-- registration went
abbrev pub agent_of : Known → ℕ → Option Address
agent_of k now = option_or (registered_agent k now) k.agent

-- the agent that a home registration goes to: the one declared, else the one chosen last
abbrev pub target_of : Known → Option Address
target_of k = option_or k.declared k.chosen
