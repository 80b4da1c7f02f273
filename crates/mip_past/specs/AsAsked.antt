-- What is asked at a place of the history of a run, beside what the nodes know there; and what stands behind the answers.
use Rattle.std.specs.Prelude.{◌≡◌, ◌≢◌, ℕ, ◌<◌, ◌≤◌, ◌==◌, List, length, take, true, false, Option, Some, None, is_some, option_map, slice_get}
use Rattle.mip_words.specs.declared.address.Address.{Address}
use Rattle.mip_words.specs.declared.ids.LinkId.{LinkId}
use Rattle.mip_entries.specs.declared.entry.Entry.{Entry}
use Rattle.mip_entries.specs.declared.entry.Entry.TheVariants.{Claimed, Released, Taken}
use Rattle.mip_rules_correspondent.specs.declared.known.Known.{Known}
use Rattle.mip_binding.specs.Held.{holds}
use Rattle.mip_rules_correspondent.specs.Questions.{held_of, holds_for, floor_of}
use Rattle.mip_rules_agent.specs.Known as agents
use Rattle.mip_rules_agent.specs.Questions.{binding_of, if_standing, careof_at, kept_of, later_ends}
use Rattle.mip_rules_mobile.specs.Known as mobiles
use Rattle.mip_rules_mobile.specs.HomeQuestions.{home_of, binding_number_of, registered_agent, agent_of}
use Rattle.mip_rules_mobile.specs.MovingRules.{releases}
use Rattle.mip_rules_mobile.specs.Steps.{Releases}
use Rattle.mip_rules_mobile.specs.Transitions.{Transition, noted}
use Rattle.mip_rules_mobile.specs.RowQuestions.{bound_row_of}
use Rattle.mip_outside.specs.declared.claim.Claim.{Claim}
use Rattle.mip_outside.specs.Places.{claim_of}
use Rattle.mip_links.specs.Table.{holder_outside}
use Rattle.mip_schedule.specs.Contents.{Content}
use Rattle.mip_schedule.specs.declared.event.Event.{Event}
use Rattle.mip_history.specs.Setup.{Setup, Host, is_mobile_host, setup_of}
use Rattle.mip_history.specs.Setup.Kind.{Correspondent, Agent, Mobile}
use Rattle.mip_history.specs.Questions.{moment_in, holder_in, declared_in}
use Rattle.mip_history.specs.Runs.{Run}
use Rattle.mip_history.specs.Knowing.{known_in, now_in, agent_known_in, mobile_known_in, other_than}
use Rattle.mip_history.specs.Permitted.{opening_claims, permitted}
use Rattle.mip_history.specs.ClaimsLaws.{is_free_for}
use Rattle.mip_history.specs.Bound.{accepted_by, held_in, held_under_in, floor_in, IsBound, IsBoundUnder}
use Rattle.mip_history.specs.Registered.{is_agent_at, registered_in, last_registration, IsRegistered}
use Rattle.mip_history.specs.Told.{agent_in, is_bound_in}
use Rattle.mip_history.specs.Found.{address_of}
use Rattle.mip_past.specs.Asking.{present_told, standing_told, leaves_told, binding_number_told, registered_until_in, is_registered_in}
use Rattle.mip_past.specs.Registering.{agent_of_told}
use Rattle.mip_past.specs.Due.{due_work_in}
use Rattle.mip_past.specs.Places.{run_at, place_at, front_at}

-- what lies before the place behind the first k events is the history of these, at their moment; and each node's own address is
-- the one with which it was declared
pub record IsFront (s : Setup) (events : List Event) (k : ℕ) : Type 0 where
  pub front : front_at s events k ≡ (run_at s events k).past
  pub moment : moment_in s.start (front_at s events k) ≡ now_in s (run_at s events k)
  pub own : (n : ℕ) (host : Host) → slice_get s.hosts n ≡ Some host → declared_in (front_at s events k) n ≡ Some host.address

-- what is asked of node n behind a history is what a correspondent keeps that knows this
pub record KeepsAsAsked (s : Setup) (past : List Entry) (n : ℕ) (known : Known) : Type 0 where
  pub held : (home : Address) → held_in s past n home.0 ≡ option_map (λ a. a.0) (held_of known (moment_in s.start past) home)
  pub holds : (home careof : Address) → holds (accepted_by s.start past n) home.0 (moment_in s.start past) careof.0 ≡ holds_for known (moment_in s.start past) home careof
  pub floor : (home : Address) → floor_in s past n home.0 ≡ floor_of known (moment_in s.start past) home

-- so it is of each correspondent, and of the correspondent part of each mobile
pub record AreKeepersAsAsked (s : Setup) (events : List Event) (k : ℕ) : Type 0 where
  pub correspondent : (n : ℕ) (own : Address) (room : ℕ) → slice_get s.hosts n ≡ Some (record { address = own; kind = Correspondent room })
      → KeepsAsAsked s (front_at s events k) n (known_in s (run_at s events k) n room)
  pub part : (n : ℕ) (own : Address) (agent : Option Address) → slice_get s.hosts n ≡ Some (record { address = own; kind = Mobile agent })
      → KeepsAsAsked s (front_at s events k) n (mobile_known_in s (run_at s events k) n own agent).part.known

-- what is asked of node n is what a home agent keeps that knows this
pub record RegistersAsAsked (s : Setup) (past : List Entry) (n : ℕ) (known : agents.Known) : Type 0 where
  pub careof : (home : Address) → registered_in s past n home ≡ careof_at known (moment_in s.start past) home
  pub until : (home : Address) → registered_until_in (moment_in s.start past) past n home ≡ option_map (λ b. b.end) (if_standing home (moment_in s.start past) (binding_of known home))
  pub sequence : (home : Address) → option_map (λ b. b.sequence) (last_registration past n home) ≡ kept_of known home
  pub due : due_work_in (moment_in s.start past) past n ≡ later_ends (moment_in s.start past) known.ends

-- in a run some home agent has a home registered
pub record IsRegisteredBy (s : Setup) (run : Run) (home : Address) : Type 0 where
  pub agent : ℕ
  pub own : Address
  pub preference : ℕ
  pub life : ℕ
  pub room : ℕ
  pub serves : List Address
  pub is_agent : slice_get s.hosts agent ≡ Some (record { address = own; kind = Agent preference life room serves })
  pub registered : is_some (careof_at (agent_known_in run agent serves) (now_in s run) home) ≡ true

-- so it is of each home agent; and a home is registered exactly where some agent has it registered. Agents are among the first 256
-- nodes, as in every schedule that was read
pub record AreAgentsAsAsked (s : Setup) (events : List Event) (k : ℕ) : Type 0 where
  pub agent : (n : ℕ) (own : Address) (preference life room : ℕ) (serves : List Address) → slice_get s.hosts n ≡ Some (record { address = own; kind = Agent preference life room serves })
      → RegistersAsAsked s (front_at s events k) n (agent_known_in (run_at s events k) n serves)
  pub some : (home : Address) → is_registered_in (moment_in s.start (front_at s events k)) (front_at s events k) home ≡ true → IsRegisteredBy s (run_at s events k) home
  pub each : (home : Address) (by : IsRegisteredBy s (run_at s events k) home) → by.agent < 256 → is_registered_in (moment_in s.start (front_at s events k)) (front_at s events k) home ≡ true

-- what the place of node n answers there to a claim of its home address
abbrev pub home_claim : List Entry → ℕ → (own : Address) → Claim
home_claim past n own = claim_of (other_than n (holder_in past own.0)) (own.0 == own.0)

-- a mobile gives this address up, if there is one
abbrev pub released : Option Address → Transition → Transition
released None t = t
released (Some address) t = noted (Releases address) t

-- what is asked of node n is what a mobile with this own address knows. Its number is no outsider's, as in every schedule that was read
pub record MovesAsAsked (s : Setup) (past : List Entry) (n : ℕ) (own : Address) (known : mobiles.Known) : Type 0 where
  pub present : present_told past n ≡ address_of own known.standing
  pub standing : standing_told past n ≡ known.standing
  pub leaves : (t : Transition) → home_of t.known ≡ own → releases known.standing (home_claim past n own) t ≡ released (leaves_told past n) t
  pub agent : ((o : ℕ) → n ≢ holder_outside o) → agent_in (moment_in s.start past) past n ≡ registered_agent known (moment_in s.start past)
  pub through : ((o : ℕ) → n ≢ holder_outside o) → is_some (registered_agent known (moment_in s.start past)) ≡ true → agent_of_told (moment_in s.start past) past n ≡ agent_of known (moment_in s.start past)
  pub number : 1 ≤ s.numbers → binding_number_told s.numbers past n ≡ binding_number_of known
  pub bound : (peer : Address) → is_bound_in (moment_in s.start past) past n peer ≡ is_some (bound_row_of known (moment_in s.start past) peer)

-- so it is of each mobile, and every other node uses its own address
pub record AreMobilesAsAsked (s : Setup) (events : List Event) (k : ℕ) : Type 0 where
  pub mobile : (n : ℕ) (own : Address) (agent : Option Address) → slice_get s.hosts n ≡ Some (record { address = own; kind = Mobile agent })
      → MovesAsAsked s (front_at s events k) n own (mobile_known_in s (run_at s events k) n own agent)
  pub others : (n : ℕ) (host : Host) → slice_get s.hosts n ≡ Some host → is_mobile_host (Some host) ≡ false → present_told (front_at s events k) n ≡ Some host.address

-- the entry at a place of the permitted history agrees with who is found to hold its address there
pub record IsHolderFound (c : Content) (place : ℕ) : Type 0 where
  pub claimed : (who : ℕ) (link : LinkId) (address : Address) → slice_get (permitted c) place ≡ Some (Claimed who link address) → length (opening_claims (setup_of c)) ≤ place
      → is_free_for (holder_in (take place (permitted c)) address.0) who ≡ true
  pub released : (who : ℕ) (link : LinkId) (address : Address) → slice_get (permitted c) place ≡ Some (Released who link address) → holder_in (take place (permitted c)) address.0 ≡ Some who
  pub taken : (who : ℕ) (link : LinkId) (address : Address) (holder : ℕ) → slice_get (permitted c) place ≡ Some (Taken who link address holder)
      → holder_in (take place (permitted c)) address.0 ≡ Some holder

-- what is held at a place of the permitted history has its update
pub record IsHeldBound (c : Content) (place : ℕ) : Type 0 where
  pub held : (n home careof : ℕ) → held_in (setup_of c) (take place (permitted c)) n home ≡ Some careof → IsBound (setup_of c) (take place (permitted c)) n home careof
  pub under : (n home number careof : ℕ) → held_under_in (setup_of c) (take place (permitted c)) n home number ≡ Some careof
      → IsBoundUnder (setup_of c) (take place (permitted c)) n home number careof
  pub some : (n home careof : ℕ) → holds (accepted_by (setup_of c).start (take place (permitted c)) n) home (moment_in (setup_of c).start (take place (permitted c))) careof ≡ true
      → (number : ℕ) × IsBoundUnder (setup_of c) (take place (permitted c)) n home number careof

-- and what is registered behind the first k events
abbrev pub AreRegistered : Content → (k : ℕ) → Type 0
AreRegistered c k = (n : ℕ) (home careof : Address) → is_agent_at (setup_of c) n ≡ true → registered_in (setup_of c) (front_at (setup_of c) c.events k) n home ≡ Some careof
    → IsRegistered (setup_of c) (front_at (setup_of c) c.events k) n home careof

-- the permitted history of a schedule is the history of its run
abbrev pub IsPermittedFront : Content → (k : ℕ) → Type 0
IsPermittedFront c k = take (place_at (setup_of c) c.events k) (permitted c) ≡ (run_at (setup_of c) c.events k).past
