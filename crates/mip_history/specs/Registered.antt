-- Which care-of address a home agent has registered for a home, as the history tells it, and what stands behind it: the update
-- that the mobile with that home had sent under its shield. RFC 6275 sections 10.3.1 and 10.3.2
use Rattle.std.specs.Prelude.{◌≡◌, ◌≢◌, ℕ, ◌+◌, ◌*◌, ◌<◌, ◌≤◌, List, [], ◌∷◌, ◌++◌, Bool, true, false, ◌&&◌, ◌==◌, if◌then◌else◌, Option, Some, None, option_map, slice_get}
use Rattle.std.specs.List.{list_any}
use Rattle.mip_words.specs.Constants.{lifetime_unit}
use Rattle.mip_words.specs.Sequence.{is_after}
use Rattle.mip_words.specs.declared.address.Address.{Address}
use Rattle.mip_words.specs.Asked.{asked}
use Rattle.mip_entries.specs.declared.entry.Entry.{Entry}
use Rattle.mip_entries.specs.declared.entry.Entry.TheVariants as entries
use Rattle.mip_entries.specs.Completed.{node_id}
use Rattle.mip_reception.specs.declared.registration.Registration.{Registration}
use Rattle.mip_reception.specs.Registrations.{home_of, registered_of, deletes}
use Rattle.mip_rules_agent.specs.declared.home_binding.HomeBinding.{HomeBinding}
use Rattle.mip_rules_agent.specs.Questions.{if_standing}
use Rattle.mip_rules_agent.specs.Taken.{IsUpdateIn}
use Rattle.mip_history.specs.Setup.{Setup, Host, Kind}
use Rattle.mip_history.specs.Setup.Kind.{Agent, Mobile}
use Rattle.mip_history.specs.Questions.{moment_in}
use Rattle.mip_history.specs.Bound.{is_restart_of}

abbrev pub is_agent_kind : Kind → Bool
is_agent_kind (Agent preference life room serves) = true
is_agent_kind _ = false

abbrev pub is_agent_host : Option Host → Bool
is_agent_host None = false
is_agent_host (Some host) = is_agent_kind host.kind

-- node n is a home agent
abbrev pub is_agent_at : Setup → ℕ → Bool
is_agent_at s n = is_agent_host (slice_get s.hosts n)

-- the entry by which agent n registers a home, or ends its registration
abbrev pub registration_entry : ℕ → Address → HomeBinding → Entry
registration_entry n home b = entries.Home (node_id n) home b.careof b.sequence b.end

-- what an entry says of the home at agent n: what it registered, or nothing any more
abbrev pub registration_says : ℕ → Address → Entry → Option (Option HomeBinding)
registration_says n home (entries.Home node h careof sequence end) =
    if (n == node.0) && (h.0 == home.0) then Some (Some (record { careof = careof; sequence = sequence; end = end })) else None
registration_says n home (entries.Restarted node) = if n == node.0 then Some None else None
registration_says n home _ = None

-- what agent n registered last for a home in its present life, a registration or its end. Its sequence is the one that is kept
abbrev pub last_registration : List Entry → ℕ → Address → Option HomeBinding
last_registration past n home = asked (registration_says n home) None past

-- the registered care-of address of a home at agent n, at the end of a history: not the home address, and not at its end
abbrev pub registered_in : Setup → List Entry → ℕ → Address → Option Address
registered_in s past n home = option_map (λ b. b.careof) (if_standing home (moment_in s.start past) (last_registration past n home))

-- the mobile with this home sent packet k under its shield
pub record IsSentFrom (s : Setup) (past : List Entry) (k : ℕ) (home : Address) (packet : List ℕ) : Type 0 where
  pub mobile : ℕ
  pub agent : Option Address
  pub is_mobile : slice_get s.hosts mobile ≡ Some (record { address = home; kind = Mobile agent })
  pub before : List Entry
  pub after : List Entry
  pub sent : past ≡ before ++ entries.Sent k (node_id mobile) true packet ∷ after

-- behind this history agent n registered a home, or ended its registration: it had just been handed an update for that home
pub record IsRegistration (s : Setup) (past : List Entry) (n : ℕ) (home : Address) (b : HomeBinding) : Type 0 where
  pub number : ℕ
  pub earlier : List Entry
  pub handed : past ≡ earlier ++ entries.Handed number (node_id n) ∷ []
  -- which the mobile with that home had sent under its shield
  pub bytes : List ℕ
  pub sent : IsSentFrom s past number home bytes
  -- the update names the care-of address; or it is a deletion, and the home address stands for it
  pub update : Registration
  pub is_in : IsUpdateIn bytes update
  pub of_home : home_of update ≡ home
  pub of_careof : b.careof ≡ registered_of update
  -- and its sequence comes after the one that is kept, where one is kept
  pub of_sequence : b.sequence ≡ update.sequence
  pub newer : (last : ℕ) → option_map (λ k. k.sequence) (last_registration past n home) ≡ Some last → is_after update.sequence last ≡ true
  -- it is one for home agents, and ends after the time that was granted, in units of 4 s: an hour at most and no longer than was
  -- asked, none in a deletion, and else some
  pub for_agent : update.for_agent ≡ true
  pub granted : ℕ
  pub until : b.end.0 ≡ moment_in s.start past + lifetime_unit * granted
  pub hour : granted ≤ 900
  pub as_asked : granted ≤ update.lifetime
  pub none : deletes update ≡ true → granted ≡ 0
  pub some : deletes update ≡ false → 1 ≤ granted

abbrev pub is_registration_for : ℕ → Address → Entry → Bool
is_registration_for n home (entries.Home node h careof sequence end) = (n == node.0) && (h.0 == home.0)
is_registration_for n home _ = false

-- a care-of address is registered by an update of this life of the agent, the last one for its home
pub record IsRegistered (s : Setup) (past : List Entry) (n : ℕ) (home careof : Address) : Type 0 where
  pub before : List Entry
  pub binding : HomeBinding
  pub after : List Entry
  pub whole : past ≡ before ++ registration_entry n home binding ∷ after
  pub of_careof : binding.careof ≡ careof
  pub away : careof.0 ≢ home.0
  pub in_time : moment_in s.start past < binding.end.0
  pub this_life : list_any (is_restart_of n) after ≡ false
  pub last : list_any (is_registration_for n home) after ≡ false
  pub stands : IsRegistration s before n home binding

-- what one entry more makes of the registered care-of address of a home at agent n
pub data HomeChange (s : Setup) (past : List Entry) (e : Entry) (n : ℕ) (home : Address) : Type 0 where
  -- it stays
  Stays : registered_in s (past ++ e ∷ []) n home ≡ registered_in s past n home → HomeChange s past e n home
  -- it becomes what an update says
  ByUpdate : (b : HomeBinding) → e ≡ registration_entry n home b → IsRegistration s past n home b → HomeChange s past e n home
  -- time comes to the end of the registration, and there is none any more
  AtEnd : (b : HomeBinding) → last_registration past n home ≡ Some b → b.end.0 ≤ moment_in s.start (past ++ e ∷ []) → registered_in s (past ++ e ∷ []) n home ≡ None
      → HomeChange s past e n home
  -- the life of the agent is over
  ByRestart : is_restart_of n e ≡ true → HomeChange s past e n home
