-- A mobile of a run, as contracts see it: what it was made with, and its past through all its lives.
use Rattle.std.specs.Prelude.{ℕ, List, Option, map}
use Rattle.mip_words.specs.declared.address.Address.{Address}
use Rattle.mip_nonce.specs.Secrets.{Life}
use Rattle.mip_bcache.specs.Seen.{CacheSeen}
use Rattle.mip_entries.specs.Stamped.{Stamped}
use Rattle.mip_rules_mobile.specs.Known.{Known}
use Rattle.mip_rules_mobile.specs.Calls.{Call}
use Rattle.mip_rules_mobile.specs.Steps.{Step}
use Rattle.mip_rules_mobile.specs.Questions.{known, part_room}
use Rattle.mip_rules_mobile.specs.Transitions.{Transition, with_transition}
use Rattle.mip_rules_mobile.specs.Doing.{transition_of}
use Rattle.mip_afresh_rules.specs.Keeping.{IsKept}
use Rattle.mip_afresh_bindings.specs.declared.acceptance.Acceptance.{Acceptance}
use Rattle.mip_afresh_bindings.specs.Accepted.{acceptance_seen}
use Rattle.mip_afresh_bindings.specs.Keeping.{kept_among}

pub record NodeSeen : Type 0 where
  pub home : Address
  -- the agent that it is declared with
  pub declared : Option Address
  -- how many bindings its correspondent part has for each home
  pub numbers : ℕ
  -- the secrets of its first life
  pub secrets : Life
  pub past : List (Stamped Step)

-- what it knows
abbrev pub known_to : NodeSeen → Known
known_to m = known m.home m.declared m.numbers m.secrets m.past

-- what a call is to it
abbrev pub transition_at : NodeSeen → ℕ → Call → Transition
transition_at m now call = transition_of (known_to m) now call

-- and behind a call
abbrev pub after_call : NodeSeen → ℕ → Call → NodeSeen
after_call m now call = record {
  home = m.home;
  declared = m.declared;
  numbers = m.numbers;
  secrets = m.secrets;
  past = with_transition m.past (transition_at m now call);
}

-- what a correspondent part with this cache keeps of any packet is what is kept behind these acceptances
abbrev pub AreAccepted : (numbers now : ℕ) → List Acceptance → CacheSeen → Type 0
AreAccepted numbers now accepted cache =
    (source : Address) (home : Option Address) → IsKept (kept_among part_room numbers (map acceptance_seen accepted) now (record { source = source; home = home })) cache now source home
