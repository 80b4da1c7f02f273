-- The discovery of agents that is under way, by the steps since it began. RFC 6275 section 11.4.1
use Rattle.std.specs.Prelude.{ℕ, ◌+◌, ◌*◌, ◌^◌, List, Bool, true, false, nat_le, if◌then◌else◌, Option, Some, None}
use Rattle.mip_words.specs.Constants.{initial_dhaad_timeout, dhaad_retries}
use Rattle.mip_discovery.specs.Retries.{DiscoverySeen}
use Rattle.mip_entries.specs.Stamped.{Stamped}
use Rattle.mip_rules_mobile.specs.Steps.{Step, Detaches, Restarts, Seeks, SeeksAgain, GivesUp, Finds}
use Rattle.mip_rules_mobile.specs.Told.{last_told}
use Rattle.mip_rules_mobile.specs.Counted.{how_many}

-- it is over: given up, answered by agents, or lost by leaving or by a restart
abbrev pub is_over : Step → Bool
is_over GivesUp = true
is_over (Finds agents) = true
is_over Detaches = true
is_over (Restarts secrets) = true
is_over _ = false

-- it is over, or another one begins
abbrev pub is_transition : Step → Bool
is_transition Seeks = true
is_transition step = is_over step

abbrev pub is_again : Step → Bool
is_again SeeksAgain = true
is_again _ = false

-- with so many requests behind the first, the last one at a moment: the next is due after twice as long as the last, and behind
-- the fourth there is none
abbrev pub search_of : (identifier retries at : ℕ) → Option DiscoverySeen
search_of identifier retries at =
    if nat_le retries dhaad_retries then Some (record { identifier = identifier; retries = retries; due = at + initial_dhaad_timeout * 2 ^ retries })
    else None

-- when the last request was sent, where the first was sent at this moment
abbrev pub again_at : ℕ → List (Stamped Step) → ℕ
again_at at later = last_told (λ s. if is_again s.step then Some s.at else None) at later

-- a discovery that began at a moment, with these steps behind
abbrev pub search_with : (identifier at : ℕ) → List (Stamped Step) → Option DiscoverySeen
search_with identifier at later = search_of identifier (how_many is_again later) (again_at at later)
