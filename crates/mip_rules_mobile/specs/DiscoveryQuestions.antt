-- What a mobile knows of other agents and of its prefix. RFC 6275 section 11.4
use Rattle.std.specs.Prelude.{ℕ, ◌+◌, ◌%◌, Bool, true, false, if◌then◌else◌, Option, Some, None, is_some, unwrap_or, option_and_then, List, [], slice_get}
use Rattle.mip_words.specs.declared.address.Address.{Address}
use Rattle.mip_discovery.specs.Retries.{DiscoverySeen, started, retried}
use Rattle.mip_rules_mobile.specs.Sendings.{Solicits}
use Rattle.mip_rules_mobile.specs.Steps.{Step, Sends, Detaches, Restarts, Seeks, SeeksAgain, GivesUp, Finds, Chooses}
use Rattle.mip_rules_mobile.specs.Known.{Known}

-- the discovery under way: from its first request to a matching reply that names an agent, to leaving, to a restart or to
-- giving up
abbrev pub discovery_after : Known → ℕ → Step → Option DiscoverySeen
discovery_after k at Seeks = Some (started at k.discoveries)
discovery_after k at SeeksAgain = option_and_then (retried at) k.discovery
discovery_after k at GivesUp = None
discovery_after k at (Finds agents) = None
discovery_after k at Detaches = None
discovery_after k at (Restarts secrets) = None
discovery_after k at _ = k.discovery

-- identifiers grow by one a discovery
abbrev pub discoveries_after : Known → Step → ℕ
discoveries_after k Seeks = (k.discoveries + 1) % 65536
discoveries_after k (Restarts secrets) = 1
discoveries_after k _ = k.discoveries

-- the agents of a matching reply that names any
abbrev pub found_said : Step → Option (List Address)
found_said (Finds agents) = Some agents
found_said (Restarts secrets) = Some []
found_said _ = None

abbrev pub found_after : Known → Step → List Address
found_after k step = unwrap_or (found_said step) k.found

-- the agent that a step turns to
abbrev pub chosen_said : Step → Option (Option Address)
chosen_said (Chooses agent) = Some (Some agent)
chosen_said (Restarts secrets) = Some None
chosen_said _ = None

abbrev pub chosen_after : Known → Step → Option Address
chosen_after k step = unwrap_or (chosen_said step) k.chosen

abbrev pub is_choice : Step → Bool
is_choice (Chooses agent) = true
is_choice _ = false

-- how many of the agents found were chosen since
abbrev pub tried_after : Known → Step → ℕ
tried_after k step = if is_some (found_said step) then 0 else if is_choice step then k.tried + 1 else k.tried

-- identifiers grow by one a solicitation
abbrev pub solicitations_after : Known → Step → ℕ
solicitations_after k (Sends (Solicits home careof agent identifier)) = (k.solicitations + 1) % 65536
solicitations_after k (Restarts secrets) = 1
solicitations_after k _ = k.solicitations

-- the next agent of those found
abbrev pub next_found : Known → Option Address
next_found k = slice_get k.found k.tried
