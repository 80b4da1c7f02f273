-- What the entries of a history tell of the addresses of somebody, and what the steps of a home agent and of a mobile do about
-- addresses. RFC 6275 sections 10.3.1, 10.3.2, 10.4.1 and 11.5.1
use Rattle.std.specs.Prelude.{ℕ, List, Bool, not, ◌&&◌, ◌==◌, if◌then◌else◌, Option, Some, None, is_some}
use Rattle.std.specs.List.{filter_map}
use Rattle.mip_words.specs.declared.address.Address.{Address}
use Rattle.mip_entries.specs.declared.entry.Entry.{Entry}
use Rattle.mip_entries.specs.declared.entry.Entry.TheVariants as entries
use Rattle.mip_entries.specs.Stamped.{Stamped}
use Rattle.mip_rules_agent.specs.Steps as agents
use Rattle.mip_rules_mobile.specs.Steps as mobiles
use Rattle.mip_links.specs.Table.{link_of}

pub data Claiming : Type 0 where
  -- an address is claimed
  Claims : (address : Address) → Claiming
  -- it is given up
  Releases : (address : Address) → Claiming
  -- it is claimed in vain, since somebody else has it
  FindsTaken : (address : Address) (holder : ℕ) → Claiming

-- what an entry tells of somebody, a node or an outsider
abbrev pub claiming_told : (who : ℕ) → Entry → Option Claiming
claiming_told who (entries.Claimed by link address) = if who == by then Some (Claims address) else None
claiming_told who (entries.Released by link address) = if who == by then Some (Releases address) else None
claiming_told who (entries.Taken by link address holder) = if who == by then Some (FindsTaken address holder) else None
claiming_told who _ = None

-- what a history tells, oldest first
abbrev pub claimings_told : (who : ℕ) → List Entry → List Claiming
claimings_told who past = filter_map (claiming_told who) past

-- an address is on one of these links, which are given by their prefixes
abbrev pub is_on_link : (links : List ℕ) → Address → Bool
is_on_link links address = is_some (link_of links address.0)

-- about an address that is on no link, nothing is done
abbrev pub if_on_link : (links : List ℕ) → Address → Claiming → Option Claiming
if_on_link links address c = if is_on_link links address then Some c else None

-- what an agent's step does about an address
abbrev pub agent_claiming : (links : List ℕ) → agents.Step → Option Claiming
agent_claiming links (agents.Claims home) = if_on_link links home (Claims home)
agent_claiming links (agents.Releases home) = if_on_link links home (Releases home)
agent_claiming links _ = None

abbrev pub agent_claimings : (links : List ℕ) → List (Stamped agents.Step) → List Claiming
agent_claimings links past = filter_map (λ s. agent_claiming links s.step) past

-- what an entry tells of a mobile's claims: of addresses other than its home address, which passes to it without a step, and of
-- addresses that it finds taken
abbrev pub search_told : (own : Address) (who : ℕ) → Entry → Option Claiming
search_told own who (entries.Claimed by link address) = if (who == by) && not (address.0 == own.0) then Some (Claims address) else None
search_told own who (entries.Taken by link address holder) = if who == by then Some (FindsTaken address holder) else None
search_told own who _ = None

abbrev pub searches_told : (own : Address) (who : ℕ) → List Entry → List Claiming
searches_told own who past = filter_map (search_told own who) past

-- and a mobile's step
abbrev pub mobile_search : (links : List ℕ) (own : Address) → mobiles.Step → Option Claiming
mobile_search links own (mobiles.Claims address) = if is_on_link links address && not (address.0 == own.0) then Some (Claims address) else None
mobile_search links own (mobiles.FindsTaken address holder) = if_on_link links address (FindsTaken address holder)
mobile_search links own _ = None

abbrev pub mobile_searches : (links : List ℕ) (own : Address) → List (Stamped mobiles.Step) → List Claiming
mobile_searches links own past = filter_map (λ s. mobile_search links own s.step) past

-- what an entry tells of the addresses that a mobile gives up: of those other than its home address
abbrev pub release_told : (own : Address) (who : ℕ) → Entry → Option Claiming
release_told own who (entries.Released by link address) = if (who == by) && not (address.0 == own.0) then Some (Releases address) else None
release_told own who _ = None

abbrev pub releases_told : (own : Address) (who : ℕ) → List Entry → List Claiming
releases_told own who past = filter_map (release_told own who) past

-- and a mobile's step
abbrev pub mobile_release : (links : List ℕ) (own : Address) → mobiles.Step → Option Claiming
mobile_release links own (mobiles.Releases address) = if is_on_link links address && not (address.0 == own.0) then Some (Releases address) else None
mobile_release links own _ = None

abbrev pub mobile_releases : (links : List ℕ) (own : Address) → List (Stamped mobiles.Step) → List Claiming
mobile_releases links own past = filter_map (λ s. mobile_release links own s.step) past
