-- What a home agent knows of its past: one question a field, and what each step makes of the answer.
use Rattle.std.specs.Prelude.{ℕ, List, [], ◌∷◌, Bool, true, false, not, ◌&&◌, ◌==◌, nat_lt, if◌then◌else◌, Option, Some, None, is_some, unwrap_or, option_map, length, map, fold, insert, position}
use Rattle.std.specs.List.{filter, flat_map}
use Rattle.std.specs.Option.{option_map_or, option_and_then}
use Rattle.mip_words.specs.declared.address.Address.{Address}
use Rattle.mip_binding.specs.Rows.{find_by, put_by}
use Rattle.mip_discovery.specs.declared.plan.PrefixPlan.{PrefixPlan}
use Rattle.mip_discovery.specs.Heard as heard
use Rattle.mip_discovery.specs.Listed.{AgentsSeen}
use Rattle.mip_discovery.specs.Plan.{left_of}
use Rattle.mip_entries.specs.Stamped.{Stamped}
use Rattle.mip_entries.specs.Transitions.{known_by}
use Rattle.mip_rules_agent.specs.declared.home_binding.HomeBinding.{HomeBinding}
use Rattle.mip_rules_agent.specs.declared.home_row.HomeRow.{HomeRow}
use Rattle.mip_rules_agent.specs.declared.served.Served.{Served}
use Rattle.mip_rules_agent.specs.declared.ending.Ending.{Ending}
use Rattle.mip_rules_agent.specs.Known.{Known}
use Rattle.mip_rules_agent.specs.Calls as calls
use Rattle.mip_rules_agent.specs.Calls.{Call}
use Rattle.mip_rules_agent.specs.Steps.{Step, Called, Registers, Claims, Releases, Rang, is_call}

-- the moment of the last call that it was given, 0 before the first
abbrev pub last_after : ℕ → ℕ → Step → ℕ
last_after last at step = if is_call step then at else last

-- the homes that it serves, each with the last registration or deregistration that was accepted for it, and whether its
-- address was claimed and not given up. A sequence is kept beyond its registration (RFC 6275 section 10.3.1)
abbrev pub key_of : Served → ℕ
key_of s = s.home.0

abbrev pub bound_to : HomeBinding → Served → Served
bound_to b s = record { home = s.home; binding = Some b; held = s.held }

abbrev pub holding : Bool → Served → Served
holding held s = record { home = s.home; binding = s.binding; held = held }

abbrev pub changed_if : (Served → Served) → Address → Served → Served
changed_if change home s = if s.home.0 == home.0 then change s else s

abbrev pub with_served : (Served → Served) → Address → List Served → List Served
with_served change home homes = map (changed_if change home) homes

abbrev pub homes_after : List Served → Step → List Served
homes_after homes (Registers number home b) = with_served (bound_to b) home homes
homes_after homes (Claims home) = with_served (holding true) home homes
homes_after homes (Releases home) = with_served (holding false) home homes
homes_after homes _ = homes

-- when registrations end, by the moment, ties in the order in which they were accepted
abbrev pub place_of : ℕ → List Ending → ℕ
place_of end es = unwrap_or (position (λ e. nat_lt end e.end.0) es) (length es)

abbrev pub without_end : Address → List Ending → List Ending
without_end home es = filter (λ e. not (e.home.0 == home.0)) es

abbrev pub with_end : Ending → List Ending → List Ending
with_end e es = insert es (place_of e.end.0 es) e

-- an accepted registration ends at its time, in the place of the one before it; an accepted deregistration has ended
abbrev pub ends_with : Address → HomeBinding → List Ending → List Ending
ends_with home b es =
    if b.careof.0 == home.0 then without_end home es
    else with_end (record { home = home; end = b.end }) (without_end home es)

-- those that are due, and the others
abbrev pub due_ends : ℕ → List Ending → List Ending
due_ends now es = filter (λ e. not (nat_lt now e.end.0)) es

abbrev pub later_ends : ℕ → List Ending → List Ending
later_ends now es = filter (λ e. nat_lt now e.end.0) es

abbrev pub ends_after : List Ending → ℕ → Step → List Ending
ends_after es at (Registers number home b) = ends_with home b es
ends_after es at Rang = later_ends at es
ends_after es at _ = es

-- the other home agents, as their advertisements leave them. RFC 6275 section 10.5.1
abbrev pub agents_called : AgentsSeen → ℕ → Call → AgentsSeen
agents_called agents at (calls.Hear agent preference life) = record {
  last = at;
  agents = heard.after at (heard.agent_of (record { at = at; agent = agent; preference = preference; life = life })) agents.agents;
}
agents_called agents at _ = agents

abbrev pub agents_after : AgentsSeen → ℕ → Step → AgentsSeen
agents_after agents at (Called call) = agents_called agents at call
agents_after agents at _ = agents

-- the lifetimes of its prefix, as the last plan has them. RFC 6275 section 10.6
abbrev pub plan_called : PrefixPlan → ℕ → Call → PrefixPlan
plan_called plan at (calls.Plan valid preferred) = record { valid = valid; preferred = preferred; since = record { 0 = at } }
plan_called plan at _ = plan

abbrev pub plan_after : PrefixPlan → ℕ → Step → PrefixPlan
plan_after plan at (Called call) = plan_called plan at call
plan_after plan at _ = plan

-- one step more
unfoldable pub after : Known → Stamped Step → Known
after k s = record {
  last = last_after k.last s.at s.step;
  homes = homes_after k.homes s.step;
  ends = ends_after k.ends s.at s.step;
  agents = agents_after k.agents s.at s.step;
  plan = plan_after k.plan s.at s.step;
}

-- a home that was never registered
abbrev pub new_home : Address → Served
new_home home = record { home = home; binding = None; held = false }

-- homes in order of address
abbrev pub homes_of : List Address → List Served
homes_of serves = fold (λ homes home. put_by key_of (new_home home) homes) [] serves

abbrev pub endless : PrefixPlan
endless = record { valid = 4294967295; preferred = 4294967295; since = record { 0 = 0 } }

-- a new home agent that serves these homes
abbrev pub fresh : List Address → Known
fresh serves = record { last = 0; homes = homes_of serves; ends = []; agents = record { last = 0; agents = [] }; plan = endless }

-- what a past leaves known
unfoldable pub known : List Address → List (Stamped Step) → Known
known serves past = known_by after (fresh serves) past

-- what is kept of a home, where it is served
abbrev pub served_at : Known → Address → Option Served
served_at k home = find_by key_of home.0 k.homes

abbrev pub is_served : Known → Address → Bool
is_served k home = is_some (served_at k home)

-- the last registration or deregistration that was accepted for a home
abbrev pub binding_of : Known → Address → Option HomeBinding
binding_of k home = option_and_then (λ s. s.binding) (served_at k home)

-- the agent has claimed its address and not given it up
abbrev pub holds : Known → Address → Bool
holds k home = option_map_or (λ s. s.held) (served_at k home) false

-- the sequence that the next update for a home must come after
abbrev pub kept_of : Known → Address → Option ℕ
kept_of k home = option_map (λ b. b.sequence) (binding_of k home)

-- a registration stands: its care-of address is not home, and its end lies ahead
abbrev pub is_standing : Address → ℕ → HomeBinding → Bool
is_standing home now b = not (b.careof.0 == home.0) && nat_lt now b.end.0

abbrev pub if_standing : Address → ℕ → Option HomeBinding → Option HomeBinding
if_standing home now None = None
if_standing home now (Some b) = if is_standing home now b then Some b else None

-- the registered care-of address of a home
abbrev pub careof_at : Known → ℕ → Address → Option Address
careof_at k now home = option_map (λ b. b.careof) (if_standing home now (binding_of k home))

-- the homes that are registered, in order of address
abbrev pub row_of : Address → HomeBinding → HomeRow
row_of home b = record { home = home; careof = b.careof; sequence = b.sequence; end = b.end }

abbrev pub row_if : Address → Option HomeBinding → List HomeRow
row_if home None = []
row_if home (Some b) = row_of home b ∷ []

abbrev pub rows_at : ℕ → List Served → List HomeRow
rows_at now homes = flat_map (λ s. row_if s.home (if_standing s.home now s.binding)) homes

-- so many homes are registered, and this one is not
abbrev pub is_full : ℕ → Known → ℕ → Address → Bool
is_full room k now home = not (is_some (careof_at k now home)) && not (nat_lt (length (rows_at now k.homes)) room)

-- the seconds for which the prefix is still valid, and preferred
abbrev pub valid_at : Known → ℕ → ℕ
valid_at k now = left_of k.plan.valid k.plan.since.0 now

abbrev pub preferred_at : Known → ℕ → ℕ
preferred_at k now = left_of k.plan.preferred k.plan.since.0 now
