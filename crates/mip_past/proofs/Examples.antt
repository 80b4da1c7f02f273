-- Small histories of a correspondent 0, and what is kept there of a home at each place; of a mobile 0, what it leaves, how many places it came to
-- and which agent it has; and of events, and the plan of an agent 0 behind them.
use Rattle.std.proofs.Common.{◌≡◌, ◌≢◌, ℕ, List, [], ◌∷◌, take, Bool, true, false, refl, arith}
use Rattle.std.specs.Prelude.{Option, Some, None, option_map}
use Rattle.mip_entries.specs.declared.entry.Entry.{Entry}
use Rattle.mip_entries.specs.declared.entry.Entry.TheVariants.{At, Claimed, Moved, Careof, Registered, Accepted, Restarted}
use Rattle.mip_entries.specs.Completed.{node_id, link_id}
use Rattle.mip_schedule.specs.declared.event.Event.{Event}
use Rattle.mip_schedule.specs.declared.event.Event.TheVariants as events
use Rattle.mip_binding.specs.Held.{held, held_under, holds, floor}
use Rattle.mip_history.specs.Bound.{accepted_by}
use Rattle.mip_history.specs.Questions.{moment_in}
use Rattle.mip_past.specs.Registering.{agent_of_told}
use Rattle.mip_past.specs.Planning.{plan_told}
use Rattle.mip_past.specs.Asking.{leaves_told, binding_number_told}
use Rattle.mip_links.specs.Table.{holder_outside}

abbrev at : ℕ → Entry
at moment = At (record { 0 = moment })

-- the correspondent accepts an update of home 20
abbrev accepts : (binding careof sequence end : ℕ) → Entry
accepts binding careof sequence end = Accepted (node_id 0) 7 (record { 0 = 20 }) binding (record { 0 = careof }) sequence (record { 0 = end }) 0 None

-- a second binding under another number, whose end comes first; a deletion behind both; a new life
abbrev history : List Entry
history = accepts 0 40 1 900 ∷ at 100 ∷ accepts 1 50 2 600 ∷ at 600 ∷ at 240100 ∷ accepts 0 20 3 240100 ∷ Restarted (node_id 0) ∷ []

module _ (place : ℕ) where
  abbrev Holds : Option ℕ → Type 0
  Holds careof = held (accepted_by 0 (take place history) 0) 20 (moment_in 0 (take place history)) ≡ careof

  abbrev HoldsUnder : ℕ → Option ℕ → Type 0
  HoldsUnder number careof = held_under (accepted_by 0 (take place history) 0) 20 number (moment_in 0 (take place history)) ≡ careof

  abbrev Keeps : Option ℕ → Type 0
  Keeps sequence = floor (accepted_by 0 (take place history) 0) 20 (moment_in 0 (take place history)) ≡ sequence

  abbrev HoldsWith : (careof : ℕ) → Bool → Type 0
  HoldsWith careof is = holds (accepted_by 0 (take place history) 0) 20 (moment_in 0 (take place history)) careof ≡ is

nothing_yet : Holds 0 None
unfolding held accepted_by
nothing_yet = refl

first_held : Holds 1 (Some 40)
unfolding held accepted_by
first_held = refl

second_held : Holds 3 (Some 50)
unfolding held accepted_by
second_held = refl

both_under : HoldsUnder 3 0 (Some 40) × HoldsUnder 3 1 (Some 50)
unfolding held_under accepted_by
both_under = (refl, refl)

held_with_both : HoldsWith 3 40 true × HoldsWith 3 50 true × HoldsWith 3 60 false
unfolding holds accepted_by
held_with_both = (refl, refl, refl)

held_with_one : HoldsWith 4 40 true × HoldsWith 4 50 false
unfolding holds accepted_by
held_with_one = (refl, refl)

held_no_more : HoldsWith 6 40 false × HoldsWith 6 20 false
unfolding holds accepted_by
held_no_more = (refl, refl)

second_ended : Holds 4 (Some 40)
unfolding held accepted_by
second_ended = refl

kept_longer : Keeps 4 (Some 2)
unfolding floor accepted_by
kept_longer = refl

kept_no_more : Keeps 5 None
unfolding floor accepted_by
kept_no_more = refl

kept_of_deletion : Keeps 6 (Some 3)
unfolding floor accepted_by
kept_of_deletion = refl

none_in_a_new_life : Keeps 7 None
unfolding floor accepted_by
none_in_a_new_life = refl

-- the number of a node of a schedule that was read is no outsider's
no_outsider : (o : ℕ) → 1 ≢ holder_outside o
no_outsider o same = absurd (omega (arith, same))

-- mobile 0 with home 20 goes away, comes home while node 1 has its address, goes away again and restarts
abbrev uses : ℕ → Entry
uses address = Careof (node_id 0) (record { 0 = address })

abbrev moves : List Entry
moves = Claimed 0 (link_id 0) (record { 0 = 20 }) ∷ Moved (node_id 0) None ∷ uses 40 ∷ Claimed 1 (link_id 0) (record { 0 = 20 }) ∷ uses 20 ∷ uses 40 ∷ Restarted (node_id 0) ∷ []

module _ (place : ℕ) where
  abbrev Leaves : Option ℕ → Type 0
  Leaves address = option_map (λ a. a.0) (leaves_told (take place moves) 0) ≡ address

  abbrev Numbers : (numbers number : ℕ) → Type 0
  Numbers numbers number = binding_number_told numbers (take place moves) 0 ≡ number

leaves_home : Leaves 1 (Some 20)
leaves_home = refl

leaves_nothing : Leaves 2 None
leaves_nothing = refl

leaves_careof : Leaves 3 (Some 40)
leaves_careof = refl

-- its home address is with another node
leaves_no_home : Leaves 5 None
leaves_no_home = refl

each_place_has_the_next : Numbers 3 8 1 × Numbers 5 8 1 × Numbers 6 8 2
each_place_has_the_next = (refl, refl, refl)

a_new_life_begins_anew : Numbers 7 8 0
a_new_life_begins_anew = refl

one_number_alone : Numbers 6 1 0
one_number_alone = refl

-- agent 0 is given lifetimes behind a wait, node 1 others, and the agent restarts
abbrev plans : List Event
plans = events.Wait 500 ∷ events.Plan (node_id 0) 100 50 ∷ events.Plan (node_id 1) 10 5 ∷ events.Wait 9 ∷ events.Restart (node_id 0) ∷ []

module _ (count : ℕ) where
  abbrev Plans : (valid preferred since : ℕ) → Type 0
  Plans valid preferred since = (plan_told (record { 0 = 7 }) 0 (take count plans)).plan ≡ record { valid = valid; preferred = preferred; since = record { 0 = since } }

endless_first : Plans 1 4294967295 4294967295 7
endless_first = refl

planned_then : Plans 2 100 50 507
planned_then = refl

planned_still : Plans 4 100 50 507
planned_still = refl

endless_again : Plans 5 4294967295 4294967295 7
endless_again = refl

-- mobile 0 is registered with agent 30 until 900, and sent no home registration that stands here
abbrev registers : List Entry
registers = Registered (node_id 0) (record { 0 = 30 }) (record { 0 = 900 }) ∷ At (record { 0 = 900 }) ∷ []

through_its_agent : option_map (λ a. a.0) (agent_of_told 0 (take 1 registers) 0) ≡ Some 30
through_its_agent = refl

through_none : agent_of_told 900 registers 0 ≡ None
through_none = refl
