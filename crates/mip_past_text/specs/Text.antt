-- The text of what was known at a place of a history: the moment, then of each node that is asked for a line a question, with its answer.
use Rattle.std.specs.Prelude.{ℕ, zero, suc, List, [], ◌∷◌, ◌++◌, length, Bool, false, if◌then◌else◌, Option, Some, None, option_map, slice_get, codes, decimal}
use Rattle.mip_words.specs.declared.address.Address.{Address}
use Rattle.mip_words.specs.declared.ids.NodeId.{NodeId}
use Rattle.mip_binding.specs.Held.{held, held_under, floor}
use Rattle.mip_lines.specs.HexFields.{address_hex}
use Rattle.mip_lines.specs.Lines.{line_text}
use Rattle.mip_symbols.specs.Places.{members, is_agent, is_mobile}
use Rattle.mip_symbols.specs.Spelled.{node_text}
use Rattle.mip_symbols.specs.declared.declaration.Declaration.{Declaration}
use Rattle.mip_symbols.specs.declared.places.Sort.TheVariants as sorts
use Rattle.mip_discovery.specs.declared.plan.PrefixPlan.{PrefixPlan}
use Rattle.mip_schedule.specs.Versions.{is_numbered, numbers_of_version}
use Rattle.mip_schedule.specs.declared.event.Event.{Event}
use Rattle.mip_entries.specs.declared.entry.Entry.{Entry}
use Rattle.mip_rules_agent.specs.declared.ending.Ending.{Ending}
use Rattle.mip_history.specs.Questions.{moment_in}
use Rattle.mip_history.specs.Bound.{accepted_by}
use Rattle.mip_history.specs.Registered.{last_registration}
use Rattle.mip_history.specs.Told.{agent_in, is_bound_in, careof_in}
use Rattle.mip_past.specs.Asking.{present_told, standing_told, leaves_told, binding_number_told, registered_until_in}
use Rattle.mip_past.specs.Hearing.{router_of, agents_in}
use Rattle.mip_past.specs.Planning.{begun_from, plan_told}
use Rattle.mip_past.specs.Registering.{agent_of_told}
use Rattle.mip_past.specs.Due.{due_work_in}
use Rattle.mip_past_led.specs.Leading.{LedSeen, mobile_at}
use Rattle.mip_past_text.specs.Answers.{address_answer, careof_answer, number_answer, moment_answer, standing_answer, yes_or_no, line_if}
use Rattle.mip_past_text.specs.Led.{led_text}
use Rattle.mip_past_text.specs.Subjects.{about_each}
use Rattle.mip_past_text.specs.declared.topic.Topic.{Topic}
use Rattle.mip_past_text.specs.declared.topic.Topic.TheVariants.{Binding, Registration, Peer}

-- `QUESTION NODE ANSWER`, and `QUESTION NODE ADDRESS ANSWER`
abbrev pub node_line : List Declaration → NodeId → (question answer : List ℕ) → List ℕ
node_line ds n question answer = line_text (question ∷ node_text ds n ∷ answer ∷ [])

abbrev pub subject_line : List Declaration → NodeId → (question : List ℕ) → Address → (answer : List ℕ) → List ℕ
subject_line ds n question address answer = line_text (question ∷ node_text ds n ∷ address_hex address ∷ answer ∷ [])

-- the entries before a place of the history of a schedule of this version that began at a moment, all its events, and the run of those
-- that lie wholly before the place
pub record Front : Type 0 where
  pub version : ℕ
  pub start : ℕ
  pub events : List Event
  pub past : List Entry
  pub led : LedSeen

abbrev pub now_of : Front → ℕ
now_of f = moment_in f.start f.past

-- where agent n has a home registered, until when, and the sequence that it keeps of it. RFC 6275 section 10.3.1
abbrev pub registered_line : List Declaration → Front → NodeId → Address → List ℕ
registered_line ds f n home = subject_line ds n (codes "registered") home (address_answer (careof_in (now_of f) f.past n.0 home))

abbrev pub until_line : List Declaration → Front → NodeId → Address → List ℕ
until_line ds f n home = subject_line ds n (codes "until") home (moment_answer (registered_until_in (now_of f) f.past n.0 home))

abbrev pub sequence_line : List Declaration → Front → NodeId → Address → List ℕ
sequence_line ds f n home = subject_line ds n (codes "sequence") home (number_answer (option_map (λ b. b.sequence) (last_registration f.past n.0 home)))

-- under which numbers a home is held, where updates name theirs: a line for each that has an answer
abbrev pub under_line : (node : List ℕ) → Address → (number : ℕ) → Option ℕ → List ℕ
under_line node home number None = []
under_line node home number (Some careof) = line_text (codes "under" ∷ node ∷ address_hex home ∷ decimal number ∷ address_hex (record { 0 = careof }) ∷ [])

unfoldable pub under_lines : List Declaration → Front → NodeId → Address → (numbers : ℕ) → List ℕ
under_lines ds f n home zero = []
under_lines ds f n home (suc number) =
    under_lines ds f n home number ++ under_line (node_text ds n) home number (held_under (accepted_by f.start f.past n.0) home.0 number (now_of f))

abbrev pub numbers_named : (version : ℕ) → ℕ
numbers_named version = if is_numbered version then numbers_of_version version else 0

abbrev pub under_text : List Declaration → Front → NodeId → Address → List ℕ
under_text ds f n home = under_lines ds f n home (numbers_named f.version)

-- what is asked about an address. RFC 6275 sections 9.5.1, 10.3.1 and 11.7.2
abbrev pub topic_text : List Declaration → Front → NodeId → Topic → Address → List ℕ
topic_text ds f n Binding home =
    subject_line ds n (codes "held") home (careof_answer (held (accepted_by f.start f.past n.0) home.0 (now_of f)))
    ++ (subject_line ds n (codes "floor") home (number_answer (floor (accepted_by f.start f.past n.0) home.0 (now_of f)))
    ++ under_text ds f n home)
topic_text ds f n Registration home = registered_line ds f n home ++ (until_line ds f n home ++ sequence_line ds f n home)
topic_text ds f n Peer peer = subject_line ds n (codes "bound") peer (yes_or_no (is_bound_in (now_of f) f.past n.0 peer))

-- about all addresses that the entries name
abbrev pub topic_texts : List Declaration → Front → NodeId → Topic → List ℕ
topic_texts ds f n topic = about_each topic n.0 (topic_text ds f n topic) f.past

-- the ends that an agent waits for, a line each, by the moment. RFC 6275 section 10.3.1
unfoldable pub due_lines : List Declaration → NodeId → List Ending → List ℕ
due_lines ds n [] = []
due_lines ds n (e ∷ es) = subject_line ds n (codes "due") e.home (moment_answer (Some e.end)) ++ due_lines ds n es

abbrev pub due_text : List Declaration → Front → NodeId → List ℕ
due_text ds f n = due_lines ds n (due_work_in (now_of f) f.past n.0)

-- what was known about the addresses that the entries name, and the work that an agent has ahead
abbrev pub about_text : List Declaration → Front → NodeId → List ℕ
about_text ds f n = topic_texts ds f n Binding ++ (topic_texts ds f n Registration ++ (due_text ds f n ++ topic_texts ds f n Peer))

-- what a mobile gives up if it leaves its link, and the number of the bindings that it asks for. RFC 6275 section 11.5.1
abbrev pub moving_text : List Declaration → Front → NodeId → List ℕ
moving_text ds f n =
    node_line ds n (codes "leaves") (address_answer (leaves_told f.past n.0))
    ++ node_line ds n (codes "number") (decimal (binding_number_told (numbers_of_version f.version) f.past n.0))

abbrev pub is_mobile_any : Option Declaration → Bool
is_mobile_any None = false
is_mobile_any (Some d) = is_mobile d

abbrev pub mobile_text : List Declaration → Front → NodeId → List ℕ
mobile_text ds f n = if is_mobile_any (slice_get (members sorts.Node ds) n.0) then moving_text ds f n else []

-- the prefix plan that an agent keeps behind all events of the moment, and the other agents that it knows of, a line each.
-- RFC 6275 sections 10.5.1 and 10.6
abbrev pub plan_line : (node : List ℕ) → PrefixPlan → List ℕ
plan_line node plan = line_text (codes "plan" ∷ node ∷ decimal plan.valid ∷ decimal plan.preferred ∷ decimal plan.since.0 ∷ [])

abbrev pub plan_text : List Declaration → Front → NodeId → List ℕ
plan_text ds f n = plan_line (node_text ds n) (plan_told (record { 0 = f.start }) n.0 (begun_from (record { 0 = f.start }) (now_of f) f.events)).plan

unfoldable pub hears_lines : List Declaration → NodeId → List Address → List ℕ
hears_lines ds n [] = []
hears_lines ds n (a ∷ agents) = node_line ds n (codes "hears") (address_hex a) ++ hears_lines ds n agents

abbrev pub hears_text : List Declaration → Front → NodeId → List ℕ
hears_text ds f n = hears_lines ds n (agents_in (router_of ds) f.start f.past n.0)

abbrev pub is_agent_any : Option Declaration → Bool
is_agent_any None = false
is_agent_any (Some d) = is_agent d

abbrev pub agent_text : List Declaration → Front → NodeId → List ℕ
agent_text ds f n = if is_agent_any (slice_get (members sorts.Node ds) n.0) then plan_text ds f n ++ hears_text ds f n else []

-- what is asked of a node of its kind, about addresses, and of a mobile that is led along
abbrev pub rest_text : List Declaration → Front → NodeId → List ℕ
rest_text ds f n = mobile_text ds f n ++ (agent_text ds f n ++ (about_text ds f n ++ led_text (node_text ds n) (mobile_at f.led n.0)))

-- what was known of a node
unfoldable pub node_known : List Declaration → Front → NodeId → List ℕ
node_known ds f n =
    node_line ds n (codes "present") (address_answer (present_told f.past n.0))
    ++ (node_line ds n (codes "standing") (standing_answer (standing_told f.past n.0))
    ++ (node_line ds n (codes "agent") (address_answer (agent_in (now_of f) f.past n.0))
    ++ (line_if (codes "through") (node_text ds n) (agent_of_told (now_of f) f.past n.0)
    ++ rest_text ds f n)))

-- of the first so many nodes
unfoldable pub nodes_known : List Declaration → Front → ℕ → List ℕ
nodes_known ds f zero = []
nodes_known ds f (suc n) = nodes_known ds f n ++ node_known ds f (record { 0 = n })

-- of the node that is asked for, or of each declared one
abbrev pub known_of : List Declaration → Front → Option NodeId → List ℕ
known_of ds f None = nodes_known ds f (length (members sorts.Node ds))
known_of ds f (Some n) = node_known ds f n

-- `at MOMENT` first
unfoldable pub known_text : List Declaration → Front → Option NodeId → List ℕ
known_text ds f node = line_text (codes "at" ∷ decimal (now_of f) ∷ []) ++ known_of ds f node
