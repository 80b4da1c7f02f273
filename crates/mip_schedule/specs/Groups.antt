-- Events by who or what they are about.
use Rattle.std.specs.Prelude.{Bool, true, false}
use Rattle.mip_schedule.specs.declared.event.Event.{Event}
use Rattle.mip_schedule.specs.declared.event.Event.TheVariants as events

abbrev pub is_bind : Event → Bool
is_bind (events.Bind outsider link ends sequence lifetime home_test careof_test number) = true
is_bind _ = false

-- what an outsider posts
abbrev pub is_posted : Event → Bool
is_posted (events.Inject outsider link packet) = true
is_posted (events.Probe outsider link careof source peer cookie) = true
is_posted (events.Bind outsider link ends sequence lifetime home_test careof_test number) = true
is_posted (events.Tell outsider link test probe) = true
is_posted _ = false

-- what else an outsider does
abbrev pub is_outside : Event → Bool
is_outside (events.Listen outsider link) = true
is_outside (events.Deaf outsider link) = true
is_outside (events.Squat outsider address) = true
is_outside (events.Yield outsider address) = true
is_outside _ = false

-- what becomes of packets
abbrev pub is_delivery : Event → Bool
is_delivery (events.Deliver number) = true
is_delivery (events.Repeat number) = true
is_delivery (events.Lose number) = true
is_delivery (events.Carry count) = true
is_delivery _ = false

-- what a node does
abbrev pub is_of_node : Event → Bool
is_of_node (events.Move node link) = true
is_of_node (events.Payload node to proto payload) = true
is_of_node (events.Restart node) = true
is_of_node (events.Refresh node home) = true
is_of_node (events.Plan node valid preferred) = true
is_of_node (events.Ask node) = true
is_of_node (events.Show node) = true
is_of_node (events.Settle a b) = true
is_of_node _ = false
