-- Which event is made of which words.
use Rattle.std.specs.Prelude.{ℕ, ◌+◌, ◌/◌, ◌%◌, ◌==◌, nat_lt, if◌then◌else◌, Some}
use Rattle.mip_words.specs.Numbers.{number_bytes}
use Rattle.mip_words.specs.declared.address.Address.{Address}
use Rattle.mip_words.specs.declared.ids.NodeId.{NodeId}
use Rattle.mip_schedule.specs.declared.event.Event.{Event}
use Rattle.mip_schedule.specs.declared.event.Event.TheVariants as events
use Rattle.mip_make.specs.Network.{node, link, correspondent_address, first_home, second_home}
use Rattle.mip_make.specs.declared.draw.Draw.{Draw}

-- the first mobile where y is even, else the second, and their homes
abbrev pub mobile_by : ℕ → NodeId
mobile_by y = if y % 2 == 0 then node 2 else node 3

abbrev pub home_by : ℕ → Address
home_by y = if y % 2 == 0 then first_home else second_home

-- a mobile goes to one of the links
unfoldable pub moves : ℕ → Event
moves y = events.Move (mobile_by y) (Some (link (y / 2 % 3)))

-- the agents of a link advertise themselves
unfoldable pub advertises : ℕ → Event
advertises y = events.Advertise (link (y % 3))

-- data of four bytes, those of y: from the correspondent to a mobile
unfoldable pub calls : ℕ → Event
calls y = events.Payload (node 1) (home_by y) 17 (number_bytes 4 y)

-- from the first mobile to the correspondent, or from the second mobile to the first
unfoldable pub answers : ℕ → Event
answers y = events.Payload (mobile_by y) (if y % 2 == 0 then correspondent_address else first_home) 17 (number_bytes 4 y)

unfoldable pub carries : ℕ → Event
carries y = events.Carry (1 + y % 8)

unfoldable pub waits : ℕ → Event
waits y = events.Wait (1 + y % 1800)

-- a packet whose number is that of this event at most
abbrev pub packet_by : ℕ → ℕ → ℕ
packet_by i y = y % (i + 1)

unfoldable pub loses : ℕ → ℕ → Event
loses i y = events.Lose (packet_by i y)

unfoldable pub repeats : ℕ → ℕ → Event
repeats i y = events.Repeat (packet_by i y)

-- what becomes of packets and of time, by the last digit of x
unfoldable pub goes_on : ℕ → ℕ → ℕ → Event
goes_on i kind y =
    if nat_lt kind 7 then carries y
    else if kind == 7 then waits y
    else if kind == 8 then loses i y
    else repeats i y

-- the event of number i, from 0, by the last digit of x
unfoldable pub drawn : ℕ → Draw → Event
drawn i w =
    if w.x % 10 == 0 then moves w.y
    else if w.x % 10 == 1 then advertises w.y
    else if w.x % 10 == 2 then calls w.y
    else if w.x % 10 == 3 then answers w.y
    else goes_on i (w.x % 10) w.y
