-- The turns of a hub.
use Rattle.std.specs.Prelude.{ℕ, ◌+◌, ◌%◌, ◌^◌, List, [], ◌∷◌, ◌++◌, ◌==◌, if◌then◌else◌, Option, Some, None, codes, decimal}
use Rattle.std.specs.List.{find, flat_map, fold, list_any}
use Rattle.mip_lines.specs.HexFields.{address_hex, number_hex}
use Rattle.mip_lines.specs.Lines.{line_text}
use Rattle.mip_hub.specs.Adverts.{advert_packet}
use Rattle.mip_hub.specs.Calls.{Call, Listens, Sends, Receives, Gives}
use Rattle.mip_hub.specs.Passing.{passed, passed_calls, passed_text}
use Rattle.mip_hub.specs.Ports.{is_of, without, with_port}
use Rattle.mip_hub.specs.Reading.{Content, is_copies}
use Rattle.mip_hub.specs.declared.hub.Hub.{Hub}
use Rattle.mip_hub.specs.declared.hub_line.HubLine.{HubLine}
use Rattle.mip_hub.specs.declared.hub_line.HubLine.TheVariants.{Claim, Release, Advertise, Copies}
use Rattle.mip_hub.specs.declared.port_row.PortRow.{PortRow}

-- what a turn received: a datagram, or none
abbrev pub Seen : Type 0
Seen = Option (List ℕ)

abbrev pub turn_of : HubLine → ℕ
turn_of (Claim turn address port) = turn
turn_of (Release turn address) = turn
turn_of (Advertise turn prefix agent port) = turn
turn_of (Copies turn count) = turn

abbrev pub ports_after : HubLine → List PortRow → List PortRow
ports_after (Claim turn address port) ports = with_port address port ports
ports_after (Release turn address) ports = without address ports
ports_after _ ports = ports

-- the line that tells a line of the configuration, where addresses are at these ports
abbrev pub told_line : HubLine → List PortRow → List ℕ
told_line (Claim turn address port) ports = line_text (codes "claim" ∷ address_hex address ∷ decimal port ∷ [])
told_line (Release turn address) ports =
    if list_any (is_of address) ports then line_text (codes "free" ∷ address_hex address ∷ []) else line_text (codes "idle" ∷ [])
told_line (Advertise turn prefix agent port) ports = line_text (codes "advert" ∷ number_hex 8 prefix.0 ∷ decimal port ∷ [])
told_line (Copies turn count) ports = []

-- a line is done
unfoldable pub line_done : Hub → HubLine → Hub
line_done hub line = record hub { ports = ports_after line hub.ports; text = hub.text ++ told_line line hub.ports }

unfoldable pub line_calls : HubLine → List Call
line_calls (Advertise turn prefix agent port) = Sends port (0 ∷ advert_packet prefix agent) ∷ []
line_calls _ = []

-- the lines of a turn are done in their order
abbrev pub step_in : (turn : ℕ) → Hub → HubLine → Hub
step_in turn hub line = if turn_of line == turn then line_done hub line else hub

abbrev pub calls_in : (turn : ℕ) → HubLine → List Call
calls_in turn line = if turn_of line == turn then line_calls line else []

abbrev pub lines_done : List HubLine → (turn : ℕ) → Hub → Hub
lines_done lines turn hub = fold (step_in turn) hub lines

abbrev pub lines_calls : List HubLine → (turn : ℕ) → List Call
lines_calls lines turn = flat_map (calls_in turn) lines

abbrev pub count_of : Option HubLine → ℕ
count_of (Some (Copies turn count)) = count
count_of _ = 1

-- how often the datagram of a turn is sent on: once where no line says
unfoldable pub copies_of : List HubLine → (turn : ℕ) → ℕ
copies_of lines turn = count_of (find (is_copies turn) lines)

-- a datagram is numbered and passed
unfoldable pub datagram_done : (copies : ℕ) → List ℕ → Hub → Hub
datagram_done copies datagram hub = record hub {
  next = (hub.next + 1) % 2 ^ 64;
  text = hub.text ++ (line_text (codes "got" ∷ decimal hub.next ∷ []) ++ passed_text hub.next (passed hub.ports copies datagram));
}

abbrev pub seen_done : (copies : ℕ) → Seen → Hub → Hub
seen_done copies None hub = hub
seen_done copies (Some datagram) hub = datagram_done copies datagram hub

abbrev pub seen_calls : (copies : ℕ) → Seen → Hub → List Call
seen_calls copies None hub = []
seen_calls copies (Some datagram) hub = passed_calls datagram (passed hub.ports copies datagram)

-- no text yet
abbrev pub begun : Hub → Hub
begun hub = record hub { text = [] }

-- a turn: its lines, then what it received
unfoldable pub turn_done : List HubLine → (turn : ℕ) → Seen → Hub → Hub
turn_done lines turn seen hub = seen_done (copies_of lines turn) seen (lines_done lines turn (begun hub))

-- its calls of the link
unfoldable pub turn_calls : List HubLine → (turn : ℕ) → Seen → Hub → List Call
turn_calls lines turn seen hub =
    lines_calls lines turn ++ Receives ∷ seen_calls (copies_of lines turn) seen (lines_done lines turn (begun hub))

-- all its calls: its text is given at its end
abbrev pub told_calls : List HubLine → (turn : ℕ) → Seen → Hub → List Call
told_calls lines turn seen hub = turn_calls lines turn seen hub ++ Gives (turn_done lines turn seen hub).text ∷ []

-- a run: the turn that comes next, the hub, and the calls so far
pub record Run : Type 0 where
  pub turn : ℕ
  pub hub : Hub
  pub calls : List Call

abbrev pub fresh : Hub
fresh = record { ports = []; next = 0; text = [] }

abbrev pub started : (port : ℕ) → Run
started port = record { turn = 1; hub = fresh; calls = Listens port ∷ [] }

abbrev pub turned : List HubLine → Run → Seen → Run
turned lines run seen = record {
  turn = run.turn + 1;
  hub = turn_done lines run.turn seen run.hub;
  calls = run.calls ++ told_calls lines run.turn seen run.hub;
}

-- the run of a configuration that received these
unfoldable pub run_of : Content → List Seen → Run
run_of content seen = fold (turned content.lines) (started content.port) seen
