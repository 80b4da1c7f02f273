-- The run of a node over a link: turn by turn.
use Rattle.std.specs.Prelude.{ℕ, ◌+◌, List, [], ◌++◌, fold, ◌==◌, if◌then◌else◌, Option, Some, None}
use Rattle.mip_words.specs.declared.why.Why.TheVariants.{Frame}
use Rattle.mip_entries.specs.declared.entry.Entry.{Entry}
use Rattle.mip_entries.specs.declared.entry.Entry.TheVariants.{Handed, Dropped, Advertised}
use Rattle.mip_frames.specs.Framing.{Framed, framed_in}
use Rattle.mip_history.specs.Calls.{Tick, Take, Send, Attach}
use Rattle.mip_trace.specs.Lines.{trace_text}
use Rattle.mip_config.specs.declared.payload.Payload.{Payload}
use Rattle.mip_config.specs.Configs.{Content}
use Rattle.mip_config.specs.Facts.{address_of}
use Rattle.mip_node.specs.Roles.{has_due, is_mobile, first_role}
use Rattle.mip_node.specs.Nodes.{Running, Serving, Datagrams, serving, noted, counted, begun, asked_at}
use Rattle.mip_node.specs.Adverts.{prefix_of_frame}

-- due work is done
unfoldable pub worked : Content → ℕ → Serving → Serving
worked c now s = if has_due s.node.role now then asked_at c now Tick s else s

-- a payload of this turn is sent
unfoldable pub paid_one : Content → (turn now : ℕ) → Serving → Payload → Serving
paid_one c turn now s p = if p.turn == turn then asked_at c now (Send p.to p.proto p.payload) s else s

-- those of them, in order
unfoldable pub paid : Content → (turn now : ℕ) → List Payload → Serving → Serving
paid c turn now ps s = fold (paid_one c turn now) s ps

-- what the node does before it listens: the turn begins, due work, payloads
unfoldable pub before : Content → (turn now : ℕ) → Serving → Serving
before c turn now s = paid c turn now c.payloads (worked c now (serving (begun now s.node) s.sent))

abbrev pub noting : Entry → Serving → Serving
noting entry s = serving (noted entry s.node) s.sent

-- a mobile is told of a router on the link
abbrev pub told_of_router : Content → ℕ → (prefix : ℕ) → Serving → Serving
told_of_router c now prefix s = asked_at c now (Attach prefix) (noting (Advertised c.node (record { 0 = 0 }) None) s)

-- a packet is for its role, unless it advertises a prefix to a mobile
abbrev pub given : Content → (now number : ℕ) → Framed → Option ℕ → Serving → Serving
given c now number frame None s = asked_at c now (Take number frame.shield frame.packet) s
given c now number frame (Some prefix) s = told_of_router c now prefix s

abbrev pub advertised_to : Content → Framed → Option ℕ
advertised_to c frame = if is_mobile c.role then prefix_of_frame frame else None

unfoldable pub taken : Content → (now number : ℕ) → Framed → Serving → Serving
taken c now number frame s = given c now number frame (advertised_to c frame) (noting (Handed number c.node) s)

abbrev pub handed : Content → (now number : ℕ) → Option Framed → Serving → Serving
handed c now number None s = noting (Dropped c.node number Frame) s
handed c now number (Some frame) s = taken c now number frame s

-- a datagram came: it takes a number, and what is a frame for the node is handed to it
unfoldable pub heard : Content → ℕ → List ℕ → Serving → Serving
heard c now datagram s = handed c now s.node.next (framed_in (address_of c.role) datagram) (serving (counted s.node) s.sent)

-- a datagram came, or none
unfoldable pub received : Content → ℕ → Option (List ℕ) → Serving → Serving
received c now None s = s
received c now (Some datagram) s = heard c now datagram s

-- what a turn finds: the moment, and the datagram that came, or none
abbrev pub Seen : Type 0
Seen = ℕ × Option (List ℕ)

-- a turn, by its number
unfoldable pub turned : Content → ℕ → Seen → Serving → Serving
turned c turn seen s = received c seen.0 seen.1 (before c turn seen.0 s)

-- how many turns were done, the node and what its link sent, and the text so far
pub record World : Type 0 where
  pub turns : ℕ
  pub serving : Serving
  pub text : List ℕ

-- one more turn: its text comes last
unfoldable pub turned_once : Content → World → Seen → World
turned_once c w seen = let s = turned c (w.turns + 1) seen w.serving in record {
  turns = w.turns + 1;
  serving = s;
  text = w.text ++ trace_text None s.node.entries;
}

-- a configured node before its first turn
unfoldable pub first_node : Content → Running
first_node c = record { role = first_role c; next = 0; last = None; entries = [] }

abbrev pub first_world : Content → Datagrams → World
first_world c sent = record { turns = 0; serving = serving (first_node c) sent; text = [] }

-- the turns that find this, where the link had sent so much before
unfoldable pub run : Content → List Seen → Datagrams → World
run c seen sent = fold (turned_once c) (first_world c sent) seen
