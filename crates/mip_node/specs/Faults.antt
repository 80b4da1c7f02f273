-- What was sent and written where a call of the link or of the sink failed, or memory ran out.
use Rattle.std.specs.Prelude.{◌≡◌, ℕ, ◌+◌, ◌<◌, ◌≤◌, ◌⊎◌, List, ◌++◌, drop, take, None, IfSome, option_map}
use Rattle.std.specs.Io.KnownBytes.{append_known}
use Rattle.mip_outside.specs.Cause.{Rose}
use Rattle.mip_outside.specs.Moments.{IsAnswer, moments_after}
use Rattle.mip_trace.specs.Lines.{trace_text}
use Rattle.mip_config.specs.Configs.{Content}
use Rattle.mip_node.specs.Nodes.{Datagrams, Serving, serving}
use Rattle.mip_node.specs.Seen.{Ahead, Coming, IsSeen}
use Rattle.mip_node.specs.Turns.{Seen, before, turned}
use Rattle.mip_node.specs.Runs.{Start, Stand, Outside, HasRun}

-- the faults that a link or a sink counts do not fall, and they rise where a call of it failed
pub record CountsFaults (failed : Type 0) (before after : ℕ) : Type 0 where
  pub no_fewer : before ≤ after
  pub cause : failed → Rose before after

-- those of a link and of a sink, each where a call of it failed
pub record CountsBoth (link_failed write_failed : Type 0) (link_before link_after sink_before sink_after : ℕ) : Type 0 where
  pub no_fewer : (link_before ≤ link_after) × (sink_before ≤ sink_after)
  pub link_cause : link_failed → Rose link_before link_after
  pub write_cause : write_failed → Rose sink_before sink_after

-- more was sent since
pub record Grew (first last : Datagrams) : Type 0 where
  pub more : List (ℕ × List ℕ)
  pub is : last ≡ option_map (λ items. items ++ more) first

-- so much was sent of what comes to the first on the way to the last
pub record Between (first now last : Datagrams) : Type 0 where
  pub since : Grew first now
  pub until : Grew now last

-- a turn was cut before a datagram came: at the call of `receive`, or at a packet of due work or of a payload
pub record BrokeEarly (c : Content) (turn : ℕ) (ahead : Ahead) (coming : Coming) (s : Serving) (left_now : Coming) (sent_now : Datagrams) : Type 0 where
  pub now : ℕ
  pub is : IfSome ahead (λ moments. IsAnswer moments now)
  pub left : left_now ≡ coming
  pub sent : Between s.sent sent_now (before c turn now s).sent

-- or after one came: at a packet in answer to that, if not before the first
pub record BrokeLate (c : Content) (turn : ℕ) (ahead : Ahead) (coming : Coming) (s : Serving) (left_now : Coming) (sent_now : Datagrams) : Type 0 where
  pub seen : Seen
  pub is : IsSeen ahead coming seen
  pub left : left_now ≡ option_map (drop 1) coming
  pub sent : Between (before c turn seen.0 s).sent sent_now (turned c turn seen s).sent

-- a call of the link failed in this turn, or memory ran out
abbrev pub Broke : Content → (turn : ℕ) → Ahead → Coming → Serving → (left : Coming) → (sent : Datagrams) → Type 0
Broke c turn ahead coming s left sent = BrokeEarly c turn ahead coming s left sent ⊎ BrokeLate c turn ahead coming s left sent

-- this turn was over, and all its datagrams were sent, but only so much of its text was written
pub record WrotePart (c : Content) (turn : ℕ) (at : Stand) (last : Outside) : Type 0 where
  pub seen : Seen
  pub is : IsSeen at.ahead at.coming seen
  pub ahead : last.ahead ≡ option_map moments_after at.ahead
  pub coming : last.coming ≡ option_map (drop 1) at.coming
  pub sent : last.sent ≡ (turned c turn seen (serving at.node at.sent)).sent
  pub count : ℕ
  pub held : last.held ≡ append_known at.held (take count (trace_text None (turned c turn seen (serving at.node at.sent)).node.entries))

-- this turn was cut, and nothing of its text was written
pub record BrokePart (c : Content) (turn : ℕ) (at : Stand) (last : Outside) : Type 0 where
  pub ahead : last.ahead ≡ option_map moments_after at.ahead
  pub broke : Broke c turn at.ahead at.coming (serving at.node at.sent) last.coming last.sent
  pub held : last.held ≡ at.held

-- the node could not listen on its port, or memory ran out before that, and it did nothing
pub record DidNothing (first : Start) (last : Outside) : Type 0 where
  pub unread : last.ahead ≡ first.ahead
  pub untaken : last.coming ≡ first.coming
  pub unsent : last.sent ≡ first.sent
  pub unwritten : last.held ≡ first.held

-- some turns were done, fewer than all, and the next one was cut by a fault of the link or for want of memory
pub record BrokeAfter (first : Start) (turns : ℕ) (last : Outside) : Type 0 where
  pub done : ℕ
  pub fewer : done < turns
  pub at : Stand
  pub ran : HasRun first done at
  pub part : BrokePart first.content (done + 1) at last

-- and in the next one the text was not written whole
pub record WroteAfter (first : Start) (turns : ℕ) (last : Outside) : Type 0 where
  pub done : ℕ
  pub fewer : done < turns
  pub at : Stand
  pub ran : HasRun first done at
  pub part : WrotePart first.content (done + 1) at last

-- the link failed: the node could not listen, or a turn was cut
abbrev pub LinkFailed : (first : Start) → (turns : ℕ) → (last : Outside) → Type 0
LinkFailed first turns last = DidNothing first last ⊎ BrokeAfter first turns last

abbrev pub CutAfter : (first : Start) → (turns : ℕ) → (last : Outside) → Type 0
CutAfter first turns last = BrokeAfter first turns last ⊎ WroteAfter first turns last

-- memory ran out: nothing was done, or a turn was cut
abbrev pub StoppedAfter : (first : Start) → (turns : ℕ) → (last : Outside) → Type 0
StoppedAfter first turns last = DidNothing first last ⊎ CutAfter first turns last
