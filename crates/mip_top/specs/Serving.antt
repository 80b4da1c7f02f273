-- What the run of a node or of a hub leaves of what is outside of the program.
use Rattle.std.specs.Prelude.{◌≡◌, ℕ, ◌⊎◌, List, drop, Some, option_map}
use Rattle.std.specs.declared.option.Option.{Option}
use Rattle.mip_frames.specs.Calling.{EndsRun}
use Rattle.mip_frames.specs.declared.served.Served.{Served}
use Rattle.mip_frames.specs.declared.served.Served.TheVariants.{Done, LinkFault, WriteFault, Memory}
use Rattle.mip_config.specs.Configs as nodes
use Rattle.mip_node.specs.Faults.{LinkFailed, WroteAfter, StoppedAfter}
use Rattle.mip_node.specs.Nodes.{Datagrams}
use Rattle.mip_node.specs.Runs as node
use Rattle.mip_node.specs.Seen.{Ahead, Coming}
use Rattle.mip_outside.specs.declared.link_call.LinkCall.{LinkCall}
use Rattle.mip_hub.specs.Calls.{link_state}
use Rattle.mip_hub.specs.Reading as hubs
use Rattle.mip_hub.specs.Served as hub
use Rattle.mip_hub.specs.Turns.{Seen}

-- what a sink holds, the answers of a clock that are to come, and of a link what is to come, what it sent and where it listens,
-- each where it tells that; and the link's calls
pub record Outside : Type 0 where
  pub held : Option (List ℕ)
  pub ahead : Ahead
  pub coming : Coming
  pub sent : Datagrams
  pub port : Option (Option ℕ)
  pub calls : List LinkCall

abbrev pub outside : Option (List ℕ) → Ahead → Coming → Datagrams → Option (Option ℕ) → List LinkCall → Outside
outside held ahead coming sent port calls = record { held = held; ahead = ahead; coming = coming; sent = sent; port = port; calls = calls }

abbrev pub start_of : nodes.Content → Outside → node.Start
start_of c o = node.start c o.ahead o.coming o.sent o.held

abbrev pub end_of : Outside → node.Outside
end_of o = node.outside o.ahead o.coming o.sent o.held

-- a node was run by its configuration, for so many turns
pub record NodeServed (c : nodes.Content) (turns given : ℕ) (old new : Outside) : Type 0 where
  pub statuses : (given ≡ 0) ⊎ ((given ≡ 4) ⊎ ((given ≡ 5) ⊎ (given ≡ 7)))
  -- after status 0 as many turns were done: what was taken, sent and written is the node's run
  pub done : given ≡ 0 → node.Ran (start_of c old) turns (end_of new)
  pub port : given ≡ 0 → new.port ≡ option_map (λ _. Some c.port) old.port
  -- after a fault of the link the text of the whole turns before stands, and a front of the datagrams of the next one was sent
  pub link_fault : given ≡ 7 → LinkFailed (start_of c old) turns (end_of new)
  -- after a fault of the sink all datagrams of the next turn were sent, and a front of its text stands
  pub write_fault : given ≡ 4 → WroteAfter (start_of c old) turns (end_of new)
  -- where memory ran out nothing was done, or the turn that it cut stands as one of these two
  pub memory : given ≡ 5 → StoppedAfter (start_of c old) turns (end_of new)
  -- whatever comes, a front of the text of so many turns at most was written
  pub front : node.WroteFront (start_of c old) turns new.held
  -- the link was asked to listen first and once, and nothing behind a call that failed
  pub calls : EndsRun (given ≡ 0) (given ≡ 4) (given ≡ 7) (given ≡ 5) old.calls new.calls

-- the status that the run of a hub comes to
abbrev pub status_of : Served → ℕ
status_of Done = 0
status_of LinkFault = 7
status_of WriteFault = 4
status_of Memory = 5

-- a hub was run by its configuration, for so many turns
pub record HubServed (c : hubs.Content) (turns given : ℕ) (old new : Outside) : Type 0 where
  pub end : Served
  pub is : given ≡ status_of end
  -- what was asked of the link, sent and written is the fold of its turns over what came; after a fault, all of that in front of one call, and no call behind it
  pub seen : List Seen
  pub saw : hub.Saw old.coming seen
  pub ran : hub.Ran c turns seen end (hub.outside (link_state old.sent old.calls) old.held) (hub.outside (link_state new.sent new.calls) new.held)
  pub coming : given ≡ 0 → new.coming ≡ option_map (drop turns) old.coming
  pub port : given ≡ 0 → new.port ≡ option_map (λ _. Some c.port) old.port

-- no node or hub was run: clock and link tell what they told before
pub record IsIdle (old new : Outside) : Type 0 where
  pub unread : new.ahead ≡ old.ahead
  pub untaken : new.coming ≡ old.coming
  pub unsent : new.sent ≡ old.sent
  pub unmoved : new.port ≡ old.port
  pub uncalled : new.calls ≡ old.calls

-- the input could not be read, or memory ran out before a run: nothing was written either
pub record IsStopped (given : ℕ) (old new : Outside) : Type 0 where
  pub fault : (given ≡ 3) ⊎ (given ≡ 5)
  pub unwritten : new.held ≡ old.held
  pub idle : IsIdle old new
