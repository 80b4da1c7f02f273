-- What a run of a node over a link did.
use Rattle.std.specs.Prelude.{◌≡◌, ℕ, ◌≤◌, List, take, length, Option, None}
use Rattle.std.specs.Io.KnownBytes.{append_known}
use Rattle.mip_config.specs.Configs.{Content}
use Rattle.mip_node.specs.Nodes.{Running, Datagrams}
use Rattle.mip_node.specs.Seen.{Ahead, Coming, Sees, ahead_after, coming_after}
use Rattle.mip_node.specs.Turns.{Seen, run}

-- a run: its configuration, what its clock and its link tell at first, what the link had sent, and what the sink held
pub record Start : Type 0 where
  pub content : Content
  pub ahead : Ahead
  pub coming : Coming
  pub sent : Datagrams
  pub held : Option (List ℕ)

-- where it stands: what is to come of clock and link, the node, what the link sent, and what the sink holds
pub record Stand : Type 0 where
  pub ahead : Ahead
  pub coming : Coming
  pub node : Running
  pub sent : Datagrams
  pub held : Option (List ℕ)

-- what is outside of a node: what is to come of its clock and its link, what the link sent, and what the sink holds
pub record Outside : Type 0 where
  pub ahead : Ahead
  pub coming : Coming
  pub sent : Datagrams
  pub held : Option (List ℕ)

abbrev pub start : Content → Ahead → Coming → Datagrams → Option (List ℕ) → Start
start content ahead coming sent held = record { content = content; ahead = ahead; coming = coming; sent = sent; held = held }

abbrev pub outside : Ahead → Coming → Datagrams → Option (List ℕ) → Outside
outside ahead coming sent held = record { ahead = ahead; coming = coming; sent = sent; held = held }

-- after so many turns it stands here
pub record HasRun (first : Start) (turns : ℕ) (at : Stand) : Type 0 where
  pub seen : List Seen
  pub sees : Sees first.ahead first.coming seen
  pub number : (run first.content seen first.sent).turns ≡ turns
  pub ahead : at.ahead ≡ ahead_after seen first.ahead
  pub coming : at.coming ≡ coming_after seen first.coming
  pub node : at.node ≡ (run first.content seen first.sent).serving.node
  pub sent : at.sent ≡ (run first.content seen first.sent).serving.sent
  pub held : at.held ≡ append_known first.held (run first.content seen first.sent).text

-- the text of turns that find this
unfoldable pub node_text : Content → List Seen → List ℕ
node_text c seen = (run c seen None).text

-- what a link has sent after them, where it had sent so much before
unfoldable pub node_sent : Content → List Seen → Datagrams → Datagrams
node_sent c seen sent = (run c seen sent).serving.sent

-- as many turns were done: the clock was read and the link was listened to once in each, and their datagrams and their text are what was sent and written
pub record Ran (first : Start) (turns : ℕ) (last : Outside) : Type 0 where
  pub seen : List Seen
  pub sees : Sees first.ahead first.coming seen
  pub many : length seen ≡ turns
  pub ahead : last.ahead ≡ ahead_after seen first.ahead
  pub coming : last.coming ≡ coming_after seen first.coming
  pub sent : last.sent ≡ node_sent first.content seen first.sent
  pub held : last.held ≡ append_known first.held (node_text first.content seen)

-- a front of the text of so many turns at most was written
pub record WroteFront (first : Start) (turns : ℕ) (held_now : Option (List ℕ)) : Type 0 where
  pub seen : List Seen
  pub sees : Sees first.ahead first.coming seen
  pub most : length seen ≤ turns
  pub count : ℕ
  pub held : held_now ≡ append_known first.held (take count (node_text first.content seen))
