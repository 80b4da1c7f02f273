-- What the laws of a turn speak of: its steps in their order, and what a datagram leaves.
use Rattle.std.specs.Prelude.{◌≡◌, ◌≢◌, ℕ, true, false, List, [], ◌∷◌, ◌++◌, Option, Some, None}
use Rattle.mip_words.specs.declared.why.Why.TheVariants.{Frame}
use Rattle.mip_entries.specs.declared.entry.Entry.{Entry}
use Rattle.mip_entries.specs.declared.entry.Entry.TheVariants.{Handed, Dropped}
use Rattle.mip_frames.specs.Framing.{Framed}
use Rattle.mip_history.specs.Calls.{Tick, Send}
use Rattle.mip_config.specs.declared.payload.Payload.{Payload}
use Rattle.mip_config.specs.Configs.{Content}
use Rattle.mip_node.specs.Roles.{has_due}
use Rattle.mip_node.specs.Nodes.{Serving, serving, begun, asked_at}

-- work is done where some is due by now, and only there
pub record DoesDue (c : Content) (now : ℕ) (first last : Serving) : Type 0 where
  pub due : has_due first.node.role now ≡ true → last ≡ asked_at c now Tick first
  pub idle : has_due first.node.role now ≡ false → last ≡ first

-- a payload is sent in its turn, and in no other
pub record Pays (c : Content) (turn now : ℕ) (p : Payload) (first last : Serving) : Type 0 where
  pub its : p.turn ≡ turn → last ≡ asked_at c now (Send p.to p.proto p.payload) first
  pub other : p.turn ≢ turn → last ≡ first

-- and so is each of them, in their order
unfoldable pub PaysAll : Content → (turn now : ℕ) → List Payload → (first last : Serving) → Type 0
PaysAll c turn now [] first last = last ≡ first
PaysAll c turn now (p ∷ ps) first last = (mid : Serving) × (Pays c turn now p first mid × PaysAll c turn now ps mid last)

-- a turn until it listens: it begins at its moment, then comes due work, then come its payloads
pub record ActsFirst (c : Content) (turn now : ℕ) (first last : Serving) : Type 0 where
  pub worked : Serving
  pub works : DoesDue c now (serving (begun now first.node) first.sent) worked
  pub pays : PaysAll c turn now c.payloads worked last

-- what a datagram leaves that a node hears, as the next of its packets: it is handed over where it is a frame for the node, and
-- else dropped as no frame
abbrev pub Leaves : Content → (number : ℕ) → Option Framed → (before after : List Entry) → Type 0
Leaves c number None before after = after ≡ before ++ Dropped c.node number Frame ∷ []
Leaves c number (Some frame) before after = (more : List Entry) × (after ≡ before ++ Handed number c.node ∷ more)
