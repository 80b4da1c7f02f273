-- Laws and invariants of Runs: only proofs stand on them.
use Rattle.std.specs.Prelude.{◌≡◌, ℕ, List, drop, Option, None, option_map}
use Rattle.std.specs.Io.KnownBytes.{append_known}
use Rattle.mip_outside.specs.Moments.{moments_after}
use Rattle.mip_trace.specs.Lines.{trace_text}
use Rattle.mip_config.specs.Configs.{Content}
use Rattle.mip_node.specs.Nodes.{Running, Datagrams, serving}
use Rattle.mip_node.specs.Seen.{Ahead, Coming, IsSeen}
use Rattle.mip_node.specs.Turns.{Seen, turned}
use Rattle.mip_node.specs.Runs.{Stand}

abbrev pub stand : Ahead → Coming → Running → Datagrams → Option (List ℕ) → Stand
stand ahead coming node sent held = record { ahead = ahead; coming = coming; node = node; sent = sent; held = held }

-- a turn, by its number, was done, and its text was written
pub record TurnDone (c : Content) (number : ℕ) (old new : Stand) : Type 0 where
  pub seen : Seen
  pub is : IsSeen old.ahead old.coming seen
  pub serving : serving new.node new.sent ≡ turned c number seen (serving old.node old.sent)
  pub ahead : new.ahead ≡ option_map moments_after old.ahead
  pub coming : new.coming ≡ option_map (drop 1) old.coming
  pub held : new.held ≡ append_known old.held (trace_text None new.node.entries)
