-- Links whose calls fail: one in memory at chosen calls, and one that tells no datagrams.
use Rattle.std.specs.Prelude.{ℕ, List}
use Rattle.mip_outside.specs.Datagrams.{Traffic}
use Rattle.mip_outside.specs.declared.link_call.LinkCall.{LinkCall}

-- the calls of one kind: how many were made, and the numbers, from 1, of those that are to fail
pub record Turns : Type 0 where
  pub made : ℕ
  pub fails : List ℕ

-- what a link in memory stands for
pub record FailingLink : Type 0 where
  pub traffic : Traffic
  pub faults : ℕ
  pub listens : Turns
  pub sends : Turns
  pub receives : Turns

-- what a link that tells no datagrams stands for
pub record Untold : Type 0 where
  pub faults : ℕ
  pub calls : List LinkCall
