-- Invariants of a node's calls of its link: only proofs and private calls stand on them.
use Rattle.std.specs.Prelude.{◌⊎◌, List}
use Rattle.mip_outside.specs.LinkCalls.{Granted, Refused}
use Rattle.mip_outside.specs.declared.link_call.LinkCall.{LinkCall}
use Rattle.mip_outside.specs.declared.put_fault.PutFault.TheVariants.{Failed, Memory}

-- turns, which never listen on a port: each call was granted, where the text could not be written too; where the link failed the last
-- one failed; and where memory ran out each was granted, or memory ran out in the last one
pub record EndsTurns (done write_failed link_failed memory : Type 0) (before after : List LinkCall) : Type 0 where
  pub whole : done → Granted before after
  pub unwritten : write_failed → Granted before after
  pub cut : link_failed → Refused Failed before after
  pub lost : memory → Granted before after ⊎ Refused Memory before after
