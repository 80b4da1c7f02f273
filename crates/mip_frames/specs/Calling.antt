-- The calls of a link in the run of a node: none follows one that failed.
use Rattle.std.specs.Prelude.{◌≡◌, ◌⊎◌, List, [], ◌∷◌, ◌++◌, Some, None}
use Rattle.mip_outside.specs.LinkCalls.{called, Granted, Refused}
use Rattle.mip_outside.specs.declared.asked.Asked.TheVariants.{Listen}
use Rattle.mip_outside.specs.declared.link_call.LinkCall.{LinkCall}
use Rattle.mip_outside.specs.declared.put_fault.PutFault.TheVariants.{Failed, Memory}

-- a port was listened on
abbrev pub listening : List LinkCall → List LinkCall
listening before = before ++ called Listen None ∷ []

-- a run: first it listens on its port, once, then come the calls of its turns; none follows one that failed
pub record EndsRun (done write_failed link_failed memory : Type 0) (before after : List LinkCall) : Type 0 where
  pub whole : done → Granted (listening before) after
  pub unwritten : write_failed → Granted (listening before) after
  pub cut : link_failed → (after ≡ before ++ called Listen (Some Failed) ∷ []) ⊎ Refused Failed (listening before) after
  pub lost : memory → (after ≡ before) ⊎ (Granted (listening before) after ⊎ Refused Memory (listening before) after)
