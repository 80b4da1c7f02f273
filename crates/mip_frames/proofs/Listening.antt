-- The first call of a run: it listens on its port.
use Rattle.std.proofs.Common.{◌≡◌, List, [], ◌∷◌, ◌++◌, true, false}
use Rattle.std.specs.Prelude.{Result, Ok, Err, Some}
use Rattle.std.specs.Result.{is_err}
use Rattle.mip_outside.specs.LinkCalls.{called, failure_of}
use Rattle.mip_outside.specs.declared.asked.Asked.TheVariants.{Listen}
use Rattle.mip_outside.specs.declared.link_call.LinkCall.{LinkCall}
use Rattle.mip_outside.specs.declared.put_fault.PutFault.TheVariants.{Failed}
use Rattle.mip_frames.specs.Calling.{listening}

pub listened : {U E : Type 0} (r : Result U E) (a b : List LinkCall) → is_err r ≡ false → b ≡ a ++ called Listen (failure_of r) ∷ [] → b ≡ listening a
listened (Ok u) a b granted e = e
listened (Err x) a b granted e = absurd cc

pub unheard : {U E : Type 0} (r : Result U E) (a b : List LinkCall) → is_err r ≡ true → b ≡ a ++ called Listen (failure_of r) ∷ [] → b ≡ a ++ called Listen (Some Failed) ∷ []
unheard (Ok u) a b refused e = absurd cc
unheard (Err x) a b refused e = e
