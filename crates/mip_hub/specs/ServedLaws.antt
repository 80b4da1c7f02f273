-- Laws and invariants of Served: only proofs stand on them.
use Rattle.std.specs.Prelude.{◌≡◌, List, Result, Ok, Err}
use Rattle.mip_frames.specs.declared.served.Served.{Served}
use Rattle.mip_hub.specs.Calls.{Call}
use Rattle.mip_hub.specs.Served.{Outside, IsCut, after_all}

-- one turn
abbrev pub Tells : {U : Type 0} → List Call → Result U Served → Outside → Outside → Type 0
Tells calls (Ok u) before after = after ≡ after_all calls before
Tells calls (Err end) before after = IsCut end calls before after
