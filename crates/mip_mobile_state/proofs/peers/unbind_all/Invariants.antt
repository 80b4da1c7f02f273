use Rattle.std.proofs.Common.{◌≡◌, ◌++◌, take, drop}
use Rattle.std.specs.Prelude.{map}
use Rattle.mip_rules_mobile.specs.RowQuestions.{unbound}
use Rattle.mip_mobile_state.proofs.peers.unbind_all.Given as goal

abbrev pub invariant-loop-peer : goal.invariant-loop-peer
invariant-loop-peer l = l.peer-items ≡ map unbound (take l.peer-index l.fn.peers) ++ drop l.peer-index l.fn.peers
