use Rattle.std.proofs.Common.{◌≡◌, ◌++◌, drop, map}
use Rattle.mip_afresh_mobile_state.specs.Trials.{row_seen}
use Rattle.mip_past_led.proofs.lists.peers_in.Given as goal

abbrev pub invariant-loop-row : goal.invariant-loop-row
invariant-loop-row l = l.peers.items ++ map (λ r. r.peer) (map row_seen (drop l.row-index l.rows)) ≡ map (λ r. r.peer) (map row_seen l.rows)
