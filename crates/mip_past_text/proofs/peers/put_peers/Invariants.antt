use Rattle.std.proofs.Common.{◌≡◌, ◌++◌, drop}
use Rattle.mip_past_text.specs.Led.{peers_lines}
use Rattle.mip_past_text.proofs.peers.put_peers.Given as goal

abbrev pub invariant-loop-peer : goal.invariant-loop-peer
invariant-loop-peer l = l.out ++ peers_lines l.node l.mobile.list.rows (drop l.peer-index l.peers) ≡ l.fn.out ++ peers_lines l.node l.mobile.list.rows l.peers
