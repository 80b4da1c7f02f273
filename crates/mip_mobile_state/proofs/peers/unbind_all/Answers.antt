use Rattle.std.proofs.Common.{◌≡◌, ℕ, zero, suc, List, [], ◌∷◌, refl, slice_index_or}
use Rattle.std.proofs.lemmas.List.Edits.{map_over_more}
use Rattle.mip_rules_mobile.specs.declared.peer.Peer.{Peer}
use Rattle.mip_rules_mobile.specs.RowQuestions.{unbound, fresh_peer}
use Rattle.mip_mobile_state.proofs.peers.unbind_all.Goals as goal

own-default : (peers : List Peer) (i : ℕ) (p : Peer) → slice_index_or peers i p ≡ slice_index_or peers i (slice_index_or peers i p)
own-default [] i p = refl
own-default (x ∷ peers) zero p = refl
own-default (x ∷ peers) (suc i) p = own-default peers i p

pub loop-peer-preserved : goal.loop-peer-preserved
loop-peer-preserved c =
    let peers : List Peer = c.loop-peer.peer-items in
    let i : ℕ = c.loop-peer.peer-index in
    map_over_more unbound c.args.peers.now peers i (slice_index_or peers i fresh_peer) c.loop-peer-test.true c.loop-peer.invariant (own-default peers i fresh_peer)
