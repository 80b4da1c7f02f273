use Rattle.std.proofs.Common.{subst, OnOk}
use Rattle.std.specs.Prelude.{Bool, Option}
use Rattle.mip_words.specs.declared.address.Address.{Address}
use Rattle.mip_mobile_calls.proofs.Contexts.{transition_at, from-context}
use Rattle.mip_mobile_registration.specs.Seen.{Shows}
use Rattle.mip_rules_mobile.specs.RowQuestions.{peer_of_row}
use Rattle.mip_rules_mobile.specs.MovingRules.{unbinds_with, unbinds}
use Rattle.mip_mobile_calls.proofs.moving.unbind.Goals as goal

pub returns : goal.returns
returns c =
    let d = c.args.context.now in
    let row = c.args.row in
    from-context d (λ t. OnOk c.unbind_with.result (Shows c.unbind_with.new.context (unbinds row t)))
    (λ steps shows. subst (λ (b : Bool). OnOk c.unbind_with.result (Shows c.unbind_with.new.context (unbinds_with b (peer_of_row d.known row) row (transition_at d steps)))) c.is_bound_row-bound.ensures
    (subst (λ (p : Option Address). OnOk c.unbind_with.result (Shows c.unbind_with.new.context (unbinds_with c.is_bound_row-bound.result p row (transition_at d steps)))) c.peer_of_row-peer.ensures.peer
    (c.unbind_with.ensures (transition_at d steps) shows)))
