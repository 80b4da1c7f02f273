use Rattle.std.proofs.Common.{subst, OnOk}
use Rattle.std.specs.Prelude.{Option}
use Rattle.mip_words.specs.declared.address.Address.{Address}
use Rattle.mip_mobile_calls.proofs.Contexts.{transition_at, from-context}
use Rattle.mip_mobile_registration.specs.Seen.{Shows}
use Rattle.mip_rules_mobile.specs.RingingRules.{ends_at, ends_row}
use Rattle.mip_mobile_calls.proofs.ringing.end_row.Goals as goal

pub returns : goal.returns
unfolding ends_row
returns c =
    let d = c.args.context.now in
    let row = c.args.row in
    from-context d (λ t. OnOk c.end_at.result (Shows c.end_at.new.context (ends_row row t)))
    (λ steps shows. subst (λ (p : Option Address). OnOk c.end_at.result (Shows c.end_at.new.context (ends_at p row (transition_at d steps)))) c.peer_of_row-peer.ensures.peer (c.end_at.ensures (transition_at d steps) shows))
