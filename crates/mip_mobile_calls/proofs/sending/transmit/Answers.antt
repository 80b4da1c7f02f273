use Rattle.std.proofs.Common.{ℕ, subst, OnOk}
use Rattle.std.specs.Prelude.{Option}
use Rattle.mip_rules_mobile.specs.declared.attachment.Attachment.{Attachment}
use Rattle.mip_mobile_calls.proofs.Contexts.{transition_at, from-context}
use Rattle.mip_mobile_registration.specs.Seen.{Shows}
use Rattle.mip_rules_mobile.specs.RowQuestions.{bound_row_of}
use Rattle.mip_rules_mobile.specs.Doing.{transmits_from, transmits}
use Rattle.mip_mobile_calls.proofs.sending.transmit.Goals as goal

pub returns : goal.returns
unfolding transmits
returns c =
    let d = c.args.context.now in
    let to = c.args.to in
    let proto = c.args.data.now.proto in
    let payload = c.args.data.now.payload.now in
    from-context d (λ t. OnOk c.transmit_from.result (Shows c.transmit_from.new.context (transmits to proto payload t)))
    (λ steps shows. subst (λ (s : Attachment). OnOk c.transmit_from.result (Shows c.transmit_from.new.context (transmits_from s (bound_row_of d.known d.moment to) to proto payload (transition_at d steps)))) c.standing-standing.ensures
    (subst (λ (o : Option ℕ). OnOk c.transmit_from.result (Shows c.transmit_from.new.context (transmits_from c.standing-standing.result o to proto payload (transition_at d steps)))) c.bound_row_of-row.ensures.row
    (c.transmit_from.ensures (transition_at d steps) shows)))
