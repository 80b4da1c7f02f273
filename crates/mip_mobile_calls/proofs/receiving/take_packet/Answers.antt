use Rattle.std.proofs.Common.{ℕ, sym, ap, ◌∙◌, subst, OnOk}
use Rattle.std.specs.Prelude.{Option, Result, option_map}
use Rattle.mip_ipv6.specs.Packet.{packet as tree}
use Rattle.mip_mobhdr.specs.Said.{Said, said}
use Rattle.mip_reception.specs.declared.refusal.Refusal.{Refusal}
use Rattle.mip_reception.specs.declared.address_match.AddressMatch.{AddressMatch}
use Rattle.mip_reception.specs.Checks.{checked}
use Rattle.mip_rules_correspondent.specs.Rules.{place_in}
use Rattle.mip_rules_mobile.proofs.Checks.{checked-in}
use Rattle.mip_rules_mobile.specs.ReceivingRules.{after_checks}
use Rattle.mip_mobile_registration.specs.Seen.{Shows}
use Rattle.mip_mobile_calls.proofs.receiving.take_packet.Goals as goal

pub invariant_of-checked-clause-read : goal.invariant_of-checked-clause-read
invariant_of-checked-clause-read c =
    checked-in c.standing_of.result c.args.arrived.now.packet.place (tree c.args.arrived.now.packet) (option_map said c.in-Ok.message) c.in-Ok.ensures.exact

pub returns-in-Err : goal.returns-in-Err
returns-in-Err c = λ t shows.
    let h = c.args.arrival.now in
    let p = tree c.args.arrived.now.packet in
    let bytes = c.args.arrived.now.bytes.now in
    subst (λ (r : Result (Option Said) Refusal). OnOk c.refuse.result (Shows c.refuse.new.context (after_checks h.number h.shield bytes p r t)))
    (sym c.in-Err.ensures.exact ∙ ap (λ (n : ℕ). checked c.standing_of.result n p) c.args.arrived.now.placed ∙ ap (λ (s : AddressMatch). checked s (place_in bytes p) p) c.standing_of.ensures)
    (c.refuse.ensures t shows)

pub returns-in-Ok : goal.returns-in-Ok
returns-in-Ok c = λ t shows.
    let h = c.args.arrival.now in
    let p = tree c.args.arrived.now.packet in
    let bytes = c.args.arrived.now.bytes.now in
    subst (λ (r : Result (Option Said) Refusal). OnOk c.take_passed.result (Shows c.take_passed.new.context (after_checks h.number h.shield bytes p r t)))
    (sym c.in-Ok.ensures.exact ∙ ap (λ (n : ℕ). checked c.standing_of.result n p) c.args.arrived.now.placed ∙ ap (λ (s : AddressMatch). checked s (place_in bytes p) p) c.standing_of.ensures)
    (c.take_passed.ensures bytes t shows)
