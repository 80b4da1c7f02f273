use Rattle.std.proofs.Common.{sym, ◌∙◌}
use Rattle.mip_mobhdr.specs.Said.{said}
use Rattle.mip_afresh_rules.proofs.Asked.{asked_passed, home_asked}
use Rattle.mip_afresh_rules.proofs.part.answer_message.Goals as goal

-- the update is read from the body of the packet
pub invariant_of-update : goal.invariant_of-update
invariant_of-update c =
    let passed = c.args.passed.now in
    let head = passed.packet.head in
    let r = c.in-Some-asked_by.registration in
    let is = sym c.in-Some-asked_by.is ∙ c.asked_by.ensures in
    record {
      plain = home_asked head.source head.home (said c.in-Some.other) r is passed.plain;
      read = asked_passed head.source head.home passed.message c.in-Some.other passed.packet.body.now r c.in-Some.is passed.read is;
    }
