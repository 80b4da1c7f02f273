use Rattle.std.proofs.Common.{◌∙◌}
use Rattle.mip_mobhdr.specs.Said.{said_plain}
use Rattle.mip_mobhdr.proofs.Drafts.{message_is, spelled_is, read_back_is}
use Rattle.mip_mobhdr.proofs.writing.spell_message.Goals as goal

pub returns-clause-ok : goal.returns-clause-ok
returns-clause-ok c =
    c.put_sum.ensures ∙ message_is c.args.source c.args.destination (said_plain c.args.message.now) c.draft_of-bytes.result c.draft_of-bytes.ensures.draft

pub returns-clause-spelled : goal.returns-clause-spelled
returns-clause-spelled c =
    let here = message_is c.args.source c.args.destination (said_plain c.args.message.now) c.draft_of-bytes.result c.draft_of-bytes.ensures.draft in
    spelled_is c.args.source c.args.destination (said_plain c.args.message.now) c.put_sum.new.message c.draft_of-bytes.ensures.fits c.draft_of-bytes.ensures.options (c.put_sum.ensures ∙ here)

pub returns-clause-read_back : goal.returns-clause-read_back
returns-clause-read_back c =
    let here = message_is c.args.source c.args.destination (said_plain c.args.message.now) c.draft_of-bytes.result c.draft_of-bytes.ensures.draft in
    read_back_is c.args.source c.args.destination (said_plain c.args.message.now) c.put_sum.new.message c.draft_of-bytes.ensures.fits c.draft_of-bytes.ensures.options (c.put_sum.ensures ∙ here)
