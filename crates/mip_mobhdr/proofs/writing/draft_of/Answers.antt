use Rattle.std.proofs.Common.{◌∙◌}
use Rattle.mip_mobhdr.specs.Said.{said_plain}
use Rattle.mip_mobhdr.proofs.Drafts.{draft_is, options_written}
use Rattle.mip_mobhdr.proofs.writing.draft_of.Goals as goal

pub returns-clause-draft : goal.returns-clause-draft
returns-clause-draft c =
    c.put_size.ensures ∙ draft_is (said_plain c.args.message.now) _ c.write_options.new.out _ c.front_of-out.ensures.front c.options_of.ensures c.write_options.ensures.ok

pub returns-clause-options : goal.returns-clause-options
returns-clause-options c =
    options_written (said_plain c.args.message.now) _ c.write_options.new.out _ c.front_of-out.ensures.front c.options_of.ensures c.write_options.ensures.ok c.write_options.ensures.spelled
