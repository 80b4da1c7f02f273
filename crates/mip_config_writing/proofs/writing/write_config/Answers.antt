use Rattle.std.proofs.Common.{ap, ◌∙◌}
use Rattle.std.proofs.Math.Logic.{∥∥₁_elim}
use Rattle.mip_config.specs.Configs.{content}
use Rattle.mip_config.specs.Reading.{reading}
use Rattle.mip_config_writing.proofs.ReadSet.{read_set}
use Rattle.mip_config_writing.proofs.TextLaws.{spelling_again}
use Rattle.mip_config_writing.proofs.WritingLaws.{parts_text}
use Rattle.mip_config_writing.proofs.writing.write_config.Goals as goal

pub returns-clause-spelled : goal.returns-clause-spelled
returns-clause-spelled c =
    rw (c.in_ok-put_payloads.ensures, c.in_ok-put_homes.ensures, c.in_ok-put_role.ensures, c.in_ok-put_default.ensures, c.in_ok-put_routes.ensures, c.in_ok-put_head.ensures, c.new-out.ensures, c.as_slice.ensures, c.as_slice-2.ensures)
    (parts_text (content c.args.config.now))

pub returns-clause-back : goal.returns-clause-back
returns-clause-back c = ap reading (returns-clause-spelled c) ∙ ∥∥₁_elim c.args.config.now.read (read_set _ _) (λ read. spelling_again read.0 (content c.args.config.now) read.1)
