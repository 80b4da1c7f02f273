use Rattle.std.proofs.Common.{ap, ◌∙◌}
use Rattle.mip_history.specs.Questions.{holder_in}
use Rattle.mip_afresh.specs.Tellings.{TellingSeen}
use Rattle.mip_afresh.proofs.Told.{holder_told}
use Rattle.mip_afresh.proofs.telling.Telling.holder.Goals as goal

pub returns : goal.returns
returns c =
    c.holder.ensures ∙ holder_told c.args.address.0 c.telling.result.now c.self.inside.past c.telling.ensures
    ∙ ap (λ (t : TellingSeen). holder_in t.run.past c.args.address.0) c.self.view_is
