use Rattle.std.proofs.Common.{ap, ◌∙◌}
use Rattle.mip_history.specs.Questions.{hears_in}
use Rattle.mip_afresh.specs.Tellings.{TellingSeen}
use Rattle.mip_afresh.proofs.Told.{hears_told}
use Rattle.mip_afresh.proofs.telling.Telling.hears.Goals as goal

pub returns : goal.returns
returns c =
    c.hears.ensures ∙ hears_told c.args.outsider c.args.link.0 c.telling.result.now c.self.inside.past c.telling.ensures
    ∙ ap (λ (t : TellingSeen). hears_in t.run.past c.args.outsider c.args.link.0) c.self.view_is
