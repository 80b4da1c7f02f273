use Rattle.std.proofs.Common.{ap, ◌∙◌}
use Rattle.std.specs.Prelude.{option_map}
use Rattle.mip_history.specs.Questions.{spot_in}
use Rattle.mip_afresh.specs.Tellings.{TellingSeen}
use Rattle.mip_afresh.proofs.Told.{spot_told}
use Rattle.mip_afresh.proofs.telling.Telling.spot.Goals as goal

pub returns : goal.returns
returns c =
    c.spot.ensures ∙ spot_told (option_map (λ l. l.0) c.args.home) c.args.node.0 c.telling.result.now c.self.inside.past c.telling.ensures
    ∙ ap (λ (t : TellingSeen). spot_in (option_map (λ l. l.0) c.args.home) t.run.past c.args.node.0) c.self.view_is
