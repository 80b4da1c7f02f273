use Rattle.std.proofs.Common.{ℕ, ap, ◌∙◌}
use Rattle.mip_binding.specs.Held.{floor}
use Rattle.mip_history.specs.Bound.{accepted_by}
use Rattle.mip_past.proofs.Recalling.{recalled_floor}
use Rattle.mip_past.proofs.past.Past.floor.Goals as goal

pub returns : goal.returns
returns c =
    let n = c.args.node.0 in
    let home = c.args.home.0 in
    let past = c.args.self.now in
    c.floor_kept.ensures
    ∙ recalled_floor n home 0 past.start.0 past.entries.now c.recall-recall.result c.recall-recall.ensures c.moment.result.0
    ∙ ap (λ (now : ℕ). floor (accepted_by past.start.0 past.entries.now n) home now) c.moment.ensures
