use Rattle.std.proofs.Common.{ℕ, ap, ◌∙◌}
use Rattle.std.specs.Prelude.{option_map}
use Rattle.mip_words.specs.declared.address.Address.{Address}
use Rattle.mip_binding.specs.Held.{held_under}
use Rattle.mip_history.specs.Bound.{accepted_by}
use Rattle.mip_past.proofs.Recalling.{recalled_under}
use Rattle.mip_past.proofs.past.Past.held_under.Goals as goal

pub returns : goal.returns
returns c =
    let n = c.args.node.0 in
    let home = c.args.home.0 in
    let number = c.args.number in
    let past = c.args.self.now in
    ap (option_map (λ (a : Address). a.0)) c.under_kept.ensures
    ∙ recalled_under n home number past.start.0 past.entries.now c.recall-recall.result c.recall-recall.ensures c.moment.result.0
    ∙ ap (λ (now : ℕ). held_under (accepted_by past.start.0 past.entries.now n) home number now) c.moment.ensures
