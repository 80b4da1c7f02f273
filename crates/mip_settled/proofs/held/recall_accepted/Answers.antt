use Rattle.std.proofs.Common.{ap, ◌∙◌, ◌+◌}
use Rattle.std.specs.Prelude.{List, ℕ}
use Rattle.mip_binding.specs.Homes.{latest}
use Rattle.mip_words.specs.Constants.{max_nonce_lifetime}
use Rattle.mip_entries.specs.declared.entry.Entry.{Entry}
use Rattle.mip_settled.specs.Acceptances.{binding_from, left_in}
use Rattle.mip_settled.proofs.Recalls.{recalled_more}
use Rattle.mip_settled.proofs.held.recall_accepted.Goals as goal

pub returns-clause-step : goal.returns-clause-step
returns-clause-step c =
    let n = c.args.node.0 in
    let home = c.args.home.0 in
    recalled_more n home c.args.history.now c.args.place c.args.entry.now c.requires.here c.args.recall c.requires.from (binding_from home c.args.told) c.first_behind-from.result c.latest_end-until.result
    c.first_behind-from.ensures
    (c.latest_end-until.ensures
    ∙ ap (λ (at : ℕ). latest (at + c.from-2.result) (left_in n home c.between.result.now)) c.from.ensures
    ∙ ap (λ (period : ℕ). latest (c.args.recall.at.0 + period) (left_in n home c.between.result.now)) c.from-2.ensures
    ∙ ap (λ (es : List Entry). latest (c.args.recall.at.0 + max_nonce_lifetime) (left_in n home es)) c.between.ensures)
