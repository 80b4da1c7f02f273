use Rattle.std.proofs.Common.{ap, sym, ◌∙◌}
use Rattle.std.specs.Prelude.{List, option_map}
use Rattle.mip_words.specs.Last.{last_where}
use Rattle.mip_binding.specs.Acceptance.{Binding}
use Rattle.mip_binding.specs.Held.{is_standing}
use Rattle.mip_entries.specs.declared.entry.Entry.{Entry}
use Rattle.mip_settled.specs.Acceptances.{left_in}
use Rattle.mip_settled.proofs.HeldTold.{held_told}
use Rattle.mip_settled.proofs.held.held.Goals as goal

pub returns : goal.returns
returns c =
    let n = c.args.node.0 in
    let home = c.args.home.0 in
    let now = c.args.now.0 in
    c.last_standing.ensures
    ∙ ap (λ (es : List Entry). option_map (λ (b : Binding). b.careof) (last_where (is_standing home now) (left_in n home es))) c.split_at.ensures.back
    ∙ ap (λ (es : List Entry). option_map (λ (b : Binding). b.careof) (last_where (is_standing home now) (left_in n home es))) c.first_alive-first.ensures.alive
    ∙ sym (held_told n home c.args.start.0 now c.args.history.now)
