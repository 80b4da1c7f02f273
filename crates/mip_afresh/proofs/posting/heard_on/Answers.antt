use Rattle.std.proofs.Common.{ℕ, ◌≡◌, List, suc, ◌+◌, ◌++◌, [], ◌∷◌, ap, ◌∙◌, arith}
use Rattle.std.specs.Prelude.{◌&&◌, if◌then◌else◌}
use Rattle.mip_entries.specs.declared.entry.Entry.{Entry}
use Rattle.mip_entries.specs.declared.entry.Entry.TheVariants.{Heard}
use Rattle.mip_history.specs.Questions.{hears_in}
use Rattle.mip_history.specs.Posting.{heards, is_other}
use Rattle.mip_afresh.proofs.posting.heard_on.Goals as goal

pub loop-outsider-preserved : goal.loop-outsider-preserved
loop-outsider-preserved c =
    let o = c.loop-outsider.outsider in
    let hears = λ (p : ℕ). is_other c.args.by p && hears_in c.args.past.now p c.args.link.0 in
    let next : suc o ≡ o + 1 = omega arith in
    c.in_ok-hear_one.ensures
    ∙ ap (λ (xs : List Entry). xs ++ (if hears o then Heard c.args.number o ∷ [] else [])) c.loop-outsider.invariant
    ∙ ap (heards hears c.args.number) next
