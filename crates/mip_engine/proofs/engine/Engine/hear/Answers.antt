use Rattle.std.proofs.Common.{◌≡◌, ℕ, suc, ◌+◌, [], ◌∷◌, ap, ◌∙◌, arith}
use Rattle.std.specs.Prelude.{if◌then◌else◌}
use Rattle.mip_entries.specs.declared.entry.Entry.TheVariants.{Heard}
use Rattle.mip_history.specs.Posting.{heards}
use Rattle.mip_engine.specs.Engines.{EngineSeen, with_entries, ears_of}
use Rattle.mip_engine.proofs.PostingLaws.{heard_more}
use Rattle.mip_engine.proofs.engine.Engine.hear.Goals as goal

pub loop-outsider-preserved : goal.loop-outsider-preserved
loop-outsider-preserved c =
    let e = c.args.self.now in
    let o = c.loop-outsider.outsider in
    let hears = λ (p : ℕ). ears_of e c.args.except c.args.link.0 p in
    let next : suc o ≡ o + 1 = omega arith in
    c.in_ok-hear_one.ensures
    ∙ ap (λ (x : EngineSeen). with_entries (if ears_of x c.args.except c.args.link.0 o then Heard c.args.number o ∷ [] else []) x) c.loop-outsider.invariant
    ∙ heard_more hears c.args.number o e
    ∙ ap (λ (n : ℕ). with_entries (heards hears c.args.number n) e) next
