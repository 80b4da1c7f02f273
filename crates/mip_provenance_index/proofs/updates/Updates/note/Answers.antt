use Rattle.std.proofs.Common.{◌≡◌, ℕ, subst}
use Rattle.std.specs.Prelude.{Option, OnOk}
use Rattle.mip_provenance_index.specs.Updates.{Posting, update_at, at_step}
use Rattle.mip_provenance_index.proofs.updates.Updates.note.Goals as goal

pub returns-in-Some-clause-numbers : goal.returns-in-Some-clause-numbers
returns-in-Some-clause-numbers c = λ look are.
    subst (λ (p : Option Posting). OnOk c.add.result ((k : ℕ) → update_at c.add.new.self k ≡ at_step c.args.heard p look (update_at c.args.self.now) k))
    c.in-Some.ensures (c.add.ensures.numbers look are)
