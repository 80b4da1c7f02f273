use Rattle.std.proofs.Common.{ℕ, Bool, ap, ◌∙◌}
use Rattle.mip_replay.proofs.delivering.hears_at.Goals as goal

pub returns-in-Some : goal.returns-in-Some
returns-in-Some c = λ s run at. rw c.in-Some.is (c.hears.ensures ∙ ap (λ (f : ℕ → ℕ → Bool). f c.args.outsider c.in-Some.link.0) at.hears)
