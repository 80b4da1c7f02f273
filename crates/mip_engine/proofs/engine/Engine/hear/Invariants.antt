use Rattle.std.proofs.Common.{◌≡◌}
use Rattle.mip_history.specs.Posting.{heards}
use Rattle.mip_engine.specs.Engines.{with_entries, ears_of}
use Rattle.mip_engine.proofs.engine.Engine.hear.Given as goal

abbrev pub invariant-loop-outsider : goal.invariant-loop-outsider
invariant-loop-outsider l = l.self ≡ with_entries (heards (λ o. ears_of l.fn.self l.except l.link.0 o) l.number l.outsider) l.fn.self
