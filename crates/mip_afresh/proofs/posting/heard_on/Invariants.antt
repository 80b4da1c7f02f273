use Rattle.std.proofs.Common.{◌≡◌}
use Rattle.std.specs.Prelude.{◌&&◌}
use Rattle.mip_history.specs.Questions.{hears_in}
use Rattle.mip_history.specs.Posting.{heards, is_other}
use Rattle.mip_afresh.proofs.posting.heard_on.Given as goal

abbrev pub invariant-loop-outsider : goal.invariant-loop-outsider
invariant-loop-outsider l = l.heard.items ≡ heards (λ o. is_other l.by o && hears_in l.past o l.link.0) l.number l.outsider
