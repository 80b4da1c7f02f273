use Rattle.std.proofs.Common.{◌≡◌, ℕ, take}
use Rattle.mip_rules_agent.specs.Known.{Known}
use Rattle.mip_rules_agent.specs.Questions.{valid_at, preferred_at}
use Rattle.mip_rules_agent.specs.Transitions.{Transition}
use Rattle.mip_rules_agent.specs.Doing.{advertises_all}
use Rattle.mip_afresh_agent.specs.Turns.{Shows}
use Rattle.mip_afresh_agent.proofs.prefixes.tell_all.Given as goal

abbrev pub invariant-loop-row : goal.invariant-loop-row
invariant-loop-row l =
    (k : Known) (now : ℕ) → l.valid ≡ valid_at k now → l.preferred ≡ preferred_at k now
    → (t : Transition) → Shows l.initial.turn t → Shows l.turn (advertises_all l.own k now (take l.row-index l.rows) t)
