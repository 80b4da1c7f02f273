use Rattle.std.proofs.Common.{◌≡◌, length}
use Rattle.std.specs.Prelude.{option_map}
use Rattle.mip_words.specs.Last.{or_else}
use Rattle.mip_binding.specs.Held.{is_standing}
use Rattle.mip_settled.specs.Acceptances.{left_in}
use Rattle.mip_settled.proofs.LeftLaws.{careof_last}
use Rattle.mip_settled.proofs.left.last_standing.Given as goal

abbrev pub invariant-loop-entry : goal.invariant-loop-entry
invariant-loop-entry l =
    or_else (careof_last (is_standing l.home.0 l.now.0) (left_in l.node.0 l.home.0 l.rest)) (option_map (λ a. a.0) l.held)
    ≡ careof_last (is_standing l.home.0 l.now.0) (left_in l.node.0 l.home.0 l.entries)

abbrev pub decreases-loop-entry : goal.decreases-loop-entry
decreases-loop-entry l = length l.rest
