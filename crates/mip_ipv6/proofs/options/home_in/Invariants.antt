use Rattle.std.proofs.Common.{◌≡◌, None, length}
use Rattle.mip_ipv6.specs.Reading.{options_after}
use Rattle.mip_ipv6.proofs.options.home_in.Given as goal

-- the rest of the options give what all of them give
abbrev pub invariant-loop-rest : goal.invariant-loop-rest
invariant-loop-rest l = options_after 0 l.home l.rest ≡ options_after 0 None l.area

abbrev pub decreases-loop-rest : goal.decreases-loop-rest
decreases-loop-rest l = length l.rest
