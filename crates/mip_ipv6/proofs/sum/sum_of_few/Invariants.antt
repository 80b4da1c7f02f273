use Rattle.std.proofs.Common.{◌≡◌, ◌+◌, ◌*◌, ◌≤◌, length}
use Rattle.mip_ipv6.specs.Sum.{word_sum}
use Rattle.mip_ipv6.proofs.sum.sum_of_few.Given as goal

abbrev pub invariant-loop-rest : goal.invariant-loop-rest
invariant-loop-rest l = record {
  value : l.sum + word_sum l.rest ≡ word_sum l.bytes;
  small : l.sum + 65535 * length l.rest ≤ 65535 * length l.bytes;
}

abbrev pub decreases-loop-rest : goal.decreases-loop-rest
decreases-loop-rest l = length l.rest
