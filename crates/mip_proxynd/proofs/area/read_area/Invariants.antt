use Rattle.std.proofs.Common.{◌≡◌, ◌≤◌, ◌-◌, length}
use Rattle.mip_proxynd.specs.Reading.{options_after, area_of}
use Rattle.mip_proxynd.proofs.area.read_area.Given as goal

-- what is left of the message gives what the whole area gives
abbrev pub invariant-loop-rest : goal.invariant-loop-rest
invariant-loop-rest l = record {
  inside : length l.rest ≤ length l.message;
  so_far : options_after 0 l.seen (length l.message - length l.rest) l.rest ≡ area_of l.start l.message;
}

abbrev pub decreases-loop-rest : goal.decreases-loop-rest
decreases-loop-rest l = length l.rest
