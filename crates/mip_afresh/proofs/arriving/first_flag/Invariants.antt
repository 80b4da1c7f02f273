use Rattle.std.proofs.Common.{◌≡◌, drop}
use Rattle.mip_links.specs.Nets.{first_from, lowest_of}
use Rattle.mip_afresh.proofs.arriving.first_flag.Given as goal

abbrev pub invariant-loop-place : goal.invariant-loop-place
invariant-loop-place l = first_from l.place (drop l.place l.flags) ≡ lowest_of l.flags
