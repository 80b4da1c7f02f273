use Rattle.std.proofs.Common.{◌≡◌, take}
use Rattle.mip_make.proofs.network.collected.Given as goal

abbrev pub invariant-loop-declaration : goal.invariant-loop-declaration
invariant-loop-declaration l = l.all ≡ take l.declaration-index l.declarations
