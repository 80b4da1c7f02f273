use Rattle.std.proofs.Common.{◌≡◌, drop, slice_get}
use Rattle.mip_bcache.specs.Table.{homes_of}
use Rattle.mip_bcache.proofs.Listed.{listed}
use Rattle.mip_bcache.proofs.table.Table.row.Given as goal

abbrev pub invariant-loop-slot : goal.invariant-loop-slot
invariant-loop-slot l =
    slice_get (listed l.now.0 (homes_of l.self.chain.items (drop l.slot-index l.self.homes.items))) l.left ≡ slice_get (listed l.now.0 (homes_of l.self.chain.items l.self.homes.items)) l.place
