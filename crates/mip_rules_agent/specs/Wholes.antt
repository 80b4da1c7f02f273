-- What a home agent gives out is whole: a packet has its fixed header (RFC 8200 section 3), and an entry is of one of
-- the kinds that a home agent leaves, with a reason of its kind.
use Rattle.std.specs.Prelude.{Bool, true, false}
use Rattle.mip_entries.specs.declared.entry.Entry.{Entry}
use Rattle.mip_entries.specs.declared.entry.Entry.TheVariants as entries
use Rattle.mip_entries.specs.Reasons.{is_dropped_why}
pub use Rattle.mip_entries.specs.Wholes.{IsWhole}

abbrev pub is_own : Entry → Bool
is_own (entries.Home node home careof sequence end) = true
is_own (entries.Claimed who link address) = true
is_own (entries.Released who link address) = true
is_own (entries.Denied node number status) = true
is_own (entries.Dropped node number why) = is_dropped_why why
is_own _ = false
