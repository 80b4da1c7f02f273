-- What a correspondent gives out is whole: a packet has its fixed header (RFC 8200 section 3), and an entry is of one of
-- the kinds that a correspondent leaves, with a reason of its kind.
use Rattle.std.specs.Prelude.{Bool, true, false}
use Rattle.mip_entries.specs.declared.entry.Entry.{Entry}
use Rattle.mip_entries.specs.declared.entry.Entry.TheVariants as entries
use Rattle.mip_entries.specs.Reasons.{is_dropped_why}
pub use Rattle.mip_entries.specs.Wholes.{IsWhole}

abbrev pub is_own : Entry → Bool
is_own (entries.Accepted node number home binding careof sequence end i j) = true
is_own (entries.Denied node number status) = true
is_own (entries.Dropped node number why) = is_dropped_why why
is_own (entries.Up node number source destination proto payload) = true
is_own entries.Idle = true
is_own _ = false
