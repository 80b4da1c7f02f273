-- Kinds of entries.
use Rattle.std.specs.Prelude.{Bool, true, false}
use Rattle.mip_entries.specs.declared.entry.Entry.{Entry}
use Rattle.mip_entries.specs.declared.entry.Entry.TheVariants.{Claimed, Taken, Released, Restarted}

-- an entry of a node that tells neither of who holds an address nor of a life
abbrev pub is_plain : Entry → Bool
is_plain (Claimed who link address) = false
is_plain (Taken who link address holder) = false
is_plain (Released who link address) = false
is_plain (Restarted node) = false
is_plain _ = true
