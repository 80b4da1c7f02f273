-- Bytes as they are kept: few in place, more elsewhere.
use Rattle.std.specs.Prelude.{ℕ, ◌≤◌, List, take}
use Rattle.mip_schedule.specs.declared.kept_room.KeptRoom.{KeptRoom}
use Rattle.mip_schedule.specs.declared.kept_room.KeptRoom.TheVariants.{Few, Many}

-- the bytes
abbrev pub bytes_in : KeptRoom → List ℕ
bytes_in (Few count bytes) = take count bytes
bytes_in (Many bytes) = bytes.value

-- no more are counted than stand in place
abbrev pub IsWithin : KeptRoom → Type 0
IsWithin (Few count bytes) = count ≤ 14
IsWithin (Many bytes) = Unit {0}
