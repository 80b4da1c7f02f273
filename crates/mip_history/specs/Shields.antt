-- Which packets were posted under a shield.
use Rattle.std.specs.Prelude.{ℕ, List, Bool, false, Option, Some, None, slice_get, filter_map}
use Rattle.mip_entries.specs.declared.entry.Entry.{Entry}
use Rattle.mip_entries.specs.declared.entry.Entry.TheVariants as entries

-- an outsider posts without one
abbrev pub shield_posted : Entry → Option Bool
shield_posted (entries.Sent number node shielded packet) = Some shielded
shield_posted (entries.Injected number outsider link packet) = Some false
shield_posted _ = None

-- whether packet k has a shield, as the entry of its post tells; none where it was not posted
abbrev pub is_shielded_in : List Entry → ℕ → Option Bool
is_shielded_in past k = slice_get (filter_map shield_posted past) k
