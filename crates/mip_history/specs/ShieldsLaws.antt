-- Laws of Shields: only proofs stand on them.
use Rattle.std.specs.Prelude.{◌≡◌, List, false, Some}
use Rattle.mip_entries.specs.declared.entry.Entry.{Entry}
use Rattle.mip_entries.specs.declared.entry.Entry.TheVariants as entries
use Rattle.mip_history.specs.Shields.{is_shielded_in}

-- what an outsider hears was posted before, without a shield
abbrev pub IsHeardBare : List Entry → Entry → Type 0
IsHeardBare past (entries.Heard number outsider) = is_shielded_in past number ≡ Some false
IsHeardBare past _ = Unit {0}
