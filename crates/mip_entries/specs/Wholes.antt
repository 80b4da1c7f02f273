-- A whole answer: a packet has its fixed header (RFC 8200 section 3), and an entry is one of those that may stand in it.
use Rattle.std.specs.Prelude.{◌≡◌, ◌≤◌, length, Bool, true}
use Rattle.mip_entries.specs.declared.answer.Answer.{Answer}
use Rattle.mip_entries.specs.declared.answer.Answer.TheVariants.{Send, Note}
use Rattle.mip_entries.specs.declared.entry.Entry.{Entry}

abbrev pub IsWhole : (Entry → Bool) → Answer → Type 0
IsWhole is_own (Send shield packet) = 40 ≤ length packet
IsWhole is_own (Note entry) = is_own entry ≡ true
