-- Laws and invariants of Roles: only proofs stand on them.
use Rattle.std.specs.Prelude.{◌≡◌, ◌≤◌, length, Bool, true, false}
use Rattle.mip_entries.specs.declared.answer.Answer.{Answer}
use Rattle.mip_entries.specs.declared.answer.Answer.TheVariants.{Send, Note}
use Rattle.mip_entries.specs.declared.entry.Entry.{Entry}
use Rattle.mip_entries.specs.declared.entry.Entry.TheVariants.{Sent, Injected, Heard, Handed}

-- an entry that tells of no packet that is posted, heard or handed over: those are the network's
abbrev pub is_apart : Entry → Bool
is_apart (Sent number node shielded packet) = false
is_apart (Injected number outsider link packet) = false
is_apart (Heard number outsider) = false
is_apart (Handed number node) = false
is_apart _ = true

-- whatever a role answers is whole: a packet has its fixed header (RFC 8200 section 3), and an entry is none of the network's
abbrev pub IsWhole : Answer → Type 0
IsWhole (Send shield packet) = 40 ≤ length packet
IsWhole (Note entry) = is_apart entry ≡ true
