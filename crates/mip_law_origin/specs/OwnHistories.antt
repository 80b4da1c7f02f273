-- What each node sends in a history: a correspondent and a mobile their own tests, an agent those that were handed to it, and a
-- mobile updates from those that were handed to it. RFC 6275 sections 5.2.5, 9.4.3, 9.4.4, 10.4 and 11.6
use Rattle.std.specs.Prelude.{ℕ, List}
use Rattle.mip_nonce.specs.Secrets.{Life}
use Rattle.mip_entries.specs.declared.entry.Entry.{Entry}
use Rattle.mip_history.specs.Setup.{Setup}
use Rattle.mip_history.specs.Questions.{life_in}

-- the secrets of a node behind these entries
abbrev pub life_of : Setup → List Entry → ℕ → Life
life_of s front n = record { seed = s.seed; node = n; life = life_in front n }
