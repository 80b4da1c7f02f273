-- Questions that are asked of a history.
use Rattle.std.specs.Prelude.{ℕ, List, Bool, true, false, ◌&&◌, ◌==◌, if◌then◌else◌, Option, Some, None, option_map}
use Rattle.mip_words.specs.Asked.{asked}
use Rattle.mip_entries.specs.declared.entry.Entry.{Entry}
use Rattle.mip_entries.specs.declared.entry.Entry.TheVariants.{At, Moved, Claimed, Released, Listening, Deafened}
pub use Rattle.mip_provenance.specs.Entries.{claims, declared_in, restarts, life_in}
use Rattle.mip_links.specs.Table.{Asked}
use Rattle.mip_history.specs.Setup.{Setup}

abbrev pub moment_says : Entry → Option ℕ
moment_says (At moment) = Some moment.0
moment_says _ = None

-- the moment at the end of a history: that of its last `at`, or the start
abbrev pub moment_in : ℕ → List Entry → ℕ
moment_in start past = asked moment_says start past

abbrev pub holder_says : ℕ → Entry → Option (Option ℕ)
holder_says address (Claimed who link claimed) = if address == claimed.0 then Some (Some who) else None
holder_says address (Released who link released) = if address == released.0 then Some None else None
holder_says address _ = None

-- who holds an address: who made the last claim of it that was not released
abbrev pub holder_in : List Entry → ℕ → Option ℕ
holder_in past address = asked (holder_says address) None past

abbrev pub listen_says : ℕ → ℕ → Entry → Option Bool
listen_says outsider link (Listening o l) = if (outsider == o) && (link == l.0) then Some true else None
listen_says outsider link (Deafened o l) = if (outsider == o) && (link == l.0) then Some false else None
listen_says outsider link _ = None

-- an outsider listens on a link
abbrev pub hears_in : List Entry → ℕ → ℕ → Bool
hears_in past outsider link = asked (listen_says outsider link) false past

abbrev pub moved_says : ℕ → Entry → Option (Option ℕ)
moved_says m (Moved node link) = if m == node.0 then Some (option_map (λ l. l.0) link) else None
moved_says m _ = None

-- the link on which a mobile stands, or none: that of its last `moved`, and before the first the one of its home
abbrev pub spot_in : Option ℕ → List Entry → ℕ → Option ℕ
spot_in home past m = asked (moved_says m) home past

-- what a delivery asks
abbrev pub asked_in : Setup → List Entry → Asked
asked_in s past = record { links = s.links; holder = holder_in past; declared = declared_in past }
