-- Histories in which a packet is heard or handed over only once it was posted.
use Rattle.std.specs.Prelude.{◌≢◌, List, [], None, ⊤}
use Rattle.mip_words.specs.EachAfter.{EachAfter}
use Rattle.mip_entries.specs.declared.entry.Entry.{Entry}
use Rattle.mip_entries.specs.declared.entry.Entry.TheVariants as entries
use Rattle.mip_provenance.specs.Entries.{packet_in}

abbrev pub IsTold : List Entry → Entry → Type 0
IsTold front (entries.Heard number outsider) = packet_in front number ≢ None
IsTold front (entries.Handed number node) = packet_in front number ≢ None
IsTold front _ = ⊤

abbrev pub AreTold : List Entry → Type 0
AreTold past = EachAfter IsTold [] past
