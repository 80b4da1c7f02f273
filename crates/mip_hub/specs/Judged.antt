-- What becomes of a datagram in memory, seen as the definition has it.
use Rattle.mip_hub.specs.Passing.{Passed, Dropped, Gone, Lost, To}
use Rattle.mip_hub.specs.declared.passing.Passing.{Passing}
use Rattle.mip_hub.specs.declared.passing.Passing.TheVariants as passing

abbrev pub judged : Passing → Passed
judged (passing.Dropped word) = Dropped word.now
judged passing.Gone = Gone
judged passing.Lost = Lost
judged (passing.To port count) = To port count
