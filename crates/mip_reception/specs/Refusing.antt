-- Which answers of a node tell of a refusal: a packet that it drops, an update that it denies.
use Rattle.std.specs.Prelude.{Bool, true, false}
use Rattle.mip_entries.specs.declared.answer.Answer.{Answer}
use Rattle.mip_entries.specs.declared.answer.Answer.TheVariants.{Send, Note}
use Rattle.mip_entries.specs.declared.entry.Entry.{Entry}
use Rattle.mip_entries.specs.declared.entry.Entry.TheVariants.{Dropped, Denied}

abbrev pub tells_of_refusal : Entry → Bool
tells_of_refusal (Dropped node number why) = true
tells_of_refusal (Denied node number status) = true
tells_of_refusal _ = false

abbrev pub refuses : Answer → Bool
refuses (Send shield packet) = false
refuses (Note entry) = tells_of_refusal entry
