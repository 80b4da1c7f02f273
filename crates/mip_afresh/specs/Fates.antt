-- What becomes of a packet, as the definitions of the network have it.
use Rattle.std.specs.Prelude.{◌+◌}
use Rattle.mip_words.specs.Holders.{first_outsider}
use Rattle.mip_links.specs.Table as table
use Rattle.mip_afresh.specs.declared.fate.Fate.{Fate}
use Rattle.mip_afresh.specs.declared.fate.Fate.TheVariants.{Idle, Gone, Outsider, Node}

abbrev pub fate_seen : Fate → table.Fate
fate_seen Idle = table.Fate.Idle
fate_seen (Gone why) = table.Fate.Gone why
fate_seen (Outsider outsider) = table.Fate.Outsider (outsider + first_outsider)
fate_seen (Node node) = table.Fate.Node node.0
