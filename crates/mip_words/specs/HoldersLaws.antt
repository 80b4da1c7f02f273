-- Laws and invariants of Holders: only proofs stand on them.
use Rattle.std.specs.Prelude.{◌<◌}
use Rattle.mip_words.specs.declared.holder.Holder.{Holder}
use Rattle.mip_words.specs.declared.holder.Holder.TheVariants.{Node, Outsider}
use Rattle.mip_words.specs.Holders.{first_outsider}

-- a node is one of the first 32
abbrev pub IsHolder : Holder → Type 0
IsHolder (Node node) = node.0 < first_outsider
IsHolder (Outsider outsider) = Unit {0}
