-- Who holds an address, as a holder and as the number by which it is recorded.
use Rattle.std.specs.Prelude.{ℕ, ◌+◌, ◌-◌, nat_lt, if◌then◌else◌}
use Rattle.mip_words.specs.declared.holder.Holder.{Holder}
use Rattle.mip_words.specs.declared.holder.Holder.TheVariants.{Node, Outsider}

-- the number of the first outsider: nodes have the numbers below
abbrev pub first_outsider : ℕ
first_outsider = 32

-- a node by its number, or an outsider by 32 more than its place among the outsiders
abbrev pub holder_number : Holder → ℕ
holder_number (Node node) = node.0
holder_number (Outsider outsider) = outsider + first_outsider

-- the holder that has a number
abbrev pub holder_at : ℕ → Holder
holder_at number = if nat_lt number first_outsider then Node (record { 0 = number }) else Outsider (number - first_outsider)
