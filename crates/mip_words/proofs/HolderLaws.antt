-- A holder and its number, both ways.
use Rattle.std.proofs.Common.{◌≡◌, ℕ, arith}
use Rattle.mip_words.specs.Holders.{holder_number, holder_at}
use Rattle.mip_words.specs.HoldersLaws.{IsHolder}
use Rattle.mip_words.specs.declared.holder.Holder.{Holder}
use Rattle.mip_words.specs.declared.holder.Holder.TheVariants.{Node, Outsider}

-- the holder with a number has this number
pub number-holder : (n : ℕ) → holder_number (holder_at n) ≡ n
number-holder n = grind arith

-- the holder with the number of a holder is this holder
pub holder-number : (h : Holder) → IsHolder h → holder_at (holder_number h) ≡ h
holder-number (Node node) is = grind arith
holder-number (Outsider outsider) is = grind arith
