-- The tokens from which mobiles made updates.
use Rattle.std.specs.Prelude.{ℕ, Option, option_map}
use Rattle.std.specs.Ordering.{nat_cmp, ordering_then}
use Rattle.std.specs.BTreeMap.{get}
use Rattle.std.specs.declared.cmp.Ordering.{Ordering}
use Rattle.mip_provenance.specs.Pairs.{Pair}
use Rattle.mip_provenance.specs.Seen.{pair_of}
use Rattle.mip_provenance_index.specs.declared.made.Made.{Made}

abbrev pub Making : Type 0
Making = ℕ × ℕ

abbrev pub making_cmp : Making → Making → Ordering
making_cmp a b = ordering_then (nat_cmp a.0 b.0) (nat_cmp a.1 b.1)

-- the tokens from which node n made packet k
abbrev pub made_at : Made → ℕ → ℕ → Option Pair
made_at m n k = option_map pair_of (get making_cmp m.map (n, k))
