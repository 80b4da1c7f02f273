-- Laws and invariants of Spelling: only proofs stand on them.
use Rattle.std.specs.Prelude.{◌≡◌, ℕ, ◌+◌, ◌^◌, ◌<◌, List, ◌∷◌, length}
use Rattle.mip_mobhdr.specs.OptionSpelling.{IsSpelled}
use Rattle.mip_mobhdr.specs.OptionWriting.{canonical}
use Rattle.mip_mobhdr.specs.Said.{Said}
use Rattle.mip_mobhdr.specs.Said.Said.{Refresh, HomeInit, CareofInit, HomeTest, CareofTest, Update, Acknowledgement, Error}
use Rattle.mip_mobhdr.specs.Spelling.{type_of, options_said, field_bytes}

-- what stands before the options, with zero for Header Len and checksum
abbrev pub front_bytes : Said → List ℕ
front_bytes m = 59 ∷ 0 ∷ type_of m ∷ 0 ∷ 0 ∷ 0 ∷ field_bytes m

-- each number fits its field
abbrev pub HasWidths : Said → Type 0
HasWidths (Refresh o) = Unit {0}
HasWidths (HomeInit c o) = c < 2 ^ 64
HasWidths (CareofInit c o) = c < 2 ^ 64
HasWidths (HomeTest i c t o) = (i < 2 ^ 16) × (c < 2 ^ 64) × (length t ≡ 8)
HasWidths (CareofTest i c t o) = (i < 2 ^ 16) × (c < 2 ^ 64) × (length t ≡ 8)
HasWidths (Update s a h l k t o) = (s < 2 ^ 16) × (t < 2 ^ 16)
HasWidths (Acknowledgement s k q t o) = (q < 2 ^ 16) × (t < 2 ^ 16)
HasWidths (Error s h o) = h.0 < 2 ^ 128

-- the options are spelled where the writer puts them
abbrev pub WritesOptions : Said → Type 0
WritesOptions m = IsSpelled (options_said m) (canonical (6 + length (field_bytes m)) (options_said m))
