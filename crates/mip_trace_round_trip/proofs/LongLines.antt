-- A line is no shorter than each of its fields, and digits are no fewer than bytes.
use Rattle.std.proofs.Common.{ℕ, ◌≤◌, List, [], ◌∷◌, ◌++◌, length, arith, length-append}
use Rattle.std.specs.List.{AllByRecursion}
use Rattle.mip_words.proofs.HexLaws.{length-hex_of}
use Rattle.mip_lines.specs.HexFields.{hex_text}
use Rattle.mip_lines.specs.Lines.{spaced, line_text}

abbrev AreWithin : ℕ → List (List ℕ) → Type 0
AreWithin most fields = AllByRecursion (λ (field : List ℕ). length field ≤ most) fields

within_more : (most more : ℕ) (fields : List (List ℕ)) → most ≤ more → AreWithin most fields → AreWithin more fields
within_more most more [] less all = tt
within_more most more (field ∷ fields) less all = (let one = all.0 in omega arith, within_more most more fields less all.1)

spaced_long : (fields : List (List ℕ)) → AreWithin (length (spaced fields)) fields
spaced_long [] = tt
spaced_long (field ∷ fields) =
    let sum = length-append field (spaced fields) in
    (omega (arith, sum), within_more (length (spaced fields)) (length (spaced (field ∷ fields))) fields (omega (arith, sum)) (spaced_long fields))

-- each field of a line
pub line_long : (fields : List (List ℕ)) → AllByRecursion (λ field. length field ≤ length (line_text fields)) fields
unfolding line_text
line_long [] = tt
line_long (field ∷ fields) =
    let sum = length-append field (spaced fields ++ 10 ∷ []) in
    let more = length-append (spaced fields) (10 ∷ []) in
    (omega (arith, sum), within_more (length (spaced fields)) (length (field ++ (spaced fields ++ 10 ∷ []))) fields (omega (arith, sum, more)) (spaced_long fields))

pub hex_long : (bytes : List ℕ) → length bytes ≤ length (hex_text bytes)
unfolding hex_text
hex_long [] = omega arith
hex_long (b ∷ bytes) = omega (arith, length-hex_of (b ∷ bytes))
