-- The first line in which two texts differ.
use Rattle.std.specs.Prelude.{◌≡◌, ◌≢◌, ⊤, ℕ, ◌+◌, ◌-◌, List, [], ◌∷◌, take, None, Some, Result, Ok, Err, if◌then◌else◌}
use Rattle.std.specs.Str.{bytes_eq}
use Rattle.std.specs.declared.option.Option.{Option}
use Rattle.mip_audit.specs.Lines.{lines_of}
use Rattle.mip_audit.specs.declared.fault.AuditFault.{AuditFault}
use Rattle.mip_audit.specs.declared.fault.AuditFault.TheVariants as faults

-- the number of the first line that the two have not alike, or that only one of them has; the first of these lines has number n
unfoldable pub first_apart : ℕ → List (List ℕ) → List (List ℕ) → Option ℕ
first_apart n [] [] = None
first_apart n [] (line ∷ lines) = Some n
first_apart n (line ∷ lines) [] = Some n
first_apart n (a ∷ xs) (b ∷ ys) = if bytes_eq a b then first_apart (n + 1) xs ys else Some n

-- lines are counted from 1
abbrev pub difference : List ℕ → List ℕ → Option ℕ
difference given permitted = first_apart 1 (lines_of given) (lines_of permitted)

-- the lines before line n are the same in both, and with line n they are not
pub record DifferFirstAt (n : ℕ) (given permitted : List ℕ) : Type 0 where
  pub before : take (n - 1) (lines_of given) ≡ take (n - 1) (lines_of permitted)
  pub there : take n (lines_of given) ≢ take n (lines_of permitted)

-- an audit answers that the texts differ in no line, or in this one first; want of memory says nothing
abbrev pub Judges : {X : Type 0} → Result X AuditFault → Option ℕ → Type 0
Judges (Ok _) differ = differ ≡ None
Judges (Err (faults.Differs line)) differ = differ ≡ Some line
Judges (Err faults.Memory) differ = ⊤

-- what holds where they differ
abbrev pub OnDiffers : {X : Type 0} → Result X AuditFault → (ℕ → Type 0) → Type 0
OnDiffers (Err (faults.Differs line)) P = P line
OnDiffers _ P = ⊤

-- a text of which some is compared: what of the given one is left, and the number of the line in which that begins
pub record Progress : Type 0 where
  pub rest : List ℕ
  pub line : ℕ

-- the first line in which what is left differs from this text
abbrev pub difference_from : Progress → List ℕ → Option ℕ
difference_from p text = first_apart p.line (lines_of p.rest) (lines_of text)
