-- Where a field of a line ends.
use Rattle.std.specs.Prelude.{ℕ, ◌+◌, ◌==◌, Bool, not, List, drop}
use Rattle.std.specs.List.{prefix_len}

abbrev pub is_space : ℕ → Bool
is_space b = b == 32

abbrev pub is_plain : ℕ → Bool
is_plain b = not (b == 32)

-- where the first space stands from a place on, or the line ends
abbrev pub end_of : ℕ → List ℕ → ℕ
end_of from line = from + prefix_len is_plain (drop from line)
