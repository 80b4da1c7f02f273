-- Names of links, nodes and outsiders.
use Rattle.std.specs.Prelude.{ℕ, ◌-◌, List, ◌++◌, length, take, Bool, false, not, ◌&&◌, ◌||◌, ◌==◌, nat_le, nat_lt, if◌then◌else◌, Option, Some, None, codes, replicate}
use Rattle.std.specs.List.{list_all}
use Rattle.std.specs.Str.{bytes_eq}
use Rattle.mip_symbols.specs.declared.name.Name.{Name}

-- a to z, or 0 to 9
abbrev pub is_letter : ℕ → Bool
is_letter c = (nat_le 97 c && nat_le c 122) || (nat_le 48 c && nat_le c 57)

-- 1 to 8 letters, and not the word that stands for an agent to be found
unfoldable pub is_name : List ℕ → Bool
is_name text =
    if (length text == 0) || nat_lt 8 (length text) then false
    else list_all is_letter text && not (bytes_eq text (codes "find"))

-- the letters of a name
abbrev pub name_bytes : Name → List ℕ
name_bytes name = take name.length name.letters

-- the name that a text is
unfoldable pub name_of : List ℕ → Option Name
name_of text = if is_name text then Some (record { length = length text; letters = text ++ replicate (8 - length text) 0 }) else None
