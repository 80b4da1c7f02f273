-- The entries that a trace of these declarations can have: each name in them is declared, each number within its
-- range, and each reason one of those that may stand in the line.
use Rattle.std.specs.Prelude.{◌≡◌, ℕ, ◌+◌, List, [], ◌∷◌, ◌++◌, length, map, Some}
use Rattle.std.specs.List.{AllByRecursion}
use Rattle.mip_symbols.specs.declared.declaration.Declaration.{Declaration}
use Rattle.mip_entries.specs.declared.entry.Entry.{Entry}
use Rattle.mip_entries.specs.declared.entry.Entry.TheVariants as entries
use Rattle.mip_rows.specs.Ranges.{IsNumber, IsMoment, IsAddress, IsToken, AreBytes, IsNode, IsLink, IsOutsider, IsWho, IsCause, IfPresent}
use Rattle.mip_rows.specs.Whys.{gone_whys, unsent_whys, dropped_whys, IsAmong}
use Rattle.mip_trace.specs.Lines.{entry_row, trace_text}

-- an entry of these declarations
abbrev pub IsOf : List Declaration → Entry → Type 0
IsOf ds (entries.At a) = IsMoment a
IsOf ds (entries.Moved a b) = IsNode ds a × IfPresent (IsLink ds) b
IsOf ds (entries.Advertised a b c) = IsNode ds a × IsLink ds b × IfPresent IsAddress c
IsOf ds (entries.Listening a b) = IsOutsider ds a × IsLink ds b
IsOf ds (entries.Deafened a b) = IsOutsider ds a × IsLink ds b
IsOf ds (entries.Careof a b) = IsNode ds a × IsAddress b
IsOf ds (entries.Restarted a) = IsNode ds a
IsOf ds (entries.Settled a b c) = IsNode ds a × IsNode ds b
IsOf ds (entries.Claimed a b c) = IsWho ds a × IsLink ds b × IsAddress c
IsOf ds (entries.Released a b c) = IsWho ds a × IsLink ds b × IsAddress c
IsOf ds (entries.Taken a b c d) = IsWho ds a × IsLink ds b × IsAddress c × IsWho ds d
IsOf ds (entries.Sent a b c d) = IsNumber 64 a × IsNode ds b × AreBytes d
IsOf ds (entries.Injected a b c d) = IsNumber 64 a × IsOutsider ds b × IsLink ds c × AreBytes d
IsOf ds (entries.Heard a b) = IsNumber 64 a × IsOutsider ds b
IsOf ds (entries.Handed a b) = IsNumber 64 a × IsNode ds b
IsOf ds (entries.Gone a b) = IsNumber 64 a × IsAmong gone_whys b
IsOf ds (entries.Lost a) = IsNumber 64 a
IsOf ds (entries.Unsent a b) = IsNode ds a × IsAmong unsent_whys b
IsOf ds entries.Idle = Unit {0}
IsOf ds (entries.Registered a b c) = IsNode ds a × IsAddress b × IsMoment c
IsOf ds (entries.Unregistered a b) = IsNode ds a × IsAddress b
IsOf ds (entries.Refused a b) = IsNode ds a × IsNumber 8 b
IsOf ds (entries.Chosen a b) = IsNode ds a × IsAddress b
IsOf ds (entries.Prefixes a b c) = IsNode ds a × IsNumber 32 b × IsNumber 32 c
IsOf ds (entries.Made a b c d e) = IsNode ds a × IsAddress b × IsNumber 64 c × IsToken d × IfPresent IsToken e
IsOf ds (entries.Bound a b c) = IsNode ds a × IsAddress b × IsMoment c
IsOf ds (entries.Unbound a b) = IsNode ds a × IsAddress b
IsOf ds (entries.Home a b c d e) = IsNode ds a × IsAddress b × IsAddress c × IsNumber 16 d × IsMoment e
IsOf ds (entries.Accepted a b c d e f g h i) = IsNode ds a × IsNumber 64 b × IsAddress c × IsNumber 8 d × IsAddress e × IsNumber 16 f × IsMoment g × IsNumber 16 h × IfPresent (IsNumber 16) i
IsOf ds (entries.Origin a b c) = IsNumber 64 a × IfPresent (IsNumber 64) b × IsNumber 64 c
IsOf ds (entries.Forged a) = IsCause a
IsOf ds (entries.Denied a b c) = IsNode ds a × IsNumber 64 b × IsNumber 8 c
IsOf ds (entries.Dropped a b c) = IsNode ds a × IsNumber 64 b × IsAmong dropped_whys c
IsOf ds (entries.Up a b c d e f) = IsNode ds a × IsNumber 64 b × IsAddress c × IsAddress d × IsNumber 8 e × AreBytes f
IsOf ds (entries.Row a b c d e f g) = IsNode ds a × IsAddress b × IsNumber 8 c × IsAddress d × IsNumber 16 e × IsMoment f × IsMoment g

-- the line of an entry of these declarations
abbrev pub IsLineOf : List Declaration → List (List ℕ) → Entry → Type 0
IsLineOf ds row entry = (row ≡ entry_row (Some ds) entry) × IsOf ds entry

-- the lines from here on begin with one that is the line of no entry, or with something that has no line end
abbrev pub BeginsBad : List Declaration → List (List (List ℕ)) → Type 0
BeginsBad ds [] = ⊥
BeginsBad ds (row ∷ []) = row ≡ [] ∷ [] → ⊥
BeginsBad ds (row ∷ next ∷ rows) = (entry : Entry) → IsLineOf ds row entry → ⊥

-- the text of entries of these declarations
abbrev pub IsTraceOf : List Declaration → List Entry → List ℕ → Type 0
IsTraceOf ds history text = AllByRecursion (IsOf ds) history × (text ≡ trace_text (Some ds) history)

-- the line with this number, counted from 1, is the first that is bad: entries have the lines before it
pub record IsFirstBad (ds : List Declaration) (line : ℕ) (rows : List (List (List ℕ))) : Type 0 where
  pub good : List Entry
  pub rest : List (List (List ℕ))
  pub within : AllByRecursion (IsOf ds) good
  pub cut : rows ≡ map (entry_row (Some ds)) good ++ rest
  pub number : line ≡ 1 + length good
  pub bad : BeginsBad ds rest
