-- What the turns of a node find, where its clock and its link tell what they will answer.
use Rattle.std.specs.Prelude.{◌≡◌, ℕ, List, [], ◌∷◌, take, drop, ⊤, Option, None, IfSome, option_map}
use Rattle.mip_outside.specs.Moments.{IsAnswer, moments_after}
use Rattle.mip_node.specs.Turns.{Seen}

-- the answers of a clock that are to come, and what is to come over a link
abbrev pub Ahead : Type 0
Ahead = Option (List ℕ)

abbrev pub Coming : Type 0
Coming = Option (List (Option (List ℕ)))

-- the next item of a link: nothing for a gap or where nothing is left, else a datagram, of which 4,097 bytes are taken
abbrev pub IsNext : List (Option (List ℕ)) → Option (List ℕ) → Type 0
IsNext [] item = item ≡ None
IsNext (next ∷ items) item = item ≡ option_map (take 4097) next

-- what a turn finds
abbrev pub IsSeen : Ahead → Coming → Seen → Type 0
IsSeen ahead coming seen = IfSome ahead (λ moments. IsAnswer moments seen.0) × IfSome coming (λ items. IsNext items seen.1)

-- what is to come after as many turns
abbrev pub ahead_after : List Seen → Ahead → Ahead
ahead_after [] ahead = ahead
ahead_after (seen ∷ more) ahead = ahead_after more (option_map moments_after ahead)

abbrev pub coming_after : List Seen → Coming → Coming
coming_after [] coming = coming
coming_after (seen ∷ more) coming = coming_after more (option_map (drop 1) coming)

-- what so many turns find, one after another
unfoldable pub Sees : Ahead → Coming → List Seen → Type 0
Sees ahead coming [] = ⊤
Sees ahead coming (seen ∷ more) = IsSeen ahead coming seen × Sees (option_map moments_after ahead) (option_map (drop 1) coming) more
