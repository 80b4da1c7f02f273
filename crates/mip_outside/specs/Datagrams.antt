-- The datagrams of a link: those sent, with their ports, and those to come, with gaps between them.
use Rattle.std.specs.Prelude.{◌≡◌, ℕ, List, [], ◌∷◌, length, take, min, None, Some}
use Rattle.std.specs.declared.option.Option.{Option}
use Rattle.mip_outside.specs.declared.link_call.LinkCall.{LinkCall}

-- what `receive` answers where these are to come, and what then stands in its slice: nothing for a gap
-- or where nothing is left, else the datagram, cut to the slice
abbrev pub IsReceived : List (Option (List ℕ)) → Option ℕ → List ℕ → Type 0
IsReceived [] answer into = answer ≡ None
IsReceived (None ∷ items) answer into = answer ≡ None
IsReceived (Some datagram ∷ items) answer into = let n = min (length datagram) (length into) in
    (answer ≡ Some n) × (take n into ≡ take n datagram)

-- what a link in memory stands for
pub record Traffic : Type 0 where
  pub sent : List (ℕ × List ℕ)
  pub coming : List (Option (List ℕ))
  pub port : Option ℕ
  pub calls : List LinkCall
