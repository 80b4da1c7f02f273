-- What a list of acceptances, oldest first, leaves of each home: its last sequence, the moment to which this
-- is kept, and the bindings that live. RFC 6275 section 9.5.1, with several bindings for one home
use Rattle.std.specs.Prelude.{ℕ, ◌+◌, List, [], ◌∷◌, ◌++◌, Option, Some, None, fold, Bool, not, ◌&&◌, nat_lt, ◌==◌, max, map, if◌then◌else◌}
use Rattle.std.specs.List.{flat_map}
use Rattle.mip_words.specs.Constants.{max_nonce_lifetime}
use Rattle.mip_binding.specs.Acceptance.{Acceptance, Binding, binding_of, is_deletion}
use Rattle.mip_binding.specs.Rows.{BindingRow, find_by, put_by, kept_by, others_by, found_by, all_numbers}

-- what is remembered of one home, its bindings oldest first
pub record HomeKept : Type 0 where
  pub home : ℕ
  pub sequence : ℕ
  pub until : ℕ
  pub live : List Binding

abbrev pub home_key : HomeKept → ℕ
home_key k = k.home

abbrev pub until_key : HomeKept → ℕ
until_key k = k.until

abbrev pub number_key : Binding → ℕ
number_key b = b.number

-- the latest end of these bindings, and this moment at least
abbrev pub latest : ℕ → List Binding → ℕ
latest moment [] = moment
latest moment (b ∷ bs) = max b.end (latest moment bs)

-- a home after an acceptance, where these bindings live
abbrev pub kept_of : Acceptance → List Binding → HomeKept
kept_of a live = record {
  home = a.home;
  sequence = a.sequence;
  until = latest (a.at + max_nonce_lifetime) live;
  live = live;
}

-- an acceptance ends no binding but that of its number: it is no deletion, and the home's sequence is still kept
abbrev pub joins : HomeKept → Acceptance → Bool
joins kept a = not (is_deletion a) && nat_lt a.at kept.until

abbrev pub kept_with : Option HomeKept → Acceptance → HomeKept
kept_with None a = kept_of a (binding_of a ∷ [])
kept_with (Some kept) a =
    if joins kept a then kept_of a (others_by number_key a.number kept.live ++ binding_of a ∷ []) else kept_of a (binding_of a ∷ [])

abbrev pub home_step : ℕ → Option HomeKept → Acceptance → Option HomeKept
home_step home kept a = if a.home == home then Some (kept_with kept a) else kept

-- what is remembered of one home
abbrev pub home_after : ℕ → List Acceptance → Option HomeKept
home_after home xs = fold (home_step home) None xs

-- what is remembered of all homes, in order of home
unfoldable pub homes : List Acceptance → List HomeKept
homes xs = fold (λ kept a. put_by home_key (kept_with (find_by home_key a.home kept) a) kept) [] xs

-- the homes whose sequence is kept
abbrev pub kept_homes : ℕ → List HomeKept → List HomeKept
kept_homes now kept = kept_by until_key now kept

-- a binding of a home as it is shown
abbrev pub shown_in : HomeKept → Binding → BindingRow
shown_in kept b = record {
  home = b.home;
  number = b.number;
  careof = b.careof;
  sequence = b.sequence;
  end = b.end;
  kept_until = kept.until;
}

-- the bindings of a home that live, in order of number
unfoldable pub shown_home : HomeKept → List BindingRow
shown_home kept = map (shown_in kept) (found_by number_key kept.live all_numbers)

-- the bindings that live of the homes whose sequence is kept, in order of home, then of number
abbrev pub shown_rows : List Acceptance → ℕ → List BindingRow
shown_rows xs now = flat_map shown_home (kept_homes now (homes xs))
