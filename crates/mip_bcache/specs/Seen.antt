-- What a contract sees of a cache, and for which past it stands.
use Rattle.std.specs.Prelude.{◌≡◌, ℕ, List, [], ◌∷◌, ◌++◌, Option, Some, None, Bool, false, not, ◌&&◌, ◌==◌, length, map, option_map, is_some, nat_lt, max, ◌+◌, if◌then◌else◌}
use Rattle.std.specs.List.{flat_map, list_any}
use Rattle.mip_words.specs.Constants.{max_nonce_lifetime}
use Rattle.mip_words.specs.Last.{last_where}
use Rattle.mip_binding.specs.Acceptance.{Acceptance, Binding}
use Rattle.mip_binding.specs.Rows.{BindingRow, find_by, put_by, kept_by, others_by, found_by, all_numbers}
use Rattle.mip_binding.specs.Homes.{HomeKept, kept_homes, homes}
use Rattle.mip_words.specs.declared.address.Address.{Address}
use Rattle.mip_bcache.specs.declared.row.Row.{Row}
use Rattle.mip_bcache.specs.declared.accepted.Accepted.{Accepted}

-- what is kept of a home: its last sequence, the moment to which this is kept, and its rows, oldest first
pub record HomeRows : Type 0 where
  pub home : ℕ
  pub sequence : ℕ
  pub until : ℕ
  pub live : List Row

-- the room for homes, how many rows one home may have, the last moment that a change was given, and the
-- homes in order
pub record CacheSeen : Type 0 where
  pub limit : ℕ
  pub numbers : ℕ
  pub last : ℕ
  pub homes : List HomeRows

abbrev pub empty_cache : ℕ → ℕ → CacheSeen
empty_cache limit numbers = record { limit = limit; numbers = numbers; last = 0; homes = [] }

abbrev pub home_of : HomeRows → ℕ
home_of h = h.home

abbrev pub until_of : HomeRows → ℕ
until_of h = h.until

abbrev pub number_of : Row → ℕ
number_of r = r.number

-- a row and a home as the definitions have them: nonces are no part of them
abbrev pub seen_binding : Row → Binding
seen_binding r = record {
  home = r.home.0;
  number = r.number;
  careof = r.careof.0;
  sequence = r.sequence;
  end = r.end.0;
}

abbrev pub seen_row : Row → BindingRow
seen_row r = record {
  home = r.home.0;
  number = r.number;
  careof = r.careof.0;
  sequence = r.sequence;
  end = r.end.0;
  kept_until = r.kept_until.0;
}

abbrev pub seen_home : HomeRows → HomeKept
seen_home h = record { home = h.home; sequence = h.sequence; until = h.until; live = map seen_binding h.live }

-- the cache answers as these acceptances, oldest first, have it
pub record StandsFor (cache : CacheSeen) (past : List Acceptance) : Type 0 where
  pub same : map seen_home (kept_by until_of cache.last cache.homes) ≡ kept_homes cache.last (homes past)

-- the homes whose sequence is kept at a moment
abbrev pub kept_at : CacheSeen → ℕ → List HomeRows
kept_at cache now = kept_by until_of now cache.homes

abbrev pub home_at : CacheSeen → ℕ → ℕ → Option HomeRows
home_at cache home now = find_by home_of home (kept_at cache now)

-- the binding of a row stands: its care-of address is not home, and its end lies ahead
abbrev pub stands : ℕ → ℕ → Row → Bool
stands home now r = not (r.careof.0 == home) && nat_lt now r.end.0

-- it stands under this number, or at this care-of address
abbrev pub stands_under : ℕ → ℕ → ℕ → Row → Bool
stands_under home number now r = stands home now r && (r.number == number)

abbrev pub stands_at : ℕ → ℕ → ℕ → Row → Bool
stands_at home now careof r = stands home now r && (r.careof.0 == careof)

-- the row of a home that came last among those that pass a test
abbrev pub last_row : (Row → Bool) → Option HomeRows → Option Row
last_row p None = None
last_row p (Some h) = last_where p h.live

abbrev pub any_row : (Row → Bool) → Option HomeRows → Bool
any_row p None = false
any_row p (Some h) = list_any p h.live

-- what the cache answers for a home
abbrev pub standing_at : CacheSeen → ℕ → ℕ → Option Row
standing_at cache home now = last_row (stands home now) (home_at cache home now)

abbrev pub standing_under : CacheSeen → ℕ → ℕ → ℕ → Option Row
standing_under cache home number now = last_row (stands_under home number now) (home_at cache home now)

abbrev pub holds_at : CacheSeen → ℕ → ℕ → ℕ → Bool
holds_at cache home now careof = any_row (stands_at home now careof) (home_at cache home now)

abbrev pub floor_at : CacheSeen → ℕ → ℕ → Option ℕ
floor_at cache home now = option_map (λ h. h.sequence) (home_at cache home now)

-- there are as many homes as there is room for, and this one is none of them
abbrev pub no_room : {X : Type 0} → (X → ℕ) → ℕ → ℕ → List X → Bool
no_room key limit home hs = not (is_some (find_by key home hs)) && (length hs == limit)

abbrev pub has_no_room : CacheSeen → ℕ → ℕ → Bool
has_no_room cache home now = no_room home_of cache.limit home (kept_at cache now)

-- an accepted update as the definitions have it
abbrev pub acceptance : ℕ → Address → ℕ → Accepted → Acceptance
acceptance now home number a = record {
  at = now;
  home = home.0;
  number = number;
  careof = a.careof.0;
  sequence = a.sequence;
  end = a.end.0;
}

-- and its row, kept to a moment
abbrev pub row_for : ℕ → Address → ℕ → Accepted → Row
row_for until home number a = record {
  home = home;
  number = number;
  careof = a.careof;
  sequence = a.sequence;
  end = a.end;
  kept_until = record { 0 = until };
  home_nonce = a.home_nonce;
  careof_nonce = a.careof_nonce;
}

-- the latest end of these rows, and this moment at least
abbrev pub latest : ℕ → List Row → ℕ
latest moment [] = moment
latest moment (r ∷ rs) = max r.end.0 (latest moment rs)

abbrev pub until_set : ℕ → Row → Row
until_set until r = record r { kept_until = record { 0 = until } }

-- a home after an acceptance, beside whose row these are left. Each row is kept to the moment to which the
-- home's sequence is
abbrev pub until_with : ℕ → Accepted → List Row → ℕ
until_with now a left = max a.end.0 (latest (now + max_nonce_lifetime) left)

abbrev pub rows_made : ℕ → Address → ℕ → Accepted → List Row → HomeRows
rows_made now home number a left = record {
  home = home.0;
  sequence = a.sequence;
  until = until_with now a left;
  live = map (until_set (until_with now a left)) left ++ row_for (until_with now a left) home number a ∷ [];
}

-- the rows that an acceptance leaves beside its own: those of other numbers. A deletion leaves none, and
-- neither does the first of a home
abbrev pub rows_left : Address → ℕ → Accepted → Option HomeRows → List Row
rows_left home number a None = []
rows_left home number a (Some h) = if a.careof.0 == home.0 then [] else others_by number_of number h.live

-- homes past their time are given up
abbrev pub expired : ℕ → CacheSeen → CacheSeen
expired now cache = record cache { last = now; homes = kept_at cache now }

-- and an acceptance changes its home
abbrev pub homes_with : ℕ → Address → ℕ → Accepted → List HomeRows → List HomeRows
homes_with now home number a hs = put_by home_of (rows_made now home number a (rows_left home number a (find_by home_of home.0 hs))) hs

abbrev pub with_acceptance : ℕ → Address → ℕ → Accepted → CacheSeen → CacheSeen
with_acceptance now home number a cache = record cache { last = now; homes = homes_with now home number a (kept_at cache now) }

-- all rows of a cache, home by home
abbrev pub live_rows : CacheSeen → List Row
live_rows cache = flat_map (λ h. h.live) cache.homes

-- the rows that are listed: those of the homes whose sequence is kept, in order of home, then of number
unfoldable pub rows_of_home : HomeRows → List Row
rows_of_home h = found_by number_of h.live all_numbers

abbrev pub rows_at : CacheSeen → ℕ → List Row
rows_at cache now = flat_map rows_of_home (kept_at cache now)
