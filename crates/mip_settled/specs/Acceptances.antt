-- What the entries of a node tell of the care-of addresses that it holds for a home. RFC 6275 sections 9.1 and 9.5.1, with
-- several bindings for one home
use Rattle.std.specs.Prelude.{ℕ, ◌+◌, List, [], ◌∷◌, ◌++◌, Bool, false, not, ◌&&◌, ◌||◌, ◌==◌, nat_lt, if◌then◌else◌, Option, Some, None, fold, drop, take}
use Rattle.std.specs.List.{list_any}
use Rattle.mip_words.specs.Constants.{max_nonce_lifetime}
use Rattle.mip_binding.specs.Acceptance.{Binding}
use Rattle.mip_binding.specs.Rows.{add_found}
use Rattle.mip_binding.specs.Homes.{latest}
use Rattle.mip_entries.specs.declared.entry.Entry.{Entry}
use Rattle.mip_entries.specs.declared.entry.Entry.TheVariants as entries
use Rattle.mip_settled.specs.declared.left.Told.{Told}
use Rattle.mip_settled.specs.declared.held.Recall.{Recall}

-- the binding of a home that an entry of node n makes
abbrev pub accepted_told : (n home : ℕ) → Entry → Option Binding
accepted_told n home (entries.Accepted node number h binding careof sequence end i j) =
    if (n == node.0) && (h.0 == home)
    then Some (record { home = home; number = binding; careof = careof.0; sequence = sequence; end = end.0 })
    else None
accepted_told n home _ = None

abbrev pub binding_from : (home : ℕ) → Told → Binding
binding_from home t = record { home = home; number = t.number; careof = t.careof.0; sequence = t.sequence; end = t.end.0 }

abbrev pub has_number : ℕ → Option Binding → Bool
has_number number None = false
has_number number (Some b) = b.number == number

-- one of these entries makes a binding of the home under this number
abbrev pub is_renewed : (n home number : ℕ) → List Entry → Bool
is_renewed n home number es = list_any (λ e. has_number number (accepted_told n home e)) es

-- a binding, unless one of these entries has its number
abbrev pub left_first : (n home : ℕ) → List Entry → Option Binding → Option Binding
left_first n home es None = None
left_first n home es (Some b) = if is_renewed n home b.number es then None else Some b

-- the bindings that these entries make, each of them unless a later one has its number, oldest first
abbrev pub left_in : (n home : ℕ) → List Entry → List Binding
left_in n home [] = []
left_in n home (e ∷ es) = add_found (left_first n home es (accepted_told n home e)) (left_in n home es)

-- what is remembered along a history: the moment, that to which the last sequence of the home is kept, and the entries since the
-- first whose binding may live
pub record Remembered : Type 0 where
  pub at : ℕ
  pub until : ℕ
  pub entries : List Entry

-- a binding ends those before it: it is at home, or the sequence of the home was no longer kept
abbrev pub ends_others : (home at until : ℕ) → Binding → Bool
ends_others home at until b = (b.careof == home) || not (nat_lt at until)

abbrev pub with_more : Remembered → List Entry → Entry → Remembered
with_more r es e = record { at = r.at; until = r.until; entries = es ++ e ∷ [] }

abbrev pub with_told : (n home : ℕ) → Remembered → Entry → Option Binding → Remembered
with_told n home r e None = with_more r r.entries e
with_told n home r e (Some b) =
    let es = (if ends_others home r.at r.until b then [] else r.entries) ++ e ∷ [] in
    record { at = r.at; until = latest (r.at + max_nonce_lifetime) (left_in n home es); entries = es }

abbrev pub remembered_step : (n home : ℕ) → Remembered → Entry → Remembered
remembered_step n home r (entries.At moment) = record { at = moment.0; until = r.until; entries = r.entries ++ entries.At moment ∷ [] }
remembered_step n home r (entries.Restarted node) =
    if n == node.0 then record { at = r.at; until = 0; entries = [] } else with_more r r.entries (entries.Restarted node)
remembered_step n home r e = with_told n home r e (accepted_told n home e)

abbrev pub nothing_at : ℕ → Remembered
nothing_at start = record { at = start; until = 0; entries = [] }

-- behind a history that began at a moment
unfoldable pub remembered : (start n home : ℕ) → List Entry → Remembered
remembered start n home past = fold (remembered_step n home) (nothing_at start) past

-- what a recall of a history is of its first so many entries
abbrev pub recalled : List Entry → ℕ → Recall → Remembered
recalled history place r = record { at = r.at.0; until = r.until; entries = drop r.from (take place history) }
