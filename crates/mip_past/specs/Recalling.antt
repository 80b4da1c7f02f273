-- What is recalled of a home along the entries of a node, so that its last sequence and the binding of one number are found: what
-- ends when a binding comes, and for how long the sequence is kept. RFC 6275 section 9.5.1, with several bindings for one home
use Rattle.std.specs.Prelude.{◌≡◌, ⊤, ℕ, ◌+◌, List, [], fold, Bool, false, not, ◌&&◌, ◌||◌, ◌==◌, nat_lt, if◌then◌else◌, Option, Some, None, option_map, is_some}
use Rattle.mip_words.specs.Constants.{max_nonce_lifetime}
use Rattle.mip_words.specs.declared.address.Address.{Address}
use Rattle.mip_words.specs.Last.{last_where}
use Rattle.mip_binding.specs.Acceptance.{Binding}
use Rattle.mip_binding.specs.Homes.{HomeKept, latest, home_after}
use Rattle.mip_entries.specs.declared.entry.Entry.{Entry}
use Rattle.mip_entries.specs.declared.entry.Entry.TheVariants as entries
use Rattle.mip_history.specs.Bound.{Lived, lived}
use Rattle.mip_past.specs.declared.made.Made.{Made}
use Rattle.mip_past.specs.declared.kept.Kept.{Kept}
use Rattle.mip_past.specs.declared.recall.Recall.{Recall}

-- the end of a binding lies ahead of a moment
abbrev pub is_behind : (now : ℕ) → Option Made → Bool
is_behind now None = false
is_behind now (Some made) = nat_lt now made.end.0

-- a sequence is kept at a moment, at which this care-of address is held
abbrev pub lasts : (now : ℕ) → (held : Option ℕ) → Kept → Bool
lasts now held kept = nat_lt now kept.least || (is_behind now kept.deletion || is_some held)

abbrev pub least_of : (at : ℕ) → ℕ
least_of at = at + max_nonce_lifetime

-- a binding, unless one of this number takes its place
abbrev pub unless_renewed : (number : ℕ) → Option Made → Option Made
unless_renewed number None = None
unless_renewed number (Some made) = if not (made.number == number) then Some made else None

abbrev pub deletion_of : (home : ℕ) → Made → Option Made
deletion_of home made = if made.careof.0 == home then Some made else None

-- the binding of a number behind one more, where it was this one
abbrev pub under_of : (number : ℕ) → Option Made → Made → Option Made
under_of number under made = if made.number == number then Some made else under

-- a binding that is the only one that lives
abbrev pub alone : (home number at : ℕ) → Made → Kept
alone home number at made = record {
  sequence = made.sequence;
  least = least_of at;
  deletion = deletion_of home made;
  under = under_of number None made;
}

-- one that takes the place of that of its number alone
abbrev pub joined : (number at : ℕ) → Kept → Made → Kept
joined number at kept made = record {
  sequence = made.sequence;
  least = least_of at;
  deletion = unless_renewed made.number kept.deletion;
  under = under_of number kept.under made;
}

-- behind a binding at a moment, at which this care-of address was held: where it names the home, or no sequence was kept, it is
-- the only one that lives
abbrev pub with_made : (home number at : ℕ) → (held : Option ℕ) → Option Kept → Made → Kept
with_made home number at held None made = alone home number at made
with_made home number at held (Some kept) made =
    if not (made.careof.0 == home) && lasts at held kept then joined number at kept made else alone home number at made

-- the binding of a home that an entry of node n makes
abbrev pub made_told : (n home : ℕ) → Entry → Option Made
made_told n home (entries.Accepted node number h binding careof sequence end i j) =
    if (n == node.0) && (h.0 == home)
    then Some (record { number = binding; careof = careof; sequence = sequence; end = end })
    else None
made_told n home _ = None

abbrev pub recall_with : (home number : ℕ) → (held : Option ℕ) → Recall → Option Made → Recall
recall_with home number held r None = r
recall_with home number held r (Some made) = record { at = r.at; kept = Some (with_made home number r.at.0 held r.kept made) }

abbrev pub next_recall : (n home number : ℕ) → (held : Option ℕ) → Entry → Recall → Recall
next_recall n home number held (entries.At moment) r = record { at = moment; kept = r.kept }
next_recall n home number held (entries.Restarted node) r = if n == node.0 then record { at = r.at; kept = None } else r
next_recall n home number held e r = recall_with home number held r (made_told n home e)

-- the moment, and what node n has accepted in its present life, behind a history that began at a moment
abbrev pub lived_by : (start n : ℕ) → List Entry → Lived
lived_by start n past = fold (lived n) (record { at = start; accepted = [] }) past

abbrev pub binding_made : (home : ℕ) → Made → Binding
binding_made home made = record { home = home; number = made.number; careof = made.careof.0; sequence = made.sequence; end = made.end.0 }

abbrev pub where_so : (Binding → Bool) → Option Binding → Option Binding
where_so p None = None
where_so p (Some b) = if p b then Some b else None

-- one of these bindings at most passes a test: this one
abbrev pub IsOnly : (test : Binding → Bool) → List Binding → Option Binding → Type 0
IsOnly test bs one = (p : Binding → Bool) → last_where (λ b. p b && test b) bs ≡ where_so p one

-- it is what the acceptances leave of the home
pub record IsKept (home number : ℕ) (k : HomeKept) (kept : Kept) : Type 0 where
  pub sequence : k.sequence ≡ kept.sequence
  pub until : k.until ≡ latest kept.least k.live
  pub deletion : IsOnly (λ b. b.careof == home) k.live (option_map (binding_made home) kept.deletion)
  pub under : IsOnly (λ b. b.number == number) k.live (option_map (binding_made home) kept.under)

abbrev pub AreKept : (home number : ℕ) → Option HomeKept → Option Kept → Type 0
AreKept home number None None = ⊤
AreKept home number (Some k) (Some kept) = IsKept home number k kept
AreKept home number _ _ = ⊥

-- what is recalled is what was lived
pub record Recalls (home number : ℕ) (l : Lived) (r : Recall) : Type 0 where
  pub at : r.at.0 ≡ l.at
  pub kept : AreKept home number (home_after home l.accepted) r.kept

-- the sequence, while it is kept
abbrev pub floor_kept : (now : ℕ) → (held : Option ℕ) → Option Kept → Option ℕ
floor_kept now held None = None
floor_kept now held (Some kept) = if lasts now held kept then Some kept.sequence else None

-- the care-of address of a binding, where it stands
abbrev pub under_standing : (now home : ℕ) → Option Made → Option Address
under_standing now home None = None
under_standing now home (Some made) = if not (made.careof.0 == home) && nat_lt now made.end.0 then Some made.careof else None

abbrev pub under_kept : (now home : ℕ) → Option Kept → Option Address
under_kept now home None = None
under_kept now home (Some kept) = under_standing now home kept.under
