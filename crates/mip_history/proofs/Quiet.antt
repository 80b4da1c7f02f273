-- Entries that say nothing of moments, lives and acceptances.
use Rattle.std.proofs.Common.{◌≡◌, ℕ, List, [], ◌∷◌, ◌++◌, Bool, true, false, refl, ap, ◌∙◌}
use Rattle.std.specs.Prelude.{fold, unwrap_or}
use Rattle.std.specs.List.{list_any}
use Rattle.std.proofs.lemmas.List.Sums.{fold-append}
use Rattle.std.proofs.lemmas.Bool.{or_parts}
use Rattle.mip_entries.specs.declared.entry.Entry.{Entry}
use Rattle.mip_entries.specs.declared.entry.Entry.TheVariants as entries
use Rattle.mip_history.specs.Questions.{moment_says, moment_in, restarts, life_in}
use Rattle.mip_history.specs.Bound.{Lived, lived, accepted_by}

-- an entry that says something of these
abbrev pub is_told : Entry → Bool
is_told (entries.At moment) = true
is_told (entries.Accepted node number home binding careof sequence end i j) = true
is_told (entries.Restarted node) = true
is_told _ = false

lived_quiet : (n : ℕ) (l : Lived) (e : Entry) → is_told e ≡ false → lived n l e ≡ l
lived_quiet n l (entries.At moment) quiet = absurd cc
lived_quiet n l (entries.Accepted node number home binding careof sequence end i j) quiet = absurd cc
lived_quiet n l (entries.Restarted node) quiet = absurd cc
lived_quiet n l _ quiet = refl

moment_quiet : (at : ℕ) (e : Entry) → is_told e ≡ false → unwrap_or (moment_says e) at ≡ at
moment_quiet at (entries.At moment) quiet = absurd cc
moment_quiet at _ quiet = refl

life_quiet : (n count : ℕ) (e : Entry) → is_told e ≡ false → restarts n count e ≡ count
life_quiet n count (entries.Restarted node) quiet = absurd cc
life_quiet n count _ quiet = refl

-- what none of the entries changes
fold_quiet : {S : Type 0} (f : S → Entry → S) → ((s : S) (e : Entry) → is_told e ≡ false → f s e ≡ s) → (s : S) (es : List Entry) → list_any is_told es ≡ false → fold f s es ≡ s
fold_quiet f same s [] quiet = refl
fold_quiet {S = S} f same s (e ∷ es) quiet =
    let parts = or_parts (is_told e) (list_any is_told es) quiet in
    ap (λ (t : S). fold f t es) (same s e parts.0) ∙ fold_quiet f same s es parts.1

fold_same : {S : Type 0} (f : S → Entry → S) → ((s : S) (e : Entry) → is_told e ≡ false → f s e ≡ s) → (s : S) (past es : List Entry) → list_any is_told es ≡ false → fold f s (past ++ es) ≡ fold f s past
fold_same f same s past es quiet = fold-append f s past es ∙ fold_quiet f same (fold f s past) es quiet

module _ (past es : List Entry) (quiet : list_any is_told es ≡ false) where
  pub same_accepted : (start n : ℕ) → accepted_by start (past ++ es) n ≡ accepted_by start past n
  unfolding accepted_by
  same_accepted start n = ap (λ (l : Lived). l.accepted) (fold_same (lived n) (lived_quiet n) (record { at = start; accepted = [] }) past es quiet)

  pub same_moment : (start : ℕ) → moment_in start (past ++ es) ≡ moment_in start past
  same_moment start = fold_same (λ (at : ℕ) (e : Entry). unwrap_or (moment_says e) at) moment_quiet start past es quiet

  pub same_life : (n : ℕ) → life_in (past ++ es) n ≡ life_in past n
  same_life n = fold_same (restarts n) (life_quiet n) 0 past es quiet
