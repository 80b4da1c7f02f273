-- The last acceptance of a home in a life is the one that counts.
use Rattle.std.proofs.Common.{◌≡◌, ◌≢◌, ℕ, ◌<◌, List, [], ◌∷◌, ◌++◌, Bool, true, false, refl, sym, ap, ◌∙◌}
use Rattle.std.specs.Prelude.{fold, ◌==◌, ◌&&◌, if◌then◌else◌, Some, None}
use Rattle.std.specs.List.{list_any}
use Rattle.std.proofs.lemmas.List.{append_assoc}
use Rattle.std.proofs.lemmas.List.Sums.{fold-append}
use Rattle.std.proofs.lemmas.Bool.{or_parts, eqb-false}
use Rattle.mip_words.specs.declared.address.Address.{Address}
use Rattle.mip_binding.specs.Acceptance.{Acceptance}
use Rattle.mip_binding.specs.AcceptanceLaws.{kept_until_of}
use Rattle.mip_binding.specs.Held.{held, floor}
use Rattle.mip_binding.proofs.HeldLaws.{held-binds, held-deletes, held-other, floor-stands, floor-other}
use Rattle.mip_bcache.specs.declared.accepted.Accepted.{Accepted}
use Rattle.mip_bcache.specs.Seen.{acceptance}
use Rattle.mip_entries.specs.declared.entry.Entry.{Entry}
use Rattle.mip_entries.specs.declared.entry.Entry.TheVariants as entries
use Rattle.mip_history.specs.Setup.{Setup}
use Rattle.mip_history.specs.Questions.{moment_in}
use Rattle.mip_history.specs.Bound.{Lived, lived, accepted_by, accepted_entry, is_restart_of}
use Rattle.mip_history.specs.BoundLaws.{is_accepted_for}
use Rattle.mip_history.proofs.Places.{acceptance_at}
use Rattle.mip_history.proofs.Transitions.{accepted_more}

-- a question that acceptances of other homes do not change
module _ {X : Type 0} (question : List Acceptance → X) (n home : ℕ) (other : (xs : List Acceptance) (x : Acceptance) → x.home ≢ home → question (xs ++ x ∷ []) ≡ question xs) where
  restart_same : (same : Bool) (xs : List Acceptance) → same ≡ false → question (if same then [] else xs) ≡ question xs
  restart_same true xs none = absurd cc
  restart_same false xs none = refl

  acceptance_same : (same : Bool) (l : Lived) (x : Acceptance) → (same && (x.home == home)) ≡ false
      → question (let y : Lived = (if same then record { at = l.at; accepted = l.accepted ++ x ∷ [] } else l) in y.accepted) ≡ question l.accepted
  acceptance_same true l x none = other l.accepted x (eqb-false x.home home none)
  acceptance_same false l x none = refl

  entry_same : (l : Lived) (e : Entry) → is_restart_of n e ≡ false → is_accepted_for n home e ≡ false → question (lived n l e).accepted ≡ question l.accepted
  entry_same l (entries.Restarted node) alive none = restart_same (n == node.0) l.accepted alive
  entry_same l (entries.Accepted node k of binding careof sequence end i j) alive none = acceptance_same (n == node.0) l (acceptance_at l.at of binding careof sequence end) none
  entry_same l _ alive none = refl

  entries_same : (l : Lived) (es : List Entry) → list_any (is_restart_of n) es ≡ false → list_any (is_accepted_for n home) es ≡ false → question (fold (lived n) l es).accepted ≡ question l.accepted
  entries_same l [] alive none = refl
  entries_same l (e ∷ es) alive none =
      let a = or_parts (is_restart_of n e) (list_any (is_restart_of n) es) alive in
      let b = or_parts (is_accepted_for n home e) (list_any (is_accepted_for n home) es) none in
      entries_same (lived n l e) es a.1 b.1 ∙ entry_same l e a.0 b.0

  pub later_same : (start : ℕ) (past es : List Entry) → list_any (is_restart_of n) es ≡ false → list_any (is_accepted_for n home) es ≡ false → question (accepted_by start (past ++ es) n) ≡ question (accepted_by start past n)
  unfolding accepted_by
  later_same start past es alive none =
      ap (λ (l : Lived). question l.accepted) (fold-append (lived n) (record { at = start; accepted = [] }) past es)
      ∙ entries_same (fold (lived n) (record { at = start; accepted = [] }) past) es alive none

module _ (s : Setup) (before : List Entry) (n k : ℕ) (home : Address) (binding : ℕ) (a : Accepted) (after : List Entry) (alive : list_any (is_restart_of n) after ≡ false) (none : list_any (is_accepted_for n home.0) after ≡ false) where
  abbrev x : Acceptance
  x = acceptance (moment_in s.start before) home binding a

  counts : {X : Type 0} (question : List Acceptance → X) → ((xs : List Acceptance) (y : Acceptance) → y.home ≢ home.0 → question (xs ++ y ∷ []) ≡ question xs)
      → question (accepted_by s.start (before ++ accepted_entry n k home binding a ∷ after) n) ≡ question (accepted_by s.start before n ++ x ∷ [])
  counts {X = X} question other =
      ap (λ (l : List Entry). question (accepted_by s.start l n)) (sym (append_assoc before (accepted_entry n k home binding a ∷ []) after))
      ∙ later_same question n home.0 other s.start (before ++ accepted_entry n k home binding a ∷ []) after alive none
      ∙ ap question (accepted_more s.start n k before home binding a)

  module _ (now : ℕ) where
    last_held : held (accepted_by s.start (before ++ accepted_entry n k home binding a ∷ after) n) home.0 now ≡ held (accepted_by s.start before n ++ x ∷ []) home.0 now
    last_held = counts (λ xs. held xs home.0 now) (λ xs y other. held-other xs y home.0 now other)

    pub last_binds : a.careof.0 ≢ home.0 → now < a.end.0 → held (accepted_by s.start (before ++ accepted_entry n k home binding a ∷ after) n) home.0 now ≡ Some a.careof.0
    last_binds away early = last_held ∙ held-binds (accepted_by s.start before n) x now away early

    pub last_deletes : a.careof.0 ≡ home.0 → held (accepted_by s.start (before ++ accepted_entry n k home binding a ∷ after) n) home.0 now ≡ None
    last_deletes same = last_held ∙ held-deletes (accepted_by s.start before n) x now same

    pub last_kept : now < kept_until_of x → floor (accepted_by s.start (before ++ accepted_entry n k home binding a ∷ after) n) home.0 now ≡ Some a.sequence
    last_kept early =
        counts (λ xs. floor xs home.0 now) (λ xs y other. floor-other xs y home.0 now other)
        ∙ floor-stands (accepted_by s.start before n) x now early
