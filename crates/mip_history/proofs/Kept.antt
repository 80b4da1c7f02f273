-- The last sequence of a home is kept for 240 s from each acceptance.
use Rattle.std.proofs.Common.{◌≡◌, ℕ, ◌+◌, ◌<◌, ◌≤◌, List, [], ◌∷◌, ◌++◌, Bool, true, false, refl, sym, ap, ◌∙◌, arith}
use Rattle.std.specs.Prelude.{fold, ◌==◌, ◌&&◌, if◌then◌else◌, Some}
use Rattle.std.specs.List.{list_any, AllByRecursion}
use Rattle.std.proofs.lemmas.List.Sums.{fold-append}
use Rattle.std.proofs.lemmas.Bool.{or_parts, eqb-true, eqb-false, eq-eqb}
use Rattle.mip_words.specs.declared.address.Address.{Address}
use Rattle.mip_words.specs.declared.moment.Moment.{Moment}
use Rattle.mip_binding.specs.Held.{floor}
use Rattle.mip_binding.proofs.HeldLaws.{floor-stands, floor-other}
use Rattle.mip_bcache.specs.declared.accepted.Accepted.{Accepted}
use Rattle.mip_entries.specs.declared.entry.Entry.{Entry}
use Rattle.mip_entries.specs.declared.entry.Entry.TheVariants as entries
use Rattle.mip_history.specs.Questions.{moment_in}
use Rattle.mip_history.specs.Bound.{Lived, lived, accepted_by, accepted_entry, is_restart_of}
use Rattle.mip_history.specs.Again.{Advance, advance}
use Rattle.mip_history.proofs.Places.{acceptance_at}
use Rattle.mip_history.proofs.Moments.{IsNotBefore}
use Rattle.mip_history.proofs.Rounds.{last_in}
use Rattle.mip_history.proofs.Transitions.{lived_at}

module _ (n home now m : ℕ) (near : now < m + 240000) where
  -- the moment has come, and this sequence is kept
  record IsKept (l : Lived) (last : ℕ) : Type 0 where
    early : m ≤ l.at
    kept : floor l.accepted home now ≡ Some last

  accepted_here : (l : Lived) (h : Address) (binding : ℕ) (careof : Address) (sequence : ℕ) (end : Moment) → m ≤ l.at → h.0 ≡ home
      → IsKept (record { at = l.at; accepted = l.accepted ++ acceptance_at l.at h binding careof sequence end ∷ [] }) sequence
  accepted_here l h binding careof sequence end early same = record {
    early = early;
    kept = ap (λ (x : ℕ). floor (l.accepted ++ acceptance_at l.at h binding careof sequence end ∷ []) x now) (sym same)
        ∙ floor-stands l.accepted (acceptance_at l.at h binding careof sequence end) now (omega arith);
  }

  accepted_kept : (mine same : Bool) (l : Lived) (a : Advance) (h : Address) (binding : ℕ) (careof : Address) (sequence : ℕ) (end : Moment) (all : ℕ) → (h.0 == home) ≡ same → IsKept l a.last
      → IsKept (if mine then record { at = l.at; accepted = l.accepted ++ acceptance_at l.at h binding careof sequence end ∷ [] } else l)
      (let x : Advance = (if mine && same then record { last = sequence; all = all } else a) in x.last)
  accepted_kept true true l a h binding careof sequence end all is k = accepted_here l h binding careof sequence end k.early (eqb-true h.0 home is)
  accepted_kept true false l a h binding careof sequence end all is k = record {
    early = k.early;
    kept = floor-other l.accepted (acceptance_at l.at h binding careof sequence end) home now (eqb-false h.0 home is) ∙ k.kept;
  }
  accepted_kept false same l a h binding careof sequence end all is k = k

  restarted_kept : (mine : Bool) (l : Lived) (last : ℕ) → mine ≡ false → IsKept l last → IsKept (record { at = l.at; accepted = if mine then [] else l.accepted }) last
  restarted_kept true l last alive k = absurd cc
  restarted_kept false l last alive k = record { early = k.early; kept = k.kept }

  entry_kept : (l : Lived) (a : Advance) (e : Entry) → is_restart_of n e ≡ false → IsNotBefore m e → IsKept l a.last → IsKept (lived n l e) (advance n home a e).last
  entry_kept l a (entries.At moment) alive rises k = record { early = rises; kept = k.kept }
  entry_kept l a (entries.Restarted node) alive rises k = restarted_kept (n == node.0) l a.last alive k
  entry_kept l a (entries.Accepted node k h binding careof sequence end i j) alive rises kept =
      accepted_kept (n == node.0) (h.0 == home) l a h binding careof sequence end _ refl kept
  entry_kept l a _ alive rises k = k

  entries_kept : (l : Lived) (a : Advance) (es : List Entry) → list_any (is_restart_of n) es ≡ false → AllByRecursion (IsNotBefore m) es → IsKept l a.last
      → IsKept (fold (lived n) l es) (fold (advance n home) a es).last
  entries_kept l a [] alive rises k = k
  entries_kept l a (e ∷ es) alive rises k =
      let parts = or_parts (is_restart_of n e) (list_any (is_restart_of n) es) alive in
      entries_kept (lived n l e) (advance n home a e) es parts.1 rises.1 (entry_kept l a e parts.0 rises.0 k)

-- what is kept of a home that was accepted less than 240 s before, in the same life
pub last_stands : (start n k : ℕ) (home : Address) (binding : ℕ) (before between : List Entry) (a : Accepted) (now : ℕ) → now < moment_in start before + 240000
    → list_any (is_restart_of n) between ≡ false → AllByRecursion (IsNotBefore (moment_in start before)) between
    → floor (accepted_by start (before ++ accepted_entry n k home binding a ∷ between) n) home.0 now ≡ Some (last_in n home.0 a.sequence between)
unfolding accepted_by
last_stands start n k home binding before between a now near alive rises =
    ap (λ (l : Lived). floor l.accepted home.0 now) (fold-append (lived n) from before (accepted_entry n k home binding a ∷ between))
    ∙ (entries_kept n home.0 now (moment_in start before) near (lived n middle (accepted_entry n k home binding a)) (record { last = a.sequence; all = 0 }) between alive rises first).kept
  where
    from : Lived
    from = record { at = start; accepted = [] }

    middle : Lived
    middle = fold (lived n) from before

    own : (mine : Bool) → mine ≡ true → IsKept n home.0 now (moment_in start before) near
        (if mine then record { at = middle.at; accepted = middle.accepted ++ acceptance_at middle.at home binding a.careof a.sequence a.end ∷ [] } else middle) a.sequence
    own true is = accepted_here n home.0 now (moment_in start before) near middle home binding a.careof a.sequence a.end (omega (arith, lived_at n from before)) refl
    own false is = absurd cc

    first : IsKept n home.0 now (moment_in start before) near (lived n middle (accepted_entry n k home binding a)) a.sequence
    first = own (n == n) (eq-eqb n n refl)
