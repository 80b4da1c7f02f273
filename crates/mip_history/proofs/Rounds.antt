-- Steps of sequences that are counted round add up to whole rounds.
use Rattle.std.proofs.Common.{◌≡◌, ℕ, ◌+◌, ◌*◌, ◌%◌, ◌/◌, ◌<◌, List, [], ◌∷◌, ◌++◌, true, refl, ap, ◌∙◌, arith}
use Rattle.std.specs.Prelude.{fold, ◌==◌, ◌&&◌}
use Rattle.std.proofs.lemmas.List.Sums.{fold-append}
use Rattle.std.proofs.lemmas.Bool.{cond_both, cond-true, and_parts, and_from, eq-eqb, ltb-true}
use Rattle.mip_words.specs.Sequence.{step_from, is_after}
use Rattle.mip_words.specs.declared.address.Address.{Address}
use Rattle.mip_bcache.specs.declared.accepted.Accepted.{Accepted}
use Rattle.mip_entries.specs.declared.entry.Entry.{Entry}
use Rattle.mip_entries.specs.declared.entry.Entry.TheVariants as entries
use Rattle.mip_history.specs.Bound.{accepted_entry}
use Rattle.mip_history.specs.Again.{Advance, advance, advanced}

-- the first sequence and all steps since lead to the last one
abbrev IsCounted : ℕ → Advance → Type 0
IsCounted first a = (first + a.all) % 65536 ≡ a.last % 65536

step_adds : (first all last new : ℕ) → (first + all) % 65536 ≡ last % 65536 → (first + (all + step_from (last % 65536) new)) % 65536 ≡ new % 65536
step_adds first all last new is = omega arith

counted_one : (n home first : ℕ) (a : Advance) (e : Entry) → IsCounted first a → IsCounted first (advance n home a e)
counted_one n home first a (entries.Accepted node k h binding careof sequence end i j) is =
    cond_both ((n == node.0) && (h.0 == home)) _ _ (IsCounted first) (λ _. step_adds first a.all a.last sequence is) (λ _. is)
counted_one n home first a _ is = is

counted : (n home first : ℕ) (a : Advance) (es : List Entry) → IsCounted first a → IsCounted first (fold (advance n home) a es)
counted n home first a [] is = is
counted n home first a (e ∷ es) is = counted n home first (advance n home a e) es (counted_one n home first a e is)

-- a sequence that comes after another is ahead of it, counted round
ahead_of : (last new : ℕ) → is_after new last ≡ true → 0 < step_from (last % 65536) new
ahead_of last new after = let far = ltb-true 0 (step_from last new) (and_parts _ _ after).0 in omega arith

rounds_of : (first all : ℕ) → (first + all) % 65536 ≡ first % 65536 → 0 < all → (rounds : ℕ) × (0 < rounds) × (all ≡ rounds * 65536)
rounds_of first all same ahead = (all / 65536, omega arith, omega arith)

-- how far they went on at one acceptance more
advance_own : (n l : ℕ) (home : Address) (y : ℕ) (b : Accepted) (a : Advance) → advance n home.0 a (accepted_entry n l home y b) ≡ record { last = b.sequence; all = a.all + step_from (a.last % 65536) b.sequence }
advance_own n l home y b a = cond-true ((n == n) && (home.0 == home.0)) _ _ (and_from (n == n) (home.0 == home.0) (eq-eqb n n refl) (eq-eqb home.0 home.0 refl))

-- the last sequence in between
abbrev pub last_in : ℕ → ℕ → ℕ → List Entry → ℕ
last_in n home first es = (fold (advance n home) (record { last = first; all = 0 }) es).last

-- where the last step is ahead, and the sequence is the first one again, they have gone round
pub gone_round : (n l : ℕ) (home : Address) (y : ℕ) (first : ℕ) (between : List Entry) (b : Accepted) → b.sequence ≡ first → is_after b.sequence (last_in n home.0 first between) ≡ true
    → (rounds : ℕ) × (0 < rounds) × (advanced n home.0 first (between ++ accepted_entry n l home y b ∷ []) ≡ rounds * 65536)
unfolding advanced
gone_round n l home y first between b same after =
    (rounds.0, rounds.1, whole ∙ rounds.2)
  where
    from : Advance
    from = fold (advance n home.0) (record { last = first; all = 0 }) between

    whole : (fold (advance n home.0) (record { last = first; all = 0 }) (between ++ accepted_entry n l home y b ∷ [])).all ≡ from.all + step_from (from.last % 65536) b.sequence
    whole =
        ap (λ (a : Advance). a.all) (fold-append (advance n home.0) (record { last = first; all = 0 }) between (accepted_entry n l home y b ∷ []) ∙ advance_own n l home y b from)

    back : (first + (from.all + step_from (from.last % 65536) b.sequence)) % 65536 ≡ first % 65536
    back =
        step_adds first from.all from.last b.sequence (counted n home.0 first (record { last = first; all = 0 }) between (ap (λ (x : ℕ). x % 65536) (omega arith)))
        ∙ ap (λ (x : ℕ). x % 65536) same

    rounds : (rounds : ℕ) × (0 < rounds) × (from.all + step_from (from.last % 65536) b.sequence ≡ rounds * 65536)
    rounds = rounds_of first _ back (let far = ahead_of from.last b.sequence after in omega arith)
