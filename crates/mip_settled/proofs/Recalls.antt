-- The part of a history that a recall keeps, with one entry more.
use Rattle.std.proofs.Common.{◌≡◌, ℕ, ◌+◌, ◌<◌, ◌≤◌, List, [], ◌∷◌, ◌++◌, length, take, drop, ap, ◌∙◌, arith}
use Rattle.std.specs.Prelude.{Some, slice_get, Bool, true, false, if◌then◌else◌}
use Rattle.std.proofs.lemmas.List.{take_more, drop-append-le, length-take-le}
use Rattle.std.proofs.Math.ListN.{drop_of_length-le}
use Rattle.std.proofs.lemmas.Option.{slice_get_within, get_or_from_slice_get}
use Rattle.mip_words.specs.Constants.{max_nonce_lifetime}
use Rattle.mip_binding.specs.Acceptance.{Binding}
use Rattle.mip_binding.specs.Homes.{latest}
use Rattle.mip_entries.specs.declared.entry.Entry.{Entry}
use Rattle.mip_settled.specs.declared.held.Recall.{Recall}
use Rattle.mip_settled.specs.Acceptances.{left_in, Remembered, ends_others, with_told, recalled}

module _ {X : Type 0} (xs : List X) (place : ℕ) (x : X) (here : slice_get xs place ≡ Some x) where
  pub inside : place < length xs
  inside = slice_get_within xs place x here

  front_more : take (place + 1) xs ≡ take place xs ++ x ∷ []
  front_more = take_more xs place x inside ∙ ap (λ (y : X). take place xs ++ y ∷ []) (get_or_from_slice_get xs place x x here)

  front_length : length (take place xs) ≡ place
  front_length = length-take-le place xs (omega (arith, inside))

  -- what is past a front has nothing
  pub none_here : drop place (take place xs) ≡ []
  none_here = drop_of_length-le (take place xs) (omega (arith, front_length))

  pub none_behind : drop (place + 1) (take (place + 1) xs) ≡ []
  none_behind = drop_of_length-le (take (place + 1) xs) (omega (arith, length-take-le (place + 1) xs (omega (arith, inside))))

  pub part_more : (from : ℕ) → from ≤ place → drop from (take (place + 1) xs) ≡ drop from (take place xs) ++ x ∷ []
  part_more from within = ap (drop from) front_more ∙ drop-append-le from (take place xs) (x ∷ []) (omega (arith, front_length, within))

-- a recall with one binding more
pub recalled_more : (n home : ℕ) (history : List Entry) (place : ℕ) (e : Entry) → slice_get history place ≡ Some e → (r : Recall) → r.from ≤ place → (b : Binding) (from until : ℕ)
    → from ≡ (if ends_others home r.at.0 r.until b then place else r.from)
    → until ≡ latest (r.at.0 + max_nonce_lifetime) (left_in n home (drop from (take (place + 1) history)))
    → (let m : Remembered = record { at = r.at.0; until = until; entries = drop from (take (place + 1) history) } in m) ≡ with_told n home (recalled history place r) e (Some b)
recalled_more n home history place e here r within b from until from_is until_is =
    ap (λ (u : ℕ). let m : Remembered = record { at = r.at.0; until = u; entries = drop from (take (place + 1) history) } in m) until_is
    ∙ ap (λ (es : List Entry). let m : Remembered = record { at = r.at.0; until = latest (r.at.0 + max_nonce_lifetime) (left_in n home es); entries = es } in m)
    (ap (λ (k : ℕ). drop k (take (place + 1) history)) from_is ∙ by (ends_others home r.at.0 r.until b))
  where
    by : (ends : Bool) → drop (if ends then place else r.from) (take (place + 1) history) ≡ (if ends then [] else drop r.from (take place history)) ++ e ∷ []
    by true = part_more history place e here place (omega arith) ∙ ap (λ (es : List Entry). es ++ e ∷ []) (none_here history place e here)
    by false = part_more history place e here r.from within
