-- Bytes that may be untold, taken from the front or put to the end a piece at a time, and counts of
-- faults over several calls.
use Rattle.std.proofs.Common.{◌≡◌, ℕ, ◌+◌, ◌-◌, ◌≤◌, inl, inr, List, [], ◌++◌, take, drop, sym, ap, ◌∙◌, None, Some, append_assoc, append-nil, refl, arith}
use Rattle.std.proofs.Math.Seq.{take-add, drop-drop}
use Rattle.std.proofs.lemmas.List.{take-take, take-append-drop}
use Rattle.std.specs.Io.KnownBytes.{prepend_known, append_known}
use Rattle.std.specs.declared.option.Option.{Option}
use Rattle.mip_outside.specs.Cause.{Rose}

-- nothing was taken
pub prepend_none : (a b : Option (List ℕ)) → b ≡ a → a ≡ prepend_known [] b
prepend_none a None same = sym same
prepend_none a (Some ys) same = sym same

-- nothing was put
pub append_none : (a b : Option (List ℕ)) → b ≡ a → b ≡ append_known a []
append_none None b same = same
append_none (Some xs) b same = same ∙ ap (λ (l : List ℕ). Some l) (sym (append-nil xs))

-- one piece was taken, then another
pub prepend_more : (a b c : Option (List ℕ)) (xs ys : List ℕ) → a ≡ prepend_known xs b → b ≡ prepend_known ys c → a ≡ prepend_known (xs ++ ys) c
prepend_more a b None xs ys first next = first ∙ ap (prepend_known xs) next
prepend_more a b (Some zs) xs ys first next =
    first ∙ ap (prepend_known xs) next ∙ ap (λ (l : List ℕ). Some l) (sym (append_assoc xs ys zs))

-- one piece was put, then another
pub append_more : (a b c : Option (List ℕ)) (xs ys : List ℕ) → b ≡ append_known a xs → c ≡ append_known b ys → c ≡ append_known a (xs ++ ys)
append_more None b c xs ys first next = next ∙ ap (λ (o : Option (List ℕ)). append_known o ys) first
append_more (Some zs) b c xs ys first next =
    next ∙ ap (λ (o : Option (List ℕ)). append_known o ys) first ∙ ap (λ (l : List ℕ). Some l) (append_assoc zs xs ys)

-- the front of a list was put, then the front of a piece of what follows
pub append_front : (a b c : Option (List ℕ)) (l : List ℕ) (at m k : ℕ) → b ≡ append_known a (take at l)
    → c ≡ append_known b (take k (take m (drop at l))) → k ≤ m → c ≡ append_known a (take (at + k) l)
append_front a b c l at m k first next within =
    let whole : c ≡ append_known a (take at l ++ take k (take m (drop at l))) = append_more a b c _ _ first next in
    let cut : take k (take m (drop at l)) ≡ take k (drop at l) = take-take k m (drop at l) within in
    whole ∙ ap (λ (piece : List ℕ). append_known a (take at l ++ piece)) cut ∙ ap (append_known a) (sym (take-add at k l))

-- the front of a list was put, then what stands from there to an end
pub append_piece : (a b c : Option (List ℕ)) (l : List ℕ) (at end : ℕ) → b ≡ append_known a (take at l)
    → c ≡ append_known b (take (end - at) (drop at l)) → at ≤ end → c ≡ append_known a (take end l)
append_piece a b c l at end first next within =
    let whole : c ≡ append_known a (take at l ++ take (end - at) (drop at l)) = append_more a b c _ _ first next in
    let to_end : at + (end - at) ≡ end = omega arith in
    whole ∙ ap (append_known a) (sym (take-add at (end - at) l)) ∙ ap (λ (n : ℕ). append_known a (take n l)) to_end

-- a count that rose in the last call has risen since the first
pub Rose_since : (a b c : ℕ) → a ≤ b → Rose b c → Rose a c
Rose_since a b c before (inl rose) = inl (omega arith)
Rose_since a b c before (inr end) = inr end

-- what a sink holds and what is still to come is the same after a piece of that was put
pub held_on : (a b c : Option (List ℕ)) (whole l : List ℕ) (at m k : ℕ) → append_known b (drop at l) ≡ append_known a whole
    → c ≡ append_known b (take k (take m (drop at l))) → k ≤ m → append_known c (drop (at + k) l) ≡ append_known a whole
held_on a b c whole l at m k before next within =
    let cut : take k (take m (drop at l)) ≡ take k (drop at l) = take-take k m (drop at l) within in
    let piece : c ≡ append_known b (take k (drop at l)) = next ∙ ap (append_known b) cut in
    let joined : take k (drop at l) ++ drop (at + k) l ≡ drop at l = ap (λ (r : List ℕ). take k (drop at l) ++ r) (sym (drop-drop k at l)) ∙ take-append-drop k (drop at l) in
    append_more b c (append_known c (drop (at + k) l)) (take k (drop at l)) (drop (at + k) l) piece refl ∙ ap (append_known b) joined ∙ before

-- where nothing waits, a piece that goes through is the last that is held
pub put_through : (a b : Option (List ℕ)) (w piece : List ℕ) → w ≡ [] → b ≡ append_known a piece → append_known b w ≡ append_known (append_known a w) piece
put_through a b w piece none put =
    ap (append_known b) none ∙ sym (append_none b b refl) ∙ put ∙ ap (λ (o : Option (List ℕ)). append_known o piece) (append_none a a refl) ∙ ap (λ (l : List ℕ). append_known (append_known a l) piece) (sym none)
