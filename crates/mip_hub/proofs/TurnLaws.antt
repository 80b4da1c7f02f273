-- What a turn receives.
use Rattle.std.proofs.Common.{◌≡◌, ℕ, List, [], ◌∷◌, length, take, refl, sym, ap, ◌∙◌, subst, arith}
use Rattle.std.specs.Prelude.{Option, Some, None, IfSome, Result, min}
use Rattle.std.proofs.lemmas.List.{take_min}
use Rattle.mip_outside.specs.Datagrams.{IsReceived}
use Rattle.mip_outside.specs.declared.put_fault.PutFault.{PutFault}
use Rattle.mip_hub.specs.Calls.{Call, Receives, LinkState, made_on, Goes}
use Rattle.mip_hub.specs.Served.{next_in, IsSeen}
use Rattle.mip_hub.specs.Turns.{Seen}
use Rattle.mip_hub.proofs.CallLaws.{goes_on}

-- what would be received next
abbrev pub next_of : Option (List (Option (List ℕ))) → Seen
next_of None = None
next_of (Some items) = next_in items

pub next_seen : (coming : Option (List (Option (List ℕ)))) → IsSeen coming (next_of coming)
next_seen None = tt
next_seen (Some items) = refl

cut_to : (n room : ℕ) (into x : List ℕ) → room ≡ 4097 → n ≡ min (length x) room → take n into ≡ take n x → take n into ≡ take 4097 x
cut_to n room into x long is same =
    let least : n ≡ min 4097 (length x) = omega (arith, long, is) in
    same ∙ ap (λ (m : ℕ). take m x) least ∙ take_min 4097 x

some_is : {A : Type 0} (x y : A) → Some x ≡ Some y → x ≡ y
some_is x y e = cc

-- a datagram came
pub some_seen : (coming : Option (List (Option (List ℕ)))) (n : ℕ) (into datagram : List ℕ) → length into ≡ 4097 → datagram ≡ take n into
    → IfSome coming (λ items. IsReceived items (Some n) into) → IsSeen coming (Some datagram)
some_seen None n into datagram long is came = tt
some_seen (Some []) n into datagram long is came = absurd cc
some_seen (Some (None ∷ items)) n into datagram long is came = absurd cc
some_seen (Some (Some x ∷ items)) n into datagram long is came =
    let same : n ≡ min (length x) (length into) = some_is _ _ came.0 in
    ap (λ (d : List ℕ). Some d) (is ∙ cut_to n (length into) into x long same (subst (λ (m : ℕ). take m into ≡ take m x) (sym same) came.1))

-- nothing came
pub none_seen : (coming : Option (List (Option (List ℕ)))) (into : List ℕ) → IfSome coming (λ items. IsReceived items None into) → IsSeen coming None
none_seen None into came = tt
none_seen (Some []) into came = refl
none_seen (Some (None ∷ items)) into came = refl
none_seen (Some (Some x ∷ items)) into came = absurd (let e = came.0 in cc)

-- what was received is passed on
pub heard : {U : Type 0} (calls : List Call) (r : Result U PutFault) (before mid after : LinkState) → mid ≡ made_on (Receives ∷ []) before → Goes calls r mid after → Goes (Receives ∷ calls) r before after
heard calls r before mid after e goes = goes_on (Receives ∷ []) calls r before mid after e goes
