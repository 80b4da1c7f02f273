-- The agents that a reply names.
use Rattle.std.proofs.Common.{◌≡◌, ℕ, zero, suc, ◌+◌, ◌*◌, List, [], ◌∷◌, ◌++◌, drop, refl, sym, ap, ◌∙◌, arith}
use Rattle.std.specs.Prelude.{Option, Some, None}
use Rattle.std.proofs.lemmas.List.{drop-drop}
use Rattle.mip_words.specs.Numbers.{number_at}
use Rattle.mip_words.specs.Addresses.{address_at}
use Rattle.mip_words.specs.declared.address.Address.{Address}
use Rattle.mip_entries.proofs.TransitionLaws.{noted_all-is}
use Rattle.mip_rules_mobile.specs.DiscoveryQuestions.{next_found}
use Rattle.mip_rules_mobile.specs.Known.{Known}
use Rattle.mip_rules_mobile.specs.Questions.{after}
use Rattle.mip_rules_mobile.specs.Steps.{Finds, Stops}
use Rattle.mip_rules_mobile.specs.TimerQuestions.{seeking}
use Rattle.mip_rules_mobile.specs.IcmpRules.{addresses_of}
use Rattle.mip_rules_mobile.specs.Transitions.{Transition, noted}

-- the address behind so many bytes
address-behind : (n : ℕ) (bytes : List ℕ) → address_at 0 (drop n bytes) ≡ address_at n bytes
unfolding number_at
address-behind n bytes = refl

address-further : (n m : ℕ) (bytes : List ℕ) → address_at m (drop n bytes) ≡ address_at (n + m) bytes
address-further n m bytes =
    sym (address-behind m (drop n bytes)) ∙ ap (λ (b : List ℕ). address_at 0 b) (drop-drop m n bytes) ∙ address-behind (n + m) bytes

addresses-more : (n : ℕ) (bytes : List ℕ) → addresses_of (suc n) bytes ≡ addresses_of n bytes ++ address_at (16 * n) bytes ∷ []
addresses-more zero bytes = refl
addresses-more (suc n) bytes =
    let e : 16 + 16 * n ≡ 16 * suc n = omega arith in
    ap (λ (l : List Address). address_at 0 bytes ∷ l) (addresses-more n (drop 16 bytes))
    ∙ ap (λ (a : Address). address_at 0 bytes ∷ (addresses_of n (drop 16 bytes) ++ a ∷ []))
    (address-further 16 (16 * n) bytes ∙ ap (λ (k : ℕ). address_at k bytes) e)

pub addresses_next : (n : ℕ) (bytes : List ℕ) → addresses_of (n + 1) bytes ≡ addresses_of n bytes ++ address_at (16 * n) bytes ∷ []
addresses_next n bytes = let more : n + 1 ≡ suc n = omega arith in ap (λ (k : ℕ). addresses_of k bytes) more ∙ addresses-more n bytes

-- the first agent that was named is the next one to be tried
found-first : (first : Address) (others : List Address) (t : Transition) → next_found (noted (Stops seeking) (noted (Finds (first ∷ others)) t)).known ≡ Some first
unfolding after
found-first first others t = ap (λ (u : Transition). next_found u.known) (noted_all-is after (Finds (first ∷ others) ∷ Stops seeking ∷ []) t)

pub first-found : (first : Address) (others agents : List Address) (t : Transition) (k : Known) (o : Option Address) → agents ≡ first ∷ others
    → (noted (Stops seeking) (noted (Finds agents) t)).known ≡ k → o ≡ next_found k → o ≡ Some first
first-found first others agents t k o is known found =
    found ∙ ap (λ (l : Known). next_found l) (sym known)
    ∙ ap (λ (l : List Address). next_found (noted (Stops seeking) (noted (Finds l) t)).known) is
    ∙ found-first first others t

pub same_first : (a b : Address) → Some a ≡ Some b → a ≡ b
same_first a b is = cc

pub not-none : (a : Address) (P : Type 0) → None ≡ Some a → P
not-none a P is = absurd cc
