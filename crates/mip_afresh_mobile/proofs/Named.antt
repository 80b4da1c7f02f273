-- The addresses that a reply names, from the first one on.
use Rattle.std.proofs.Common.{◌≡◌, ℕ, suc, ◌-◌, ◌/◌, ◌<◌, ◌≤◌, List, [], ◌∷◌, length, ap, arith}
use Rattle.std.specs.Prelude.{drop}
use Rattle.std.proofs.lemmas.List.{length-drop}
use Rattle.mip_words.specs.Addresses.{address_at}
use Rattle.mip_rules_mobile.specs.IcmpRules.{addresses_of, agents_named}

one-more : (n m : ℕ) → 16 ≤ n → m ≡ n - 16 → n / 16 ≡ suc (m / 16)
one-more n m long is = omega (arith, long, is)

none-more : (n : ℕ) → n < 16 → n / 16 ≡ 0
none-more n short = omega (arith, short)

pub named-next : (bytes : List ℕ) → 16 ≤ length bytes → agents_named bytes ≡ address_at 0 bytes ∷ agents_named (drop 16 bytes)
named-next bytes long = ap (λ (n : ℕ). addresses_of n bytes) (one-more (length bytes) (length (drop 16 bytes)) long (length-drop 16 bytes))

pub named-none : (bytes : List ℕ) → length bytes < 16 → agents_named bytes ≡ []
named-none bytes short = ap (λ (n : ℕ). addresses_of n bytes) (none-more (length bytes) short)
