-- Laws and invariants of OptionValues: only proofs stand on them.
use Rattle.std.specs.Prelude.{◌≡◌, ℕ, ◌^◌, ◌<◌, List, length, Some}
use Rattle.mip_words.specs.declared.address.Address.{Address}
use Rattle.mip_mobhdr.specs.declared.indices.Indices.{Indices}
use Rattle.mip_mobhdr.specs.OptionValues.{Values}

-- each number fits its field
pub record IsInRange (v : Values) : Type 0 where
  pub advice_fits : (units : ℕ) → v.advice ≡ Some units → units < 2 ^ 16
  pub alternate_fits : (address : Address) → v.alternate ≡ Some address → address.0 < 2 ^ 128
  pub nonces_fit : (i : Indices) → v.nonces ≡ Some i → (i.home < 2 ^ 16) × (i.careof < 2 ^ 16)
  pub number_fits : (n : ℕ) → v.number ≡ Some n → n < 8
  pub authorization_fits : (bytes : List ℕ) → v.authorization ≡ Some bytes → length bytes ≡ 12
