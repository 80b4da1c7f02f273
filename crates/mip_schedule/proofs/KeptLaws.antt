-- An address, and few bytes, that are kept in place.
use Rattle.std.proofs.Common.{◌≡◌, ℕ, ◌<◌, ◌^◌, List, [], ◌++◌, length, take, refl, sym, ap, ◌∙◌}
use Rattle.std.proofs.lemmas.List.{append-nil, take_at}
use Rattle.mip_words.specs.Numbers.{number_at}
use Rattle.mip_words.specs.Addresses.{address_at, address_bytes}
use Rattle.mip_words.specs.declared.address.Address.{Address}
use Rattle.mip_words.proofs.Fields.{number_at-number_bytes}

-- the address in its own bytes
pub address_again : (a : Address) → a.0 < 2 ^ 128 → address_at 0 (address_bytes a) ≡ a
address_again a small =
    let value : number_at 16 0 (address_bytes a) ≡ a.0 = ap (number_at 16 0) (sym (append-nil (address_bytes a))) ∙ number_at-number_bytes 16 a.0 [] small in
    ap (λ (n : ℕ). record { 0 = n }) value

-- the front of a room is what was put there
pub few_front : (bytes rest : List ℕ) → take (length bytes) (bytes ++ rest) ≡ bytes
few_front bytes rest = take_at bytes rest (length bytes) refl
