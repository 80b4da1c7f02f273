-- A prefix advertisement is short.
use Rattle.std.proofs.Common.{◌≡◌, ℕ, ◌≤◌, List, [], ◌∷◌, ◌++◌, length, arith, length-append, ap}
use Rattle.mip_words.specs.Numbers.{number_bytes}
use Rattle.mip_words.specs.declared.address.Address.{Address}
use Rattle.mip_words.specs.Addresses.{address_bytes}
use Rattle.mip_words.proofs.Fields.{length-number_bytes}
use Rattle.mip_icmp.specs.Spelling.{unsummed, icmp_bytes, set_bytes, prefix_bytes}
use Rattle.mip_ipv6.proofs.Sums.{length-with_number_at}
use Rattle.mip_ipv6.specs.Sum.{checksum_of}
use Rattle.mip_rules_agent.specs.Messages.{prefix_set, prefix_said}

set_size : (own : Address) (valid preferred : ℕ) → length (set_bytes (prefix_set own valid preferred)) ≡ 32
unfolding set_bytes
set_size own valid preferred =
    let tail : List ℕ = 0 ∷ 0 ∷ 0 ∷ 0 ∷ address_bytes own in
    omega (
      arith,
      length-append (number_bytes 4 valid) (number_bytes 4 preferred ++ tail),
      length-append (number_bytes 4 preferred) tail,
      length-append (prefix_bytes (prefix_set own valid preferred).prefix) [],
      length-number_bytes 4 valid,
      length-number_bytes 4 preferred,
      length-number_bytes 16 own.0,
    )

prefix_size : (own : Address) (identifier valid preferred : ℕ) → length (unsummed (prefix_said own identifier valid preferred)) ≡ 40
unfolding unsummed
prefix_size own identifier valid preferred =
    omega (
      arith,
      length-append (number_bytes 2 identifier) (0 ∷ 0 ∷ set_bytes (prefix_set own valid preferred)),
      length-number_bytes 2 identifier,
      set_size own valid preferred,
    )

pub prefix_short : (own home : Address) (identifier valid preferred : ℕ) (b : List ℕ) → b ≡ icmp_bytes own home (prefix_said own identifier valid preferred) → length b ≤ 2048
unfolding icmp_bytes
prefix_short own home identifier valid preferred b e =
    let said = prefix_said own identifier valid preferred in
    let size = prefix_size own identifier valid preferred in
    let same = ap (λ (l : List ℕ). length l) e in
    let whole = length-with_number_at 2 (checksum_of own home 58 (unsummed said) 2) (unsummed said) (omega (arith, size)) in
    omega (arith, size, same, whole)
