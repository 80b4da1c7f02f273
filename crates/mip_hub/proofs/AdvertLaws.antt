-- An advertisement is short.
use Rattle.std.proofs.Common.{◌≡◌, ℕ, ◌≤◌, List, length, ap, arith}
use Rattle.std.specs.Prelude.{Bool, Result, Ok, Err, IfOk}
use Rattle.mip_words.specs.Addresses.{all_nodes}
use Rattle.mip_words.specs.Numbers.{number_bytes}
use Rattle.mip_words.specs.declared.memory.Memory.{Memory}
use Rattle.mip_words.specs.declared.prefix.Prefix.{Prefix}
use Rattle.mip_ipv6.specs.Sum.{checksum_of}
use Rattle.mip_ipv6.proofs.Sums.{length-with_number_at}
use Rattle.mip_icmp.specs.Spelling.{icmp_bytes, unsummed, set_bytes}
use Rattle.mip_icmp.proofs.Canonical.{unsummed_long}
use Rattle.mip_hub.specs.Adverts.{router, router_said}

unsummed_short : (prefix : Prefix) (agent : Bool) → length (unsummed (router_said prefix agent)) ≤ 64
unfolding unsummed set_bytes number_bytes
unsummed_short prefix agent = omega arith

body_short : (prefix : Prefix) (agent : Bool) → length (icmp_bytes router all_nodes (router_said prefix agent)) ≤ 2048
unfolding icmp_bytes
body_short prefix agent =
    let said = unsummed (router_said prefix agent) in
    let long = unsummed_long (router_said prefix agent) in
    omega (arith, length-with_number_at 2 (checksum_of router all_nodes 58 said 2) said (omega (arith, long)), unsummed_short prefix agent)

pub short_if : (prefix : Prefix) (agent : Bool) (r : Result (List ℕ) Memory) → IfOk r (λ b. b ≡ icmp_bytes router all_nodes (router_said prefix agent)) → IfOk r (λ b. length b ≤ 2048)
short_if prefix agent (Ok b) e = let same = ap (λ (l : List ℕ). length l) e in omega (arith, same, body_short prefix agent)
short_if prefix agent (Err m) e = tt
