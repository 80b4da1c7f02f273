-- Sizes of packets: the extension headers take 48 bytes at most.
use Rattle.std.proofs.Common.{◌≡◌, ℕ, ◌<◌, ◌≤◌, List, length, take, sym, arith}
use Rattle.std.proofs.lemmas.List.{take_all}
use Rattle.std.specs.Prelude.{Option, Some, None}
use Rattle.mip_words.specs.declared.address.Address.{Address}
use Rattle.mip_ipv6.specs.declared.head.Head.{Head}
use Rattle.mip_ipv6.specs.Spelling.{behind_bytes, routing_bytes, options_bytes, second_number}
use Rattle.mip_ipv6.proofs.Canonical.{length_routing, length_options, length_behind}

small_routing : (route : Option Address) (next : ℕ) → length (routing_bytes route next) ≤ 24
small_routing None next = omega (arith, length_routing None next)
small_routing (Some address) next = omega (arith, length_routing (Some address) next)

small_options : (home : Option Address) (next : ℕ) → length (options_bytes home next) ≤ 24
small_options None next = omega (arith, length_options None next)
small_options (Some address) next = omega (arith, length_options (Some address) next)

pub not_too_big : (head : Head) (body : List ℕ) → length body ≤ 2048 → 65535 < length (behind_bytes (record { head = head; body = body })) → ⊥
not_too_big head body short long =
    omega (
      arith,
      length_behind (record { head = head; body = body }),
      small_routing head.route (second_number head.home head.proto),
      small_options head.home head.proto,
    )

pub whole_if_short : (n : ℕ) (bytes : List ℕ) → length bytes ≤ n → bytes ≡ take n bytes
whole_if_short n bytes short = sym (take_all n bytes short)
