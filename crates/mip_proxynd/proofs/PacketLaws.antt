-- A neighbour message fits a packet.
use Rattle.std.proofs.Common.{ℕ, ◌<◌, ◌≤◌, List, length, arith}
use Rattle.mip_words.specs.declared.address.Address.{Address}
use Rattle.mip_ipv6.specs.Spelling.{behind_bytes, routing_bytes, options_bytes}
use Rattle.mip_proxynd.specs.Packets.{near_head}

pub not_too_big : (source destination : Address) (body : List ℕ) → length body ≤ 65535 → 65535 < length (behind_bytes (record { head = near_head source destination; body = body })) → ⊥
unfolding behind_bytes routing_bytes options_bytes
not_too_big source destination body short long = omega (arith, short, long)
