-- What is known of the packet in which no further packet stands.
use Rattle.std.proofs.Common.{◌≡◌, ℕ, zero, suc, ◌+◌, ◌-◌, ◌<◌, ◌≤◌, List, [], ◌∷◌, length, drop, refl, sym, ap, ◌∙◌, arith, length-drop, cond}
use Rattle.std.specs.Prelude.{◌==◌, Option, Some, None, Result, Ok, Err}
use Rattle.mip_ipv6.specs.declared.not_packet.NotPacket.{NotPacket}
use Rattle.mip_ipv6.specs.Packet.{Packet}
use Rattle.mip_ipv6.specs.Reading.{packet_of}
use Rattle.mip_ipv6.proofs.Packets.{Stands, read_stands}
use Rattle.mip_packets.specs.Says.{follow, innermost_after, innermost}

-- the innermost packet of a packet that was read
abbrev pub within : Packet → Option Packet
within p = cond (p.head.proto == 41) (innermost p.body) (Some p)

abbrev pub within_if_read : Result Packet NotPacket → Option Packet
within_if_read (Ok p) = within p
within_if_read (Err fault) = None

-- bytes that are skipped may as well be dropped
innermost_after_skip : (n : ℕ) (bytes : List ℕ) → n ≤ length bytes → innermost_after n bytes ≡ innermost_after 0 (drop n bytes)
unfolding innermost_after
innermost_after_skip zero bytes inside = refl
innermost_after_skip (suc n) [] inside = absurd (omega (arith, inside))
innermost_after_skip (suc n) (b ∷ rest) inside = innermost_after_skip n rest (omega (arith, inside))

-- a body at the end of the bytes is what is left behind the bytes in front of it
body_left : (b : ℕ) (rest body : List ℕ) → Stands body (b ∷ rest) → innermost_after (length rest - length body) rest ≡ innermost body
unfolding innermost
body_left b rest body s =
    let long : 40 + length body ≤ length (b ∷ rest) = s.long in
    let at : length (b ∷ rest) - length body ≡ suc (length rest - length body) = omega (arith, long) in
    let there : body ≡ drop (length rest - length body) rest = s.there ∙ ap (λ (n : ℕ). drop n (b ∷ rest)) at in
    innermost_after_skip (length rest - length body) rest (omega arith)
    ∙ ap (λ (l : List ℕ). innermost_after 0 l) (sym there)

no_bytes : (body : List ℕ) → Stands body [] → ⊥
no_bytes body s = let long : 40 + length body ≤ 0 = s.long in omega (arith, long)

-- one packet further in
pub innermost_is : (bytes : List ℕ) → innermost bytes ≡ within_if_read (packet_of bytes)
unfolding innermost innermost_after
innermost_is [] = none (packet_of []) refl
  where
    none : (r : Result Packet NotPacket) → packet_of [] ≡ r → None ≡ within_if_read r
    none (Ok p) e = absurd (no_bytes p.body (read_stands p [] e))
    none (Err fault) e = refl
innermost_is (b ∷ rest) = some (packet_of (b ∷ rest)) refl
  where
    some : (r : Result Packet NotPacket) → packet_of (b ∷ rest) ≡ r → follow r (length rest) (λ n. innermost_after n rest) ≡ within_if_read r
    some (Ok p) e = ap (λ (o : Option Packet). cond (p.head.proto == 41) o (Some p)) (body_left b rest p.body (read_stands p (b ∷ rest) e))
    some (Err fault) e = refl

-- the body of a packet at its place is shorter than the bytes
pub shorter : (place : ℕ) (body bytes : List ℕ) → 40 ≤ place → place ≤ length bytes → body ≡ drop place bytes → length body < length bytes
shorter place body bytes behind inside e = omega (arith, ap length e, length-drop place bytes)
