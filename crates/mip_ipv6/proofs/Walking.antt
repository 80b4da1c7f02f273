-- A walk over options, option by option.
use Rattle.std.proofs.Common.{◌≡◌, ℕ, zero, suc, ◌<◌, ◌≤◌, List, [], ◌∷◌, length, drop, get_or, refl, arith}
use Rattle.std.specs.Prelude.{Option, Ok, Err}
use Rattle.mip_words.specs.declared.address.Address.{Address}
use Rattle.mip_ipv6.specs.declared.not_packet.NotPacket.{NotPacket}
use Rattle.mip_ipv6.specs.Reading.{option_at, options_after}

-- bytes that are skipped may as well be dropped
pub options_after_skip : (n : ℕ) (home : Option Address) (bytes : List ℕ) → n ≤ length bytes → options_after n home bytes ≡ options_after 0 home (drop n bytes)
unfolding options_after
options_after_skip zero home bytes inside = refl
options_after_skip (suc n) home [] inside = absurd (omega (arith, inside))
options_after_skip (suc n) home (b ∷ rest) inside = options_after_skip n home rest (omega (arith, inside))

-- an option was read: the walk goes on behind it
pub goes_on : (home found : Option Address) (size : ℕ) (bytes : List ℕ) → 0 < length bytes → size ≤ length (drop 1 bytes) → option_at (get_or bytes 0 0) home (drop 1 bytes) ≡ Ok (found, size) → options_after 0 home bytes ≡ options_after 0 found (drop size (drop 1 bytes))
unfolding options_after
goes_on home found size [] filled inside e = absurd (omega (arith, filled))
goes_on home found size (type ∷ rest) filled inside e = rw e (options_after_skip size found rest inside)

-- a byte of Pad1: the walk goes on behind it
pub passes_pad : (home : Option Address) (bytes : List ℕ) → 0 < length bytes → get_or bytes 0 0 ≡ 0 → options_after 0 home bytes ≡ options_after 0 home (drop 1 bytes)
unfolding options_after option_at
passes_pad home [] filled pad = absurd (omega (arith, filled))
passes_pad home (type ∷ rest) filled pad = rw pad refl

-- an option was refused: so is the whole
pub stops : (home : Option Address) (fault : NotPacket) (bytes : List ℕ) → 0 < length bytes → option_at (get_or bytes 0 0) home (drop 1 bytes) ≡ Err fault → options_after 0 home bytes ≡ Err fault
unfolding options_after
stops home fault [] filled e = absurd (omega (arith, filled))
stops home fault (type ∷ rest) filled e = rw e refl

-- no byte is left
pub is_done : (home : Option Address) (bytes : List ℕ) → length bytes ≡ 0 → options_after 0 home bytes ≡ Ok home
unfolding options_after
is_done home [] e = refl
is_done home (b ∷ bytes) e = absurd (omega (arith, e))
