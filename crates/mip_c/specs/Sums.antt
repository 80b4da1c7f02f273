-- What a call tells that makes a checksum.
use Rattle.std.specs.Prelude.{◌≡◌, ℕ, ◌+◌, ◌%◌, List, length, Bool, true, false, not, ◌&&◌, ◌==◌, nat_lt}
use Rattle.mip_words.specs.declared.address.Address.{Address}
use Rattle.mip_ipv6.specs.Sum.{checksum_of}

-- an even place of two bytes in a body that a packet can have
abbrev pub has_place : ℕ → List ℕ → Bool
has_place at body = not (nat_lt 65535 (length body)) && (at % 2 == 0) && not (nat_lt (length body) (at + 2))

abbrev pub TellsSumIf : Bool → ℕ → ℕ → ℕ → ℕ → Type 0
TellsSumIf true sum status old new = (status ≡ 0) × (new ≡ sum)
TellsSumIf false sum status old new = (status ≡ 14) × (new ≡ old)

abbrev pub TellsSum : Address → Address → ℕ → List ℕ → ℕ → ℕ → ℕ → ℕ → Type 0
TellsSum source destination proto body at status old new =
    TellsSumIf (has_place at body) (checksum_of source destination proto body at) status old new
