-- What a call tells that lists a packet.
use Rattle.std.specs.Prelude.{◌≡◌, ℕ, List, Result, Ok, Err}
use Rattle.mip_ipv6.specs.declared.not_packet.NotPacket.{NotPacket}
use Rattle.mip_c_words.specs.Giving.{Keeps, Writes}
use Rattle.mip_c.specs.Packets.{refusal_status}

-- the listing, or why there is none
abbrev pub TellsListing : Result (List ℕ) NotPacket → ℕ → List ℕ → List ℕ → ℕ → ℕ → Type 0
TellsListing (Ok listing) status old new size_old size_new = Writes listing status old new size_old size_new
TellsListing (Err refusal) status old new size_old size_new =
    (status ≡ refusal_status 16 refusal) × Keeps old new size_old size_new
