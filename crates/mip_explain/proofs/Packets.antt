-- What is known of a packet that was read, and of one that was refused.
use Rattle.std.proofs.Common.{◌≡◌, ℕ, List, Result, Ok, Err}
use Rattle.std.specs.Prelude.{◌↔◌}
use Rattle.mip_words.specs.Steps.{◌>>=◌}
use Rattle.mip_ipv6.specs.declared.not_packet.NotPacket.{NotPacket}
use Rattle.mip_ipv6.specs.Packet.{Packet}
use Rattle.mip_ipv6.specs.Reading.{packet_of}
use Rattle.mip_explain.specs.declared.fault.ExplainFault.{ExplainFault}
use Rattle.mip_explain.specs.declared.fault.ExplainFault.TheVariants as faults
use Rattle.mip_explain.specs.Listing.{packet_lines, listing_of, Explains}

refused_by : (r : Result (List ℕ) ExplainFault) (read : Result Packet NotPacket) → Explains r (read >>= λ p. Ok (packet_lines p)) → (n : NotPacket) → (r ≡ Err (faults.NotPacket n)) ↔ (read ≡ Err n)
refused_by (Ok b) (Ok p) e n = (λ h. absurd cc, λ h. absurd cc)
refused_by (Ok b) (Err k) e n = absurd cc
refused_by (Err (faults.NotPacket m)) (Ok p) e n = absurd cc
refused_by (Err (faults.NotPacket m)) (Err k) e n = (λ h. cc, λ h. cc)
refused_by (Err faults.Memory) (Ok p) e n = (λ h. absurd cc, λ h. absurd cc)
refused_by (Err faults.Memory) (Err k) e n = absurd cc

-- an answer by the listing refuses exactly what the reader refuses
pub is_refused : (r : Result (List ℕ) ExplainFault) (bytes : List ℕ) → Explains r (listing_of bytes) → (n : NotPacket) → (r ≡ Err (faults.NotPacket n)) ↔ (packet_of bytes ≡ Err n)
unfolding listing_of
is_refused r bytes e = refused_by r (packet_of bytes) e
