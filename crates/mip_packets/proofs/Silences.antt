-- A message of another type than those of tests and updates says nothing.
use Rattle.std.proofs.Common.{◌≡◌, List, ℕ, refl, ap, ◌∙◌}
use Rattle.std.specs.Prelude.{false, ◌==◌, Option, None, Result, Ok, Err, slice_index}
use Rattle.std.specs.Option.{option_map_or}
use Rattle.std.specs.Result.{result_ok}
use Rattle.std.proofs.lemmas.Bool.{cond_both}
use Rattle.mip_words.specs.declared.address.Address.{Address}
use Rattle.mip_ipv6.specs.Packet.{Packet, source_of, destination_of}
use Rattle.mip_mobhdr.specs.declared.fault.Fault.{Fault}
use Rattle.mip_mobhdr.specs.Said.{Said}
use Rattle.mip_mobhdr.specs.Said.Said.{Refresh, HomeInit, CareofInit, HomeTest, CareofTest, Update, Acknowledgement, Error}
use Rattle.mip_mobhdr.specs.Spelling.{type_of}
use Rattle.mip_mobhdr.specs.Reading.{message_of}
use Rattle.mip_packets.specs.Says.{Other, is_telling, said_by, says}
use Rattle.mip_packets.proofs.WrittenMessages.{message_reads}

said_none : (source home destination : Address) (body : List ℕ) (m : Said) → is_telling (type_of m) ≡ false → said_by source home destination body m ≡ Other
said_none source home destination body (Refresh o) other = refl
said_none source home destination body (HomeInit c o) other = refl
said_none source home destination body (CareofInit c o) other = refl
said_none source home destination body (HomeTest i c t o) other = absurd cc
said_none source home destination body (CareofTest i c t o) other = absurd cc
said_none source home destination body (Update s a h l k t o) other = absurd cc
said_none source home destination body (Acknowledgement s k q t o) other = refl
said_none source home destination body (Error s h o) other = refl

pub silent : (p : Packet) → is_telling (slice_index p.body 2) ≡ false → says p ≡ Other
unfolding says
silent p other =
    cond_both (p.head.proto == 135) (result_ok (message_of (source_of p.head) (destination_of p.head) p.body)) None
    (λ (o : Option Said). option_map_or (said_by p.head.source (source_of p.head) p.head.destination p.body) o Other ≡ Other)
    (λ _. by (message_of (source_of p.head) (destination_of p.head) p.body) refl) (λ _. refl)
  where
    by : (r : Result Said Fault) → message_of (source_of p.head) (destination_of p.head) p.body ≡ r
        → option_map_or (said_by p.head.source (source_of p.head) p.head.destination p.body) (result_ok r) Other ≡ Other
    by (Err fault) e = refl
    by (Ok m) e =
        let reads = message_reads (source_of p.head) (destination_of p.head) p.body m e in
        said_none p.head.source (source_of p.head) p.head.destination p.body m (ap is_telling reads.type_is ∙ other)
