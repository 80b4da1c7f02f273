-- The words of a listing for what was refused, and for the kinds of messages.
use Rattle.std.specs.Prelude.{ℕ, List, codes}
use Rattle.mip_ipv6.specs.declared.not_packet.NotPacket.{NotPacket}
use Rattle.mip_ipv6.specs.declared.not_packet.NotPacket.TheVariants as refusals
use Rattle.mip_mobhdr.specs.declared.fault.Fault.{Fault}
use Rattle.mip_mobhdr.specs.declared.fault.Fault.TheVariants as faults
use Rattle.mip_mobhdr.specs.Said as said

-- why bytes are no packet
abbrev pub refusal_word : NotPacket → List ℕ
refusal_word refusals.Short = codes "short"
refusal_word refusals.Version = codes "version"
refusal_word refusals.Length = codes "length"
refusal_word (refusals.Header number) = codes "header"
refusal_word refusals.Route = codes "route"
refusal_word (refusals.Option type) = codes "option"

-- why a mobility message is refused
abbrev pub fault_word : Fault → List ℕ
fault_word faults.Size = codes "size"
fault_word faults.Checksum = codes "checksum"
fault_word (faults.Unknown type) = codes "type"
fault_word faults.Proto = codes "proto"
fault_word faults.HeaderLen = codes "headerlen"
fault_word (faults.Option place) = codes "moption"

-- the kind of a mobility message
abbrev pub message_word : said.Said → List ℕ
message_word (said.Refresh o) = codes "brr"
message_word (said.HomeInit c o) = codes "hoti"
message_word (said.CareofInit c o) = codes "coti"
message_word (said.HomeTest i c t o) = codes "hot"
message_word (said.CareofTest i c t o) = codes "cot"
message_word (said.Update q a h l k t o) = codes "bu"
message_word (said.Acknowledgement s k q t o) = codes "ba"
message_word (said.Error s h o) = codes "be"
