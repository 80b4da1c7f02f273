-- The packets that go back to the source of a refused packet. RFC 6275 sections 9.2 and 9.3.3
use Rattle.std.specs.Prelude.{ℕ, List, Option, Some, None}
use Rattle.mip_words.specs.declared.address.Address.{Address}
use Rattle.mip_packets.specs.Packets.{problem_packet}
use Rattle.mip_packets.specs.Messages.{error_packet}
use Rattle.mip_reception.specs.declared.reply.Reply.{Reply}
use Rattle.mip_reception.specs.declared.reply.Reply.TheVariants.{Nothing, BindingError, ParameterProblem}

-- from this node to the source of the packet
unfoldable pub reply_packet : (own source : Address) (packet : List ℕ) → Reply → Option (List ℕ)
reply_packet own source packet Nothing = None
reply_packet own source packet (BindingError status home) = Some (error_packet own source status home)
reply_packet own source packet (ParameterProblem pointer) = Some (problem_packet own source pointer packet)
