-- What a call of a correspondent asks for.
use Rattle.std.specs.Prelude.{◌≤◌, ◌<◌, ◌^◌, ℕ, List, length, IsTrue, IsFalse}
use Rattle.mip_ipv6.specs.declared.packet_ref.PacketRef.{PacketRef}
use Rattle.mip_ipv6.specs.Packet.{packet as tree, is_routable_if_any, names_no_body}
use Rattle.mip_packets.specs.Says.{message_in}
use Rattle.mip_rules_correspondent.specs.Rules.{is_data, is_for_part}

-- its moment is no earlier than the last, and small
pub record IsTimely (last now : ℕ) : Type 0 where
  pub later : last ≤ now
  pub early : now < 2 ^ 62

-- a packet of the correspondent part of a node: a test init, an update or data, whose home may stand in a routing header
pub record IsOfPart (p : PacketRef) : Type 0 where
  pub kind : IsTrue (is_for_part p.head.proto (message_in (tree p)))
  pub plain : IsTrue (is_routable_if_any p.head.home)

-- data that can be sent: of a protocol that carries data, with a body, and short
pub record IsSendable (protocol : ℕ) (payload : List ℕ) : Type 0 where
  pub kind : IsTrue (is_data protocol)
  pub proto : IsFalse (names_no_body protocol)
  pub short : length payload ≤ 512
