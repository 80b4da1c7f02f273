-- What a call registers: the update in the packet that was handed over, at once, with the verdict Accept.
use Rattle.std.specs.Prelude.{◌≡◌, ℕ, List, Some, Ok, slice_index}
use Rattle.mip_ipv6.specs.Packet.{Packet}
use Rattle.mip_ipv6.specs.Reading.{packet_of}
use Rattle.mip_reception.specs.declared.registration.Registration.{Registration}
use Rattle.mip_reception.specs.Registrations.{registration_in}

-- the packet has this update, a message of type 5
pub record IsUpdateIn (bytes : List ℕ) (update : Registration) : Type 0 where
  pub packet : Packet
  pub read : packet_of bytes ≡ Ok packet
  pub mobility : packet.head.proto ≡ 135
  pub of_type : slice_index packet.body 2 ≡ 5
  pub asks : registration_in packet.head.source packet.head.home packet.body ≡ Some update
