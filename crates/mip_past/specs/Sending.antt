-- What a mobile sends to register its home is read as that. RFC 6275 sections 11.5.5 and 11.7.1
use Rattle.std.specs.Prelude.{◌≡◌, ◌≢◌, ℕ, ◌^◌, ◌<◌, true, Some, None}
use Rattle.mip_words.specs.Addresses.{is_routable}
use Rattle.mip_words.specs.declared.address.Address.{Address}
use Rattle.mip_ipv6.specs.Reading.{packet_of}
use Rattle.mip_rules_mobile.specs.Sendings.{registration_packet, deregistration_packet}
use Rattle.mip_past.specs.Registering.{packet_agent}

-- a mobile with this home address, away at this care-of address, and its agent: addresses of 128 bits, of which the home is routable
pub record IsAway (home careof agent : Address) : Type 0 where
  pub home_fits : home.0 < 2 ^ 128
  pub careof_fits : careof.0 < 2 ^ 128
  pub agent_fits : agent.0 < 2 ^ 128
  pub routable : is_routable home.0 ≡ true
  pub apart : careof.0 ≢ home.0

-- the registration asks the agent, and the deregistration none
pub record IsReadAsSent (home careof agent : Address) (sequence : ℕ) : Type 0 where
  pub registers : packet_agent (packet_of (registration_packet home careof agent sequence)) ≡ Some agent
  pub ends : packet_agent (packet_of (deregistration_packet home agent sequence)) ≡ None
