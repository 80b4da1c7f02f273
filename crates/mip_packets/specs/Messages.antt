-- The packets of return routability, and those that go back for what was refused. RFC 6275 sections 6.1.2 to 6.1.6 and 6.1.9
use Rattle.std.specs.Prelude.{ℕ, List, Some, None}
use Rattle.mip_words.specs.Protocols.{mobility_header}
use Rattle.mip_words.specs.declared.address.Address.{Address}
use Rattle.mip_mobhdr.specs.OptionValues.{nothing}
use Rattle.mip_mobhdr.specs.Said.Said.{Refresh, HomeInit, CareofInit, HomeTest, CareofTest, Error}
use Rattle.mip_packets.specs.Packets.{node_head, straight, message_packet}

-- a Binding Refresh Request to a care-of address, through the home address
abbrev pub refresh_packet : (own careof home : Address) → List ℕ
refresh_packet own careof home = message_packet (node_head own careof (Some home) None mobility_header) (Refresh nothing)

-- a Home Test Init and a Care-of Test Init
abbrev pub home_init_packet : (source peer : Address) (cookie : ℕ) → List ℕ
home_init_packet source peer cookie = message_packet (straight source peer mobility_header) (HomeInit cookie nothing)

abbrev pub careof_init_packet : (source peer : Address) (cookie : ℕ) → List ℕ
careof_init_packet source peer cookie = message_packet (straight source peer mobility_header) (CareofInit cookie nothing)

-- a Home Test and a Care-of Test, with the index of a nonce, the cookie of the init and a keygen token
abbrev pub home_test_packet : (own to : Address) (index cookie : ℕ) (token : List ℕ) → List ℕ
home_test_packet own to index cookie token = message_packet (straight own to mobility_header) (HomeTest index cookie token nothing)

abbrev pub careof_test_packet : (own to : Address) (index cookie : ℕ) (token : List ℕ) → List ℕ
careof_test_packet own to index cookie token = message_packet (straight own to mobility_header) (CareofTest index cookie token nothing)

-- a Binding Error
abbrev pub error_packet : (own to : Address) (status : ℕ) (home : Address) → List ℕ
error_packet own to status home = message_packet (straight own to mobility_header) (Error status home nothing)
