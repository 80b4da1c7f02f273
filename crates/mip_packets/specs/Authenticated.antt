-- Messages with Binding Authorization Data. RFC 6275 sections 5.2.6 and 6.2.7
use Rattle.std.specs.Prelude.{ℕ, List, Bool, true, false, Some, replicate}
use Rattle.mip_words.specs.declared.address.Address.{Address}
use Rattle.mip_ipv6.specs.declared.head.Head.{Head}
use Rattle.mip_ipv6.specs.Packet.{source_of, destination_of}
use Rattle.mip_mobhdr.specs.OptionValues.{Values}
use Rattle.mip_mobhdr.specs.Said.{Said}
use Rattle.mip_mobhdr.specs.Said.Said.{Update, Acknowledgement}
use Rattle.mip_mobhdr.specs.Spelling.{message_bytes}
use Rattle.mip_tokens.specs.Token.{authenticator_of}
use Rattle.mip_packets.specs.Packets.{message_packet}

-- the options with this authenticator
abbrev pub with_authenticator : List ℕ → Values → Values
with_authenticator bytes o = record { advice = o.advice; alternate = o.alternate; nonces = o.nonces; number = o.number; authorization = Some bytes }

-- an update or an acknowledgement with this authenticator; no other message has one
abbrev pub authorized : List ℕ → Said → Said
authorized bytes (Update s a h l k t o) = Update s a h l k t (with_authenticator bytes o)
authorized bytes (Acknowledgement s k q t o) = Acknowledgement s k q t (with_authenticator bytes o)
authorized bytes message = message

-- a message that has one
abbrev pub has_authenticator : Said → Bool
has_authenticator (Update s a h l k t o) = true
has_authenticator (Acknowledgement s k q t o) = true
has_authenticator message = false

-- the message with room for its authenticator
abbrev pub unsealed : Head → Said → List ℕ
unsealed head message = message_bytes (source_of head) (destination_of head) (authorized (replicate 12 0) message)

-- the packet with the message and its authenticator under this key, between a care-of address and a correspondent
unfoldable pub authenticated_packet : Head → (kbm : List ℕ) → (careof peer : Address) → Said → List ℕ
authenticated_packet head kbm careof peer message =
    message_packet head (authorized (authenticator_of kbm careof peer (unsealed head message)) message)
