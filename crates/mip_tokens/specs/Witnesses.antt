-- What a check of an authenticator was of. RFC 6275 section 6.2.7
use Rattle.std.specs.Prelude.{ℕ, Option, List}
use Rattle.mip_words.specs.declared.address.Address.{Address}
use Rattle.mip_words.specs.declared.token.Token.{Token}

-- a message that binds a care-of address at a correspondent, under the key of these tokens
pub record Checked : Type 0 where
  pub home : Token
  -- none where the binding ends
  pub careof : Option Token
  -- the care-of address; the home address where the binding ends
  pub bound : Address
  -- the address of the correspondent
  pub own : Address
  pub message : List ℕ
