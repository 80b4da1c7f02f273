-- The tests that a node sends are its own, under its newest nonce. RFC 6275 sections 5.2.5, 9.4.3 and 9.4.4
use Rattle.std.specs.Prelude.{◌≡◌, ℕ}
use Rattle.mip_nonce.specs.Secrets.{Life, kcn_of, nonce_of}
use Rattle.mip_nonce.specs.Window.{current_of, index_of}
use Rattle.mip_tokens.specs.Token.{token_of}
use Rattle.mip_packets.specs.Says.{Carried, carried}
use Rattle.mip_packets.specs.Says.Carried.{Test}
use Rattle.mip_rules_correspondent.specs.declared.identity.Identity.{Identity}
use Rattle.mip_rules_correspondent.specs.Steps.{Step, Sends}
pub use Rattle.mip_rules_correspondent.specs.Answering.{SendsPlainData}

-- a test has the index of the newest nonce of this life, and the token for the address that it goes to
abbrev pub IsOwnTest : Life → ℕ → Carried → Type 0
IsOwnTest life now (Test kind index token destination) =
    (index ≡ index_of (current_of now)) × (token ≡ token_of kind (kcn_of life) destination (nonce_of life (current_of now)))
IsOwnTest life now _ = Unit {0}

-- where the step sends a test, it is one of its own
abbrev pub SendsOwnTests : Identity → ℕ → Step → Type 0
SendsOwnTests me now (Sends packet) = IsOwnTest me.secrets now (carried packet)
SendsOwnTests me now _ = Unit {0}
