-- What is known of an update whose authenticator held, and of one that was accepted.
-- RFC 6275 sections 5.2.5, 5.2.6 and 9.5.1
use Rattle.std.specs.Prelude.{◌≡◌, ℕ, ◌+◌, ◌*◌, ◌≤◌, List, true, false, Option, Some, None}
use Rattle.mip_words.specs.Addresses.{is_routable}
use Rattle.mip_words.specs.Sequence.{is_after}
use Rattle.mip_words.specs.declared.address.Address.{Address}
use Rattle.mip_mobhdr.specs.declared.indices.Indices.{Indices}
use Rattle.mip_words.specs.Constants.{lifetime_unit, max_rr_binding_lifetime}
use Rattle.mip_nonce.specs.Window.{IsValidAt, number_named}
use Rattle.mip_tokens.specs.Token.{IsAuthentic}
use Rattle.mip_tokens.specs.declared.kbm.Kbm.{Kbm}
use Rattle.mip_bcache.specs.declared.accepted.Accepted.{Accepted}
use Rattle.mip_reception.specs.declared.registration.Registration.{Registration}
use Rattle.mip_reception.specs.Registrations.{home_of, careof_of, deletes, registered_of}
use Rattle.mip_rules_correspondent.specs.Verdicts.{Bench, kbm_of, number_of}

-- this is a valid nonce, and the index names it
abbrev pub IsNonce : ℕ → ℕ → ℕ → Type 0
IsNonce now index n = IsValidAt now n × (number_named now index ≡ Some n)

-- the nonce of the care-of token; an update that ends a binding has none
abbrev pub IsCareofNonce : ℕ → Registration → Indices → Option ℕ → Type 0
IsCareofNonce now r indices None = deletes r ≡ true
IsCareofNonce now r indices (Some j) = (deletes r ≡ false) × IsNonce now indices.careof j

-- it came with the authenticator of the key of the tokens under these nonces
pub record IsGenuine (b : Bench) (r : Registration) (message : List ℕ) (i : ℕ) (j : Option ℕ) (kbm : Kbm) : Type 0 where
  pub for_correspondent : r.for_agent ≡ false
  pub home_routable : is_routable (home_of r).0 ≡ true
  pub careof_routable : is_routable (careof_of r).0 ≡ true
  pub indices : Indices
  pub named : r.nonces ≡ Some indices
  pub home_nonce : IsNonce b.now indices.home i
  pub careof_nonce : IsCareofNonce b.now r indices j
  pub key : kbm ≡ kbm_of b r i j
  pub authentic : IsAuthentic kbm.0 (registered_of r) b.own message

-- it was accepted for this home, under this number, and for this time in units of 4 s
pub record IsSound (b : Bench) (r : Registration) (message : List ℕ) (home : Address) (number : ℕ) (accepted : Accepted) (granted : ℕ) (kbm : Kbm) : Type 0 where
  pub genuine : IsGenuine b r message accepted.home_nonce accepted.careof_nonce kbm
  pub of_home : home ≡ home_of r
  pub of_number : number ≡ number_of b.numbers r
  pub of_careof : accepted.careof ≡ registered_of r
  pub of_sequence : accepted.sequence ≡ r.sequence
  pub ends : accepted.end.0 ≡ b.now + lifetime_unit * granted
  pub short : granted ≤ max_rr_binding_lifetime
  pub asked : granted ≤ r.lifetime
  pub newer : (last : ℕ) → b.floor ≡ Some last → is_after r.sequence last ≡ true
  pub room : b.full ≡ false
