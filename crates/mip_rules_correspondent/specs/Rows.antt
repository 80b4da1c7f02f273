-- The verdict read row by row: each row where those before it do not apply. RFC 6275 sections 5.2.6, 9.5.1 and 9.5.4
use Rattle.std.specs.Prelude.{◌≡◌, ℕ, List, IsTrue, IsFalse, ◌&&◌, Option, Some, None, ⊤}
use Rattle.mip_words.specs.Addresses.{is_routable}
use Rattle.mip_words.specs.Sequence.{is_after}
use Rattle.mip_words.specs.declared.why.Why.TheVariants as whys
use Rattle.mip_mobhdr.specs.declared.indices.Indices.{Indices}
use Rattle.mip_nonce.specs.Window.{number_named}
use Rattle.mip_tokens.specs.Token.{is_authentic}
use Rattle.mip_reception.specs.declared.registration.Registration.{Registration}
use Rattle.mip_reception.specs.Registrations.{home_of, careof_of, registered_of}
use Rattle.mip_reception.specs.Statuses as statuses
use Rattle.mip_rules_correspondent.specs.declared.verdict.Verdict.TheVariants.{Refuse, Deny, Accept}
use Rattle.mip_rules_correspondent.specs.Verdicts.{Bench, granted_of, number_of, accepted_of, kbm_of, careof_number, verdict}

abbrev pub HasRoutableAddresses : Registration → Type 0
HasRoutableAddresses r = IsTrue (is_routable (home_of r).0 && is_routable (careof_of r).0)

-- an update for a correspondent, between routable addresses, with authorization data and with these nonce indices
pub record IsComplete (r : Registration) (indices : Indices) : Type 0 where
  pub correspondent : IsFalse r.for_agent
  pub routable : HasRoutableAddresses r
  pub authorized : IsTrue r.authorized
  pub nonces : r.nonces ≡ Some indices

-- one whose indices name these valid nonces, with the authenticator of the key of their tokens
pub record IsAuthorized (b : Bench) (r : Registration) (message : List ℕ) (i : ℕ) (j : Option ℕ) : Type 0 where
  pub indices : Indices
  pub complete : IsComplete r indices
  pub home : number_named b.now indices.home ≡ Some i
  pub careof : careof_number b r indices ≡ Some j
  pub authentic : IsTrue (is_authentic (kbm_of b r i j).0 (registered_of r) b.own message)

-- it comes after the sequence that is kept, if one is
abbrev pub IsInSequence : Registration → Option ℕ → Type 0
IsInSequence r None = ⊤
IsInSequence r (Some last) = IsTrue (is_after r.sequence last)

-- the rows, each where those before it do not apply
pub record JudgesInOrder (b : Bench) (r : Registration) (message : List ℕ) : Type 0 where
  -- 131: it is for a home agent
  pub for_agent : IsTrue r.for_agent → verdict b r message ≡ Deny statuses.home_registration_not_supported r.sequence None
  -- silence: an address is not routable, or the authorization data or the nonce indices are missing
  pub unroutable : IsFalse r.for_agent → IsFalse (is_routable (home_of r).0 && is_routable (careof_of r).0) → verdict b r message ≡ Refuse whys.Unroutable
  pub unauthorized : IsFalse r.for_agent → HasRoutableAddresses r → IsFalse r.authorized → verdict b r message ≡ Refuse whys.Options
  pub unnamed : IsFalse r.for_agent → HasRoutableAddresses r → IsTrue r.authorized → r.nonces ≡ None → verdict b r message ≡ Refuse whys.Options
  -- 138: neither index names a valid nonce
  pub no_nonce : (indices : Indices) → IsComplete r indices → number_named b.now indices.home ≡ None → careof_number b r indices ≡ None
      → verdict b r message ≡ Deny statuses.expired_nonces r.sequence None
  -- 136: the home index names none
  pub no_home_nonce : (indices : Indices) (j : Option ℕ) → IsComplete r indices → number_named b.now indices.home ≡ None → careof_number b r indices ≡ Some j
      → verdict b r message ≡ Deny statuses.expired_home_nonce r.sequence None
  -- 137: the care-of index names none
  pub no_careof_nonce : (indices : Indices) (i : ℕ) → IsComplete r indices → number_named b.now indices.home ≡ Some i → careof_number b r indices ≡ None
      → verdict b r message ≡ Deny statuses.expired_careof_nonce r.sequence None
  -- silence: the authenticator is not that of the key
  pub authenticator : (indices : Indices) (i : ℕ) (j : Option ℕ) → IsComplete r indices → number_named b.now indices.home ≡ Some i → careof_number b r indices ≡ Some j
      → IsFalse (is_authentic (kbm_of b r i j).0 (registered_of r) b.own message) → verdict b r message ≡ Refuse whys.Authenticator
  -- 135: it does not come after the sequence that is kept
  pub sequence : (i : ℕ) (j : Option ℕ) (last : ℕ) → IsAuthorized b r message i j → b.floor ≡ Some last → IsFalse (is_after r.sequence last)
      → verdict b r message ≡ Deny statuses.sequence_out_of_window last (Some (kbm_of b r i j))
  -- 130: there is no room
  pub room : (i : ℕ) (j : Option ℕ) → IsAuthorized b r message i j → IsInSequence r b.floor → IsTrue b.full
      → verdict b r message ≡ Deny statuses.insufficient_resources r.sequence (Some (kbm_of b r i j))
  -- else it is accepted
  pub accept : (i : ℕ) (j : Option ℕ) → IsAuthorized b r message i j → IsInSequence r b.floor → IsFalse b.full
      → verdict b r message ≡ Accept (home_of r) (number_of b.numbers r) (accepted_of b.now r i j) (granted_of r) (kbm_of b r i j)
