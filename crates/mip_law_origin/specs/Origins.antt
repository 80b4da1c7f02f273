-- The origin of an accepted update: what stands in the history before it, and whose tokens it was made of.
-- RFC 6275 sections 5.2.5, 5.2.6 and 9.5.1
use Rattle.std.specs.Prelude.{◌≡◌, ℕ, List, Option, Some, None, ⊤}
use Rattle.mip_words.specs.declared.address.Address.{Address}
use Rattle.mip_nonce.specs.Secrets.{kcn_of, nonce_of}
use Rattle.mip_tokens.specs.Token.{token_of}
use Rattle.mip_bcache.specs.declared.accepted.Accepted.{Accepted}
use Rattle.mip_entries.specs.declared.entry.Entry.{Entry}
use Rattle.mip_provenance.specs.declared.accepted_update.AcceptedUpdate.{AcceptedUpdate}
use Rattle.mip_provenance.specs.Origins.{HasOrigin}
use Rattle.mip_history.specs.Setup.{Setup}
use Rattle.mip_history.specs.Bound.{IsAccepted, accepted_entry}
use Rattle.mip_law_origin.specs.OwnHistories.{life_of}

-- the keygen token of a node in its present life: 0 home, 1 care-of; for an address, under a nonce
abbrev pub token_in_life : Setup → List Entry → ℕ → ℕ → Address → ℕ → List ℕ
token_in_life s past n kind address nonce = token_of kind (kcn_of (life_of s past n)) address (nonce_of (life_of s past n) nonce)

-- the care-of token is that of the care-of nonce; none where the binding ends
abbrev pub IsCareofToken : Setup → List Entry → ℕ → Address → Option ℕ → Option (List ℕ) → Type 0
IsCareofToken s past n careof (Some nonce) (Some token) = token ≡ token_in_life s past n 1 careof nonce
IsCareofToken s past n careof None None = ⊤
IsCareofToken s past n careof _ _ = ⊥

-- behind this history an update was accepted, and these packets are its origin
pub record IsOriginOf (s : Setup) (past : List Entry) (e : Entry) (a : AcceptedUpdate) (hot : ℕ) (cot : Option ℕ) (update : ℕ) : Type 0 where
  -- the verdict on its bytes: its nonces were valid then, and its sequence comes after the one that was kept
  pub binding : ℕ
  pub accepted : Accepted
  pub is : e ≡ accepted_entry a.node.0 a.number a.home binding accepted
  pub stands : IsAccepted s past a.node.0 a.number a.home binding accepted
  -- the packets HOT, COT and UPDATE stand in the history, and both tokens had reached the maker of the update
  pub origin : HasOrigin past a hot cot update
  -- both tokens are those of the nonces under which the update was accepted
  pub home_token : origin.home_token ≡ token_in_life s past a.node.0 0 a.home accepted.home_nonce
  pub careof_token : IsCareofToken s past a.node.0 a.careof accepted.careof_nonce origin.careof_token
