-- Keygen tokens, the binding management key and the authenticator of an update.
-- RFC 6275 sections 5.2.5, 5.2.6 and 6.2.7
use Rattle.std.specs.Prelude.{◌≡◌, ℕ, ◌-◌, Bool, Option, Some, None, List, [], ◌∷◌, ◌++◌, length, take, drop, slice_range}
use Rattle.std.specs.Str.{bytes_eq}
use Rattle.mip_words.specs.Addresses.{address_bytes}
use Rattle.mip_words.specs.declared.address.Address.{Address}
use Rattle.mip_words.specs.declared.token.Token.{Token}
use Rattle.mip_tokens.specs.Hmac.{hmac_sha1}
use Rattle.sha1.specs.Sha1.{sha1}

-- First(64, HMAC_SHA1(Kcn, (address | nonce | kind)))
abbrev pub token_of : ℕ → List ℕ → Address → List ℕ → List ℕ
token_of kind kcn address nonce = take 8 (hmac_sha1 kcn (address_bytes address ++ (nonce ++ kind ∷ [])))

unfoldable pub home_token_of : List ℕ → Address → List ℕ → List ℕ
home_token_of kcn address nonce = token_of 0 kcn address nonce

unfoldable pub careof_token_of : List ℕ → Address → List ℕ → List ℕ
careof_token_of kcn address nonce = token_of 1 kcn address nonce

-- Kbm = SHA1(home keygen token | care-of keygen token)
unfoldable pub kbm_both_of : List ℕ → List ℕ → List ℕ
kbm_both_of home careof = sha1 (home ++ careof)

-- Kbm = SHA1(home keygen token), where the update deletes the binding
unfoldable pub kbm_home_of : List ℕ → List ℕ
kbm_home_of home = sha1 home

-- Kbm of the tokens of an update; one that has no care-of token deletes
abbrev pub kbm_of_tokens : Token → Option Token → List ℕ
kbm_of_tokens home None = kbm_home_of home.0
kbm_of_tokens home (Some careof) = kbm_both_of home.0 careof.0

-- what an authenticator covers of a message that ends with it: all but its 12 bytes, with the
-- checksum (bytes 4 and 5) zero
unfoldable pub authenticated : List ℕ → List ℕ
authenticated message = take 4 message ++ 0 ∷ 0 ∷ slice_range message 6 (length message - 12)

-- First(96, HMAC_SHA1(Kbm, (care-of address | correspondent's address | what is covered)))
abbrev pub authenticator_over : List ℕ → Address → Address → List ℕ → List ℕ
authenticator_over kbm careof peer covered =
    take 12 (hmac_sha1 kbm (address_bytes careof ++ (address_bytes peer ++ covered)))

-- the authenticator over what it covers of a message that ends with it
unfoldable pub authenticator_of : List ℕ → Address → Address → List ℕ → List ℕ
authenticator_of kbm careof peer message = authenticator_over kbm careof peer (authenticated message)

-- the message ends with its authenticator: as a test, and as a fact
abbrev pub is_authentic : List ℕ → Address → Address → List ℕ → Bool
is_authentic kbm careof peer message =
    bytes_eq (drop (length message - 12) message) (authenticator_of kbm careof peer message)

abbrev pub IsAuthentic : List ℕ → Address → Address → List ℕ → Type 0
IsAuthentic kbm careof peer message = drop (length message - 12) message ≡ authenticator_of kbm careof peer message
