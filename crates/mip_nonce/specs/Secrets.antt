-- The secrets of one life of a node, drawn from ChaCha20 (RFC 8439 section 2.3; the nonce is the
-- number of a stream) under the seed as key. RFC 6275 sections 5.2.1 and 5.2.2
use Rattle.std.specs.Prelude.{◌≡◌, ℕ, ◌+◌, ◌*◌, ◌^◌, ◌<◌, List, ◌++◌, slice_index}
use Rattle.std.specs.Int.{w32, to_be_bytes}
use Rattle.rand_chacha.specs.ChaCha.{word_at, key_of}
use Rattle.mip_tokens.specs.Token.{home_token_of, careof_token_of}
use Rattle.mip_nonce.specs.declared.kept_token.KeptToken.{KeptToken}

-- one life of a node: the node by its place among the declared nodes, the life by the restarts before it
pub record Life : Type 0 where
  pub seed : List ℕ
  pub node : ℕ
  pub life : ℕ

-- each life of a node has a stream for each kind of secret
abbrev pub stream_of : Life → ℕ → ℕ
stream_of life kind = life.node * 2 ^ 32 + 4 * life.life + kind

-- the word at a place of a stream
abbrev pub word_of : Life → ℕ → ℕ → ℕ
word_of life kind place = word_at 10 (key_of life.seed) (stream_of life kind) place

-- Kcn, the node key: the first five words of kind 0, each spelt in four bytes
unfoldable pub kcn_of : Life → List ℕ
kcn_of life =
    to_be_bytes w32 (word_of life 0 0) ++ to_be_bytes w32 (word_of life 0 1) ++ to_be_bytes w32 (word_of life 0 2)
    ++ to_be_bytes w32 (word_of life 0 3) ++ to_be_bytes w32 (word_of life 0 4)

-- nonce number n: the n-th pair of words of kind 1. A stream has 2 ^ 68 words, so that no number
-- below 2 ^ 64 comes round
unfoldable pub nonce_of : Life → ℕ → List ℕ
nonce_of life n = to_be_bytes w32 (word_of life 1 (2 * n)) ++ to_be_bytes w32 (word_of life 1 (2 * n + 1))

-- cookie number n: the n-th pair of words of kind 2, as one number, the first word its high half
unfoldable pub cookie_of : Life → ℕ → ℕ
cookie_of life n = word_of life 2 (2 * n) * 2 ^ 32 + word_of life 2 (2 * n + 1)

-- thirty-two cookies one behind the other, from the one of this number on
abbrev pub AreCookies : Life → ℕ → List ℕ → Type 0
AreCookies life first cookies = (i : ℕ) → i < 32 → slice_index cookies i ≡ cookie_of life (first + i)

-- a token of this life that is kept: a home token, or a care-of token. RFC 6275 section 5.2.5
abbrev pub IsHomeToken : Life → KeptToken → Type 0
IsHomeToken life k = k.token.0 ≡ home_token_of (kcn_of life) k.address (nonce_of life k.number)

abbrev pub IsCareofToken : Life → KeptToken → Type 0
IsCareofToken life k = k.token.0 ≡ careof_token_of (kcn_of life) k.address (nonce_of life k.number)
