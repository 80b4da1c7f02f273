-- The tokens of the packets of a history, of which those of tests are kept.
use Rattle.std.specs.Prelude.{◌≡◌, ◌≢◌, ◌<◌, ◌==◌, ℕ, List, Option, Some, None, if◌then◌else◌, length, slice_get}
use Rattle.mip_words.specs.declared.token.Token.{Token}
use Rattle.mip_recorder.specs.declared.kept_token.KeptToken.{KeptToken}
use Rattle.mip_recorder.specs.Packets.{token_at}

-- the token of a row, where its packet has this number
abbrev pub token_if : KeptToken → ℕ → Option (List ℕ)
token_if row number = if row.number == number then Some row.token.0 else None

-- the rows are those of the tests among so many packets, in their order
pub record AreKept (posted : ℕ) (rows : List KeptToken) (tokens : List (Option Token)) : Type 0 where
  pub count : length tokens ≡ posted
  pub rises : (i j : ℕ) (a b : KeptToken) → slice_get rows i ≡ Some a → slice_get rows j ≡ Some b → i < j → a.number < b.number
  pub below : (i : ℕ) (a : KeptToken) → slice_get rows i ≡ Some a → a.number < posted
  pub kept : (i : ℕ) (a : KeptToken) → slice_get rows i ≡ Some a → token_at tokens a.number ≡ Some a.token.0
  pub bare : (k : ℕ) → ((i : ℕ) (a : KeptToken) → slice_get rows i ≡ Some a → a.number ≢ k) → token_at tokens k ≡ None
