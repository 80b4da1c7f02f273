-- The words that events are made of, drawn from ChaCha20 (RFC 8439 section 2.3) under the seed as key.
use Rattle.std.specs.Prelude.{ℕ, ◌+◌, ◌*◌, ◌^◌, List}
use Rattle.rand_chacha.specs.ChaCha.{word_at, key_of}
use Rattle.mip_make.specs.declared.draw.Draw.{Draw}

-- the stream of these words. A node's secrets are drawn from streams below it, since a node's number is below 32
abbrev pub stream : ℕ
stream = 2 ^ 40

-- the word at a place of the stream
abbrev pub word_of : List ℕ → ℕ → ℕ
word_of seed place = word_at 10 (key_of seed) stream place

-- each event has two words: that of number i, from 0, has those at the places 2i and 2i + 1
unfoldable pub draw_of : List ℕ → ℕ → Draw
draw_of seed i = record { x = word_of seed (2 * i); y = word_of seed (2 * i + 1) }

-- how far a generator has come: its seed, and the number of the next event
pub record Place : Type 0 where
  pub seed : List ℕ
  pub event : ℕ
