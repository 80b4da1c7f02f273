use Rattle.std.proofs.Common.{◌≡◌, ℕ, ◌+◌, ◌*◌, ◌<◌, length, get_or}
use Rattle.rand_chacha.specs.ChaCha.{key_of}
use Rattle.mip_nonce.specs.Secrets.{stream_of, cookie_of}
use Rattle.mip_nonce.proofs.source.Source.cookies.Given as goal

abbrev pub invariant-loop-i : goal.invariant-loop-i
invariant-loop-i l = record {
  long : length l.cookies ≡ 32;
  words : l.words ≡ record { key = key_of l.self.seed; stream = stream_of l.self 2; word_pos = 2 * l.first + 2 * l.i };
  drawn : (k : ℕ) → k < l.i → get_or l.cookies k 0 ≡ cookie_of l.self (l.first + k);
}
