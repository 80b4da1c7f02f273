-- Laws and invariants of Acceptance: only proofs stand on them.
use Rattle.std.specs.Prelude.{ℕ, ◌+◌, max}
use Rattle.mip_words.specs.Constants.{max_nonce_lifetime}
use Rattle.mip_binding.specs.Acceptance.{Acceptance}

-- a sequence is kept to the end of its binding, and at least for as long as a nonce lives
abbrev pub kept_until_of : Acceptance → ℕ
kept_until_of a = max a.end (a.at + max_nonce_lifetime)
