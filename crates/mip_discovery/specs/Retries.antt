-- A mobile's discovery of home agents. RFC 6275 section 11.4.1
use Rattle.std.specs.Prelude.{ℕ, ◌+◌, ◌*◌, ◌^◌, ◌==◌, Option, Some, None, if◌then◌else◌}
use Rattle.mip_words.specs.Constants.{initial_dhaad_timeout, dhaad_retries}

-- the request's identifier, how many retries were sent, and when the next one is due
pub record DiscoverySeen : Type 0 where
  pub identifier : ℕ
  pub retries : ℕ
  pub due : ℕ

-- after the request 3 s, and after each retry twice as long
abbrev pub due_after : ℕ → ℕ → ℕ
due_after now retries = now + initial_dhaad_timeout * 2 ^ retries

abbrev pub started : ℕ → ℕ → DiscoverySeen
started now identifier = record { identifier = identifier; retries = 0; due = due_after now 0 }

-- the next retry; there are four
abbrev pub retried : ℕ → DiscoverySeen → Option DiscoverySeen
retried now d =
    if d.retries == dhaad_retries then None else Some (record { identifier = d.identifier; retries = d.retries + 1; due = due_after now (d.retries + 1) })
