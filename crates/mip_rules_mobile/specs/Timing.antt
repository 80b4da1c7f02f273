-- How the times between two sendings grow, and when a binding is refreshed. RFC 6275 section 11.8
use Rattle.std.specs.Prelude.{ℕ, ◌*◌, min, max}
use Rattle.mip_words.specs.Constants.{initial_bindack_timeout, max_bindack_timeout}

-- each such time is twice the one before, from the first one to the longest
abbrev pub doubled : ℕ → ℕ
doubled wait = max initial_bindack_timeout (min (2 * wait) max_bindack_timeout)

-- a binding is refreshed when three quarters of its lifetime have passed: for each unit of it, after so many milliseconds
abbrev pub refresh_unit : ℕ
refresh_unit = 3000
