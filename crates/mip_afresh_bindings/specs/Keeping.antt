-- What a correspondent keeps of the home that a packet is about, by what it accepted in its present life. RFC 6275 section 9.1
use Rattle.std.specs.Prelude.{ℕ, List, Bool, false, Option, Some, None}
use Rattle.mip_words.specs.declared.address.Address.{Address}
use Rattle.mip_binding.specs.Acceptance.{Acceptance}
use Rattle.mip_binding.specs.Held.{holds, floor, is_full}
use Rattle.mip_afresh_rules.specs.declared.kept.Kept.{Kept}
use Rattle.mip_afresh_rules.specs.declared.subject.Subject.{Subject}
use Rattle.mip_afresh_rules.specs.Keeping.{home_of_packet}

abbrev pub holds_among : List Acceptance → ℕ → Address → Option Address → Bool
holds_among xs now source None = false
holds_among xs now source (Some home) = holds xs home.0 now source.0

-- with room for so many homes, and for so many bindings of each
abbrev pub kept_among : (room numbers : ℕ) → List Acceptance → ℕ → Subject → Kept
kept_among room numbers xs now s = record {
  holds = holds_among xs now s.source s.home;
  floor = floor xs (home_of_packet s.source s.home).0 now;
  is_full = is_full room xs (home_of_packet s.source s.home).0 now;
  numbers = numbers;
}
