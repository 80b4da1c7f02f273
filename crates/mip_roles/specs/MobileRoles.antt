-- What a mobile of a run knows: nothing any more, once memory was wanting in a call.
use Rattle.std.specs.Prelude.{◌≡◌, ◌≤◌, Bool, true, false}
use Rattle.mip_rules_mobile.specs.Known.{Known}
use Rattle.mip_rules_mobile.specs.HomeQuestions.{home_of, numbers_of}
use Rattle.mip_rules_mobile.specs.Questions.{fresh}
use Rattle.mip_mobile_calls.specs.Seen.{ContextSeen}

abbrev pub known_unless : Bool → Known → Known
known_unless false k = k
known_unless true k = fresh (home_of k) k.declared (numbers_of k) k.part.identity.secrets

-- the call under way is no later than the last one
abbrev pub IsCalm : Bool → ContextSeen → Type 0
IsCalm failed d = failed ≡ false → d.moment ≤ d.known.last.0
