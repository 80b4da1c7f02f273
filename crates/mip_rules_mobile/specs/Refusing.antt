-- What a mobile keeps of a packet that it drops, or of an update that it denies: nothing but the moment.
use Rattle.std.specs.Prelude.{Bool, true, false}
pub use Rattle.mip_reception.specs.Refusing.{tells_of_refusal, refuses}
use Rattle.mip_rules_mobile.specs.Steps.{Step, Notes, Drops}
use Rattle.mip_rules_mobile.specs.Known.{Known}

-- a packet is dropped, or an update is denied
abbrev pub is_refusal : Step → Bool
is_refusal (Drops number why) = true
is_refusal (Notes entry) = tells_of_refusal entry
is_refusal _ = false

-- all that is known but the moments of the last calls
abbrev pub tables_of : Known → Known
tables_of k = record k {
  last = record { 0 = 0 };
  part = record { identity = k.part.identity; known = record { last = record { 0 = 0 }; cache = k.part.known.cache } };
}
