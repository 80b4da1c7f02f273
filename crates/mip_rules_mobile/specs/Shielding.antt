-- Whose shield a mobile sends under: that of its own home address. RFC 6275 sections 5.1 and 11.7.1
use Rattle.std.specs.Prelude.{◌≡◌, List, Option, Some, None}
use Rattle.std.specs.List.{AllByRecursion}
use Rattle.mip_words.specs.declared.address.Address.{Address}
use Rattle.mip_words.specs.declared.shield.Shield.{Shield}
use Rattle.mip_entries.specs.declared.answer.Answer.{Answer}
use Rattle.mip_entries.specs.declared.answer.Answer.TheVariants.{Send, Note}

-- a shield, if there is one, is from this home address
abbrev pub IsFromHome : Address → Option Shield → Type 0
IsFromHome home None = Unit {0}
IsFromHome home (Some shield) = shield.from ≡ home

abbrev pub IsShieldedFrom : Address → Answer → Type 0
IsShieldedFrom home (Send shield packet) = IsFromHome home shield
IsShieldedFrom home (Note entry) = Unit {0}

-- each packet that is sent under a shield is sent under one from this home address
abbrev pub AreShieldedFrom : Address → List Answer → Type 0
AreShieldedFrom home answers = AllByRecursion (IsShieldedFrom home) answers
