-- What a mobile of a run knows of where it stands, beside what the entries tell.
use Rattle.std.specs.Prelude.{Option, Some, None}
use Rattle.mip_words.specs.declared.address.Address.{Address}
use Rattle.mip_rules_mobile.specs.declared.attachment.Attachment.{Attachment}
use Rattle.mip_rules_mobile.specs.declared.attachment.Attachment.TheVariants.{Detached, AtHome, Away}

-- the address that a mobile uses where it stands
abbrev pub address_of : Address → Attachment → Option Address
address_of own Detached = None
address_of own AtHome = Some own
address_of own (Away careof) = Some careof
