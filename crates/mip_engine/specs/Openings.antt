-- A setup with its first nodes, and what the next one needs.
use Rattle.std.specs.Prelude.{◌≢◌, ℕ, List, Option, Some, None, ⊤}
use Rattle.mip_words.specs.declared.address.Address.{Address}
use Rattle.mip_links.specs.Nets.{NetSeen}
use Rattle.mip_history.specs.Setup.{Setup, Host}
use Rattle.mip_engine.specs.Engines.{IsFree}

-- these nodes alone
abbrev pub with_hosts : List Host → Setup → Setup
with_hosts hosts s = record s { hosts = hosts }

-- another address than its own that a node can hold
abbrev pub CanShare : NetSeen → ℕ → Option Address → Type 0
CanShare net own None = ⊤
CanShare net own (Some a) = IsFree net a.0 × (a.0 ≢ own)
