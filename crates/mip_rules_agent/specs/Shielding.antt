-- What a home agent sends under a shield: no Binding Update. RFC 6275 sections 10.3.1, 10.4.2 and 10.6.2
use Rattle.std.specs.Prelude.{ℕ, List, Some, None}
use Rattle.std.specs.List.{AllByRecursion}
use Rattle.mip_entries.specs.declared.answer.Answer.{Answer}
use Rattle.mip_entries.specs.declared.answer.Answer.TheVariants.{Send, Note}
use Rattle.mip_reception.specs.declared.registration.Registration.{Registration}
use Rattle.mip_rules_agent.specs.Taken.{IsUpdateIn}

-- a packet has no update
abbrev pub HasNoUpdate : List ℕ → Type 0
HasNoUpdate packet = (update : Registration) → IsUpdateIn packet update → ⊥

abbrev pub ShieldsNoUpdate : Answer → Type 0
ShieldsNoUpdate (Send (Some shield) packet) = HasNoUpdate packet
ShieldsNoUpdate (Send None packet) = Unit {0}
ShieldsNoUpdate (Note entry) = Unit {0}

-- no packet that is sent under a shield has one
abbrev pub ShieldNoUpdate : List Answer → Type 0
ShieldNoUpdate answers = AllByRecursion ShieldsNoUpdate answers
