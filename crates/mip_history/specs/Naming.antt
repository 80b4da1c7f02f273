-- The entries that the declarations of a schedule can have: each name in them is declared, and each reason is one of those that
-- stand in such an entry.
use Rattle.std.specs.Prelude.{◌≡◌, ◌⊎◌, ℕ, ◌+◌, List, true}
use Rattle.mip_entries.specs.declared.entry.Entry.{Entry}
use Rattle.mip_entries.specs.declared.entry.Entry.TheVariants as entries
use Rattle.mip_entries.specs.Reasons.{is_gone_why, is_unsent_why, is_dropped_why}
pub use Rattle.mip_entries.specs.Reasons.{IsCause}
use Rattle.mip_schedule.specs.Lawful.{IsLink, IsNode, IsOutsider, IsLinkIfAny}
use Rattle.mip_symbols.specs.declared.declaration.Declaration.{Declaration}

-- a node by its number, or an outsider by 32 more than its number
abbrev pub IsWho : List Declaration → ℕ → Type 0
IsWho ds who = IsNode ds (record { 0 = who }) ⊎ ((outsider : ℕ) × IsOutsider ds outsider × (who ≡ 32 + outsider))

abbrev pub IsDeclared : List Declaration → Entry → Type 0
IsDeclared ds (entries.At a) = Unit {0}
IsDeclared ds (entries.Moved a b) = IsNode ds a × IsLinkIfAny ds b
IsDeclared ds (entries.Advertised a b c) = IsNode ds a × IsLink ds b
IsDeclared ds (entries.Listening a b) = IsOutsider ds a × IsLink ds b
IsDeclared ds (entries.Deafened a b) = IsOutsider ds a × IsLink ds b
IsDeclared ds (entries.Careof a b) = IsNode ds a
IsDeclared ds (entries.Restarted a) = IsNode ds a
IsDeclared ds (entries.Settled a b c) = IsNode ds a × IsNode ds b
IsDeclared ds (entries.Claimed a b c) = IsWho ds a × IsLink ds b
IsDeclared ds (entries.Released a b c) = IsWho ds a × IsLink ds b
IsDeclared ds (entries.Taken a b c d) = IsWho ds a × IsLink ds b × IsWho ds d
IsDeclared ds (entries.Sent a b c d) = IsNode ds b
IsDeclared ds (entries.Injected a b c d) = IsOutsider ds b × IsLink ds c
IsDeclared ds (entries.Heard a b) = IsOutsider ds b
IsDeclared ds (entries.Handed a b) = IsNode ds b
IsDeclared ds (entries.Gone a b) = is_gone_why b ≡ true
IsDeclared ds (entries.Lost a) = Unit {0}
IsDeclared ds (entries.Unsent a b) = IsNode ds a × (is_unsent_why b ≡ true)
IsDeclared ds entries.Idle = Unit {0}
IsDeclared ds (entries.Registered a b c) = IsNode ds a
IsDeclared ds (entries.Unregistered a b) = IsNode ds a
IsDeclared ds (entries.Refused a b) = IsNode ds a
IsDeclared ds (entries.Chosen a b) = IsNode ds a
IsDeclared ds (entries.Prefixes a b c) = IsNode ds a
IsDeclared ds (entries.Made a b c d e) = IsNode ds a
IsDeclared ds (entries.Bound a b c) = IsNode ds a
IsDeclared ds (entries.Unbound a b) = IsNode ds a
IsDeclared ds (entries.Home a b c d e) = IsNode ds a
IsDeclared ds (entries.Accepted a b c d e f g h i) = IsNode ds a
IsDeclared ds (entries.Origin a b c) = Unit {0}
IsDeclared ds (entries.Forged a) = IsCause a
IsDeclared ds (entries.Denied a b c) = IsNode ds a
IsDeclared ds (entries.Dropped a b c) = IsNode ds a × (is_dropped_why c ≡ true)
IsDeclared ds (entries.Up a b c d e f) = IsNode ds a
IsDeclared ds (entries.Row a b c d e f g) = IsNode ds a
