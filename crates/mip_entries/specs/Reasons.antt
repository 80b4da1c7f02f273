-- Which reasons stand in which entries.
use Rattle.std.specs.Prelude.{ℕ, ◌≤◌, Bool, true, false}
use Rattle.mip_words.specs.declared.why.Why.{Why}
use Rattle.mip_words.specs.declared.why.Why.TheVariants as whys

-- why a packet reached nobody
abbrev pub is_gone_why : Why → Bool
is_gone_why whys.NoLink = true
is_gone_why whys.Hop = true
is_gone_why whys.NoHolder = true
is_gone_why whys.Shield = true
is_gone_why _ = false

-- why a node could not send
abbrev pub is_unsent_why : Why → Bool
is_unsent_why whys.Detached = true
is_unsent_why whys.Unregistered = true
is_unsent_why whys.NoRoute = true
is_unsent_why whys.Size = true
is_unsent_why _ = false

-- why a node did nothing with a packet
abbrev pub is_dropped_why : Why → Bool
is_dropped_why whys.NoLink = false
is_dropped_why whys.NoHolder = false
is_dropped_why whys.Shield = false
is_dropped_why whys.Detached = false
is_dropped_why whys.Unregistered = false
is_dropped_why whys.NoRoute = false
is_dropped_why _ = true

-- one of the three reasons why an acceptance is forged
abbrev pub IsCause : ℕ → Type 0
IsCause cause = (1 ≤ cause) × (cause ≤ 3)
