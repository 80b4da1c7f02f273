-- What stands behind the homes that are registered in a history.
use Rattle.std.specs.Prelude.{◌≡◌, ℕ, List, ◌∷◌, ◌++◌, true, Some}
use Rattle.mip_words.specs.declared.address.Address.{Address}
use Rattle.mip_entries.specs.declared.entry.Entry.{Entry}
use Rattle.mip_history.specs.Setup.{Setup}
use Rattle.mip_history.specs.Registered.{is_agent_at, registered_in, IsRegistered, HomeChange}

-- the mobile with that home had sent the update of each registered care-of address under its shield; and within an agent's life
-- a registered care-of address changes only by such an update, or by the end of its time. RFC 6275 sections 10.3.1 and 10.3.2
pub record HomesAreSent (s : Setup) (past : List Entry) : Type 0 where
  pub sent : (n : ℕ) (home careof : Address) → is_agent_at s n ≡ true → registered_in s past n home ≡ Some careof → IsRegistered s past n home careof
  pub changes : (before : List Entry) (e : Entry) (after : List Entry) (n : ℕ) (home : Address) → past ≡ before ++ e ∷ after → is_agent_at s n ≡ true → HomeChange s before e n home
