-- What stands behind a row of a binding cache that is shown: an acceptance of its home in the life of its node, the last one
-- under its number, which no later one ended. RFC 6275 sections 9.1 and 9.5.1
use Rattle.std.specs.Prelude.{◌≡◌, ℕ, ◌<◌, List, [], ◌∷◌, ◌++◌, false, Option, Some, None}
use Rattle.std.specs.List.{list_any}
use Rattle.mip_words.specs.EachAfter.{EachAfter}
use Rattle.mip_words.specs.declared.address.Address.{Address}
use Rattle.mip_binding.specs.Homes.{HomeKept, home_after}
use Rattle.mip_bcache.specs.declared.accepted.Accepted.{Accepted}
use Rattle.mip_entries.specs.declared.entry.Entry.{Entry}
use Rattle.mip_entries.specs.declared.entry.Entry.TheVariants.{Row as ShownRow}
use Rattle.mip_entries.specs.Completed.{node_id}
use Rattle.mip_history.specs.Setup.{Setup}
use Rattle.mip_history.specs.Questions.{moment_in}
use Rattle.mip_history.specs.Bound.{accepted_by, accepted_entry, is_restart_of, Outlives}

abbrev pub until_of : Option HomeKept → ℕ
until_of None = 0
until_of (Some kept) = kept.until

-- to when a node keeps the last sequence of a home: to the end of each of its bindings that live, and for as long as a nonce
-- lives at least
unfoldable pub kept_to : Setup → List Entry → (n home : ℕ) → ℕ
kept_to s past n home = until_of (home_after home (accepted_by s.start past n))

-- behind this history the row that node n shows is that of an update that it accepted in this life, the last one of its home
-- under its number, which no later one ended; and the sequence of the home is still kept, to the moment that the row shows
pub record IsLastAcceptance (s : Setup) (past : List Entry) (n : ℕ) (row : Entry) : Type 0 where
  pub before : List Entry
  pub number : ℕ
  pub home : Address
  pub binding : ℕ
  pub accepted : Accepted
  pub after : List Entry
  pub whole : past ≡ before ++ accepted_entry n number home binding accepted ∷ after
  pub shows : row ≡ ShownRow (node_id n) home binding accepted.careof accepted.sequence accepted.end (record { 0 = kept_to s past n home.0 })
  pub kept : moment_in s.start past < kept_to s past n home.0
  pub this_life : list_any (is_restart_of n) after ≡ false
  pub lives : EachAfter (Outlives s n home.0 binding) (before ++ accepted_entry n number home binding accepted ∷ []) after
