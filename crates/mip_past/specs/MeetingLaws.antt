-- What the laws ask of a setup and of a run, and each schedule that was read has.
use Rattle.std.specs.Prelude.{◌≡◌, ◌≢◌, ℕ, ◌^◌, ◌<◌, ◌≤◌, Some, slice_get}
use Rattle.mip_links.specs.Table.{holder_outside}
use Rattle.mip_schedule.specs.Contents.{Content}
use Rattle.mip_history.specs.Setup.{Host, setup_of}
use Rattle.mip_history.specs.Knowing.{now_in}
use Rattle.mip_past.specs.HearingLaws.{AreApart}
use Rattle.mip_past.specs.Places.{run_at}

pub record MeetsPremises (c : Content) : Type 0 where
  -- two nodes with one address are one
  pub apart : AreApart (setup_of c).hosts
  -- a home has a binding number at least
  pub numbers : 1 ≤ (setup_of c).numbers
  -- moments are below 2 ^ 62
  pub early : (k : ℕ) → now_in (setup_of c) (run_at (setup_of c) c.events k) < 2 ^ 62
  -- a node's number is below 256, and no outsider's
  pub small : (n : ℕ) (host : Host) → slice_get (setup_of c).hosts n ≡ Some host → n < 256
  pub node : (n : ℕ) (host : Host) → slice_get (setup_of c).hosts n ≡ Some host → (o : ℕ) → n ≢ holder_outside o
