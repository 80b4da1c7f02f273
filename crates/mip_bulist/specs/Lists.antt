-- What a contract sees of a list, and what is true of the rows of every one.
use Rattle.std.specs.Prelude.{ℕ, ◌≤◌, List, length}
use Rattle.mip_bulist.specs.declared.row.Row.{Row}
use Rattle.mip_bulist.specs.declared.timer.Timer.{Timer}
use Rattle.mip_bulist.specs.Rows.{AreOfDifferentPeers}

-- the rows in the order in which they were made, and the timers by due moment, ties in order of setting
pub record ListSeen : Type 0 where
  pub rows : List Row
  pub timers : List Timer

-- at most sixteen rows, of different peers, with room for all that there can be
pub record AreSound (rows : List Row) (row_room : ℕ) : Type 0 where
  pub few : length rows ≤ 16
  pub peers : AreOfDifferentPeers rows
  pub room : 16 ≤ row_room
