-- The moments that a mobile keeps lie far before the end of its clock.
use Rattle.std.specs.Prelude.{ℕ, ◌<◌, ◌^◌, List, Option, IfSome}
use Rattle.mip_words.specs.declared.moment.Moment.{Moment}
use Rattle.mip_bulist.specs.declared.any.Any.{Any}
use Rattle.mip_bulist.specs.declared.any.Any.TheVariants.{Idle, Probing, Proved, Pending, Bound}
use Rattle.mip_bulist.specs.declared.row.Row.{Row}
use Rattle.mip_bulist.specs.Rows.{lifted}

-- when the last update of a trial was made
abbrev pub newest : Any → Option Moment
newest (Idle t) = t.recent.newest
newest (Probing t) = t.recent.newest
newest (Proved t) = t.recent.newest
newest (Pending t) = t.recent.newest
newest (Bound t) = t.recent.newest

abbrev pub IsEarly : Any → Type 0
IsEarly any = IfSome (newest any) (λ m. m.0 < 2 ^ 62)

-- the updates of all trials
abbrev pub AreEarly : List Row → Type 0
AreEarly rows = (row : ℕ) → IfSome (lifted row rows) IsEarly
