-- What a schedule holds.
use Rattle.std.specs.Prelude.{ℕ, List}
use Rattle.mip_words.specs.declared.moment.Moment.{Moment}
use Rattle.mip_symbols.specs.declared.declaration.Declaration.{Declaration}
use Rattle.mip_schedule.specs.declared.event.Event.{Event}

pub record Content : Type 0 where
  pub version : ℕ
  pub seed : List ℕ
  pub start : Moment
  pub declarations : List Declaration
  pub events : List Event

abbrev pub holding : ℕ → List ℕ → Moment → List Declaration → List Event → Content
holding version seed start declarations events = record { version = version; seed = seed; start = start; declarations = declarations; events = events }
