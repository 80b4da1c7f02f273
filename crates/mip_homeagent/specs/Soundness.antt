-- What always holds of what a home agent keeps.
use Rattle.std.specs.Prelude.{◌≡◌, ◌≤◌, ◌<◌, ◌^◌, ℕ, List, true}
use Rattle.std.specs.List.{AllByRecursion}
use Rattle.mip_words.specs.Addresses.{is_routable}
use Rattle.mip_outside.specs.Places.{Around}
use Rattle.mip_binding.specs.Rows.{RisesBy}
use Rattle.mip_rules_agent.specs.declared.served.Served.{Served}
use Rattle.mip_rules_agent.specs.Known.{Known}
use Rattle.mip_rules_agent.specs.Questions.{key_of}

-- a home address that may stand in a routing header
abbrev pub IsRoutable : Served → Type 0
IsRoutable s = is_routable s.home.0 ≡ true

-- homes in order of address, each routable
pub record AreSound (homes : List Served) : Type 0 where
  pub rises : RisesBy key_of homes
  pub routable : AllByRecursion IsRoutable homes

-- homes in order of address, each routable; no advertisement and no plan is later than the last call
pub record IsSound (k : Known) : Type 0 where
  pub rises : RisesBy key_of k.homes
  pub routable : AllByRecursion IsRoutable k.homes
  pub heard : k.agents.last ≤ k.last
  pub planned : k.plan.since.0 ≤ k.last

-- a place has room for each home that is served
abbrev pub HasRoom : Around → Known → Type 0
HasRoom around k = AllByRecursion (λ s. around.room s.home.0 ≡ true) k.homes

-- what a call with a packet asks for: its moment is small, and no earlier than the last; its place has room
pub record IsReady (around : Around) (now : ℕ) (k : Known) : Type 0 where
  pub early : now < 2 ^ 62
  pub later : k.last ≤ now
  pub room : HasRoom around k
