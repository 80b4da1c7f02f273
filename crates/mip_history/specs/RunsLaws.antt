-- What every run keeps: moments do not fall, every acceptance has its update, and the past of each correspondent, and of each
-- mobile's correspondent part, holds what the history has of it. Only proofs and calls within a run stand on it.
use Rattle.std.specs.Prelude.{◌≡◌, ℕ, ◌≤◌, List, [], true, length, Option, Some, slice_get}
use Rattle.std.specs.List.{AllByRecursion}
use Rattle.mip_words.specs.declared.address.Address.{Address}
use Rattle.mip_words.specs.EachAfter.{EachAfter}
use Rattle.mip_entries.specs.declared.entry.Entry.{Entry}
use Rattle.mip_entries.specs.declared.entry.Entry.TheVariants as entries
use Rattle.mip_entries.specs.Stamped.{Stamped}
use Rattle.mip_entries.specs.Pasts.{RisesFrom}
use Rattle.mip_rules_correspondent.specs.Steps.{Step}
use Rattle.mip_rules_correspondent.specs.Pasts.{accepted_in}
use Rattle.mip_rules_mobile.specs.PartLaws.{PartLife}
use Rattle.mip_history.specs.Setup.{Setup}
use Rattle.mip_history.specs.Setup.Kind.{Mobile}
use Rattle.mip_history.specs.SetupLaws.{is_correspondent_at}
use Rattle.mip_history.specs.Runs.{Run, past_at}
use Rattle.mip_history.specs.Questions.{moment_in, life_in}
use Rattle.mip_history.specs.Knowing.{secrets_in}
use Rattle.mip_history.specs.KnowingLaws.{part_in}
use Rattle.mip_history.specs.Bound.{accepted_by, HasAccepted}

-- what an entry meets of those before it: no moment is told that is earlier, and what is accepted has its update
abbrev pub Meets : Setup → List Entry → Entry → Type 0
Meets s front (entries.At moment) = moment_in s.start front ≤ moment.0
Meets s front (entries.Accepted node number home binding careof sequence end i j) =
    HasAccepted s front (entries.Accepted node number home binding careof sequence end i j)
Meets s front _ = Unit {0}

-- the past of a correspondent holds what the history has accepted in its present life, at moments that do not fall
pub record IsPast (s : Setup) (past : List Entry) (steps : List (Stamped Step)) (n : ℕ) : Type 0 where
  pub accepted : accepted_in steps ≡ accepted_by s.start past n
  pub rises : RisesFrom 0 steps
  pub early : AllByRecursion (λ t. t.at ≤ moment_in s.start past) steps

-- so does that of a mobile's correspondent part, and it has the secrets of that life
pub record IsPart (s : Setup) (front : List Entry) (life : PartLife) (n : ℕ) : Type 0 where
  pub secrets : life.secrets ≡ secrets_in s n (life_in front n)
  pub past : IsPast s front life.past n

-- so it is of all nodes of a run, between any two of its entries
pub record IsRun (s : Setup) (run : Run) : Type 0 where
  pub nodes : length run.pasts ≡ length s.hosts
  pub agents : length run.agent_pasts ≡ length s.hosts
  pub mobiles : length run.mobile_pasts ≡ length s.hosts
  pub kept : EachAfter (Meets s) [] run.past
  pub pasts : (n : ℕ) → is_correspondent_at s n ≡ true → IsPast s run.past (past_at run n) n
  pub parts : (n : ℕ) (home : Address) (agent : Option Address) → slice_get s.hosts n ≡ Some (record { address = home; kind = Mobile agent }) → IsPart s run.past (part_in s run n home) n
