-- The home address of a mobile of a run.
use Rattle.std.proofs.Common.{◌≡◌, ℕ}
use Rattle.std.specs.Prelude.{Option}
use Rattle.mip_words.specs.declared.address.Address.{Address}
use Rattle.mip_rules_mobile.specs.HomeQuestions.{home_of}
use Rattle.mip_history.specs.Setup.{Setup}
use Rattle.mip_history.specs.Runs.{Run, mobile_past_at}
use Rattle.mip_history.specs.Knowing.{secrets_in, mobile_known_in}
use Rattle.mip_roles.proofs.RoleLaws.{mobile_home}

-- through all its lives a mobile has the home that it was declared with
pub home_in : (s : Setup) (run : Run) (n : ℕ) (home : Address) (agent : Option Address) → home_of (mobile_known_in s run n home agent) ≡ home
home_in s run n home agent = mobile_home home agent s.numbers (secrets_in s n 0) (mobile_past_at run n)
