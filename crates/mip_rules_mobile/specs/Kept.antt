-- Where the tests that a trial keeps come from: they were given to it since it started. RFC 6275 sections 5.2.5 and 11.6.2
use Rattle.std.specs.Prelude.{◌≡◌, ℕ, List, ◌∷◌, ◌++◌, Bool, false, ◌==◌, Option, Some, None, IfSome}
use Rattle.std.specs.List.{list_any}
use Rattle.mip_words.specs.declared.address.Address.{Address}
use Rattle.mip_words.specs.declared.token.Cookie.{Cookie}
use Rattle.mip_words.specs.declared.token.Token.{Token}
use Rattle.mip_bulist.specs.declared.any.Any.{Any}
use Rattle.mip_bulist.specs.declared.any.Any.TheVariants.{Idle, Probing, Proved, Pending, Bound}
use Rattle.mip_bulist.specs.declared.made.Made.{Made}
use Rattle.mip_bulist.specs.declared.row.Row.{Row}
use Rattle.mip_bulist.specs.declared.tested.Test.{Test}
use Rattle.mip_bulist.specs.declared.tested.Tested.{Tested}
use Rattle.mip_bulist.specs.declared.tested.Tested.TheVariants.{Both, Home}
use Rattle.mip_bulist.specs.Rows.{lifted}
use Rattle.mip_entries.specs.Stamped.{Stamped}
use Rattle.mip_rules_mobile.specs.Trials.{Start, HomeTest, CareofTest}
use Rattle.mip_rules_mobile.specs.Steps.{Step, Tries}

-- the trial of a row starts
abbrev pub is_start : ℕ → Step → Bool
is_start row (Tries at (Start aim home careof)) = row == at
is_start row _ = false

-- a step that gives a test to the trial of a row
abbrev pub GivesHome : ℕ → Test → Step → Type 0
GivesHome row test step = (peer : Address) × (cookie : Cookie) × (step ≡ Tries row (HomeTest peer cookie test))

abbrev pub GivesCareof : ℕ → Test → Step → Type 0
GivesCareof row test step = (peer : Address) × (cookie : Cookie) × (step ≡ Tries row (CareofTest peer cookie test))

-- such a step was taken since the trial started last
pub record WasGiven (gives : Step → Type 0) (row : ℕ) (past : List (Stamped Step)) : Type 0 where
  pub before : List (Stamped Step)
  pub given : Stamped Step
  pub later : List (Stamped Step)
  pub whole : past ≡ before ++ given ∷ later
  pub is : gives given.step
  pub since : list_any (λ s. is_start row s.step) later ≡ false

abbrev pub HomeGiven : List (Stamped Step) → ℕ → Test → Type 0
HomeGiven past row test = WasGiven (GivesHome row test) row past

abbrev pub CareofGiven : List (Stamped Step) → ℕ → Test → Type 0
CareofGiven past row test = WasGiven (GivesCareof row test) row past

abbrev pub TestedGiven : List (Stamped Step) → ℕ → Tested → Type 0
TestedGiven past row (Both to home careof) = HomeGiven past row home × CareofGiven past row careof
TestedGiven past row (Home home) = HomeGiven past row home

-- the tests that a trial keeps were given to it since it started
abbrev pub TrialGiven : List (Stamped Step) → ℕ → Any → Type 0
TrialGiven past row (Idle t) = Unit {0}
TrialGiven past row (Probing t) = IfSome t.state.home (HomeGiven past row) × IfSome t.state.careof (CareofGiven past row)
TrialGiven past row (Proved t) = TestedGiven past row t.state.tested
TrialGiven past row (Pending t) = TestedGiven past row t.state.tested
TrialGiven past row (Bound t) = Unit {0}

abbrev pub RowsGiven : List (Stamped Step) → List Row → Type 0
RowsGiven past rows = (row : ℕ) → IfSome (lifted row rows) (TrialGiven past row)

-- an update has the tokens and indices of tests that were given to its trial since that started; one that deletes has no
-- care-of token
abbrev pub CareofFrom : List (Stamped Step) → ℕ → Made → Option Token → Type 0
CareofFrom past row made None = Unit {0}
CareofFrom past row made (Some token) = (test : Test) × CareofGiven past row test × (token ≡ test.token) × (made.indices.careof ≡ test.index)

pub record IsMadeFrom (past : List (Stamped Step)) (row : ℕ) (made : Made) : Type 0 where
  pub home : Test
  pub home_given : HomeGiven past row home
  pub home_token : made.home ≡ home.token
  pub home_index : made.indices.home ≡ home.index
  pub careof : CareofFrom past row made made.careof
