-- The agent of a mobile, also while it is not registered, beside what it knows in a run.
use Rattle.std.specs.Prelude.{◌≡◌, ◌≢◌, ℕ, ◌^◌, ◌<◌, List, Option, Some, slice_get}
use Rattle.std.specs.List.{AllByRecursion}
use Rattle.mip_words.specs.declared.address.Address.{Address}
use Rattle.mip_entries.specs.Stamped.{Stamped}
use Rattle.mip_rules_mobile.specs.Sendings.{RegistersHome, DeregistersHome}
use Rattle.mip_rules_mobile.specs.Steps.{Step, Sends}
use Rattle.mip_rules_mobile.specs.HomeQuestions.{agent_of}
use Rattle.mip_links.specs.Table.{holder_outside}
use Rattle.mip_schedule.specs.declared.event.Event.{Event}
use Rattle.mip_history.specs.Setup.{Setup}
use Rattle.mip_history.specs.Setup.Kind.{Mobile}
use Rattle.mip_history.specs.Questions.{moment_in}
use Rattle.mip_history.specs.Runs.{mobile_past_at}
use Rattle.mip_history.specs.Knowing.{mobile_known_in}
use Rattle.mip_past.specs.Places.{run_at, front_at}
use Rattle.mip_past.specs.Registering.{agent_of_told}
use Rattle.mip_past.specs.Sending.{IsAway}

-- what a mobile sends to register its home, or to end that, can be spelled: addresses of 128 bits and a sequence of 16, and the home is
-- routable and not the care-of address
abbrev pub IsSpellable : Step → Type 0
IsSpellable (Sends (RegistersHome home careof agent sequence)) = IsAway home careof agent × (sequence < 65536)
IsSpellable (Sends (DeregistersHome home agent sequence)) = (home.0 < 2 ^ 128) × (agent.0 < 2 ^ 128) × (sequence < 65536)
IsSpellable _ = Unit {0}

abbrev pub AreSpellable : List (Stamped Step) → Type 0
AreSpellable past = AllByRecursion (λ s. IsSpellable s.step) past

-- where all that a mobile ever sent so can be spelled, its agent is the one that is asked, whether it is registered or not
abbrev pub IsThroughAsAsked : Setup → List Event → (k : ℕ) → Type 0
IsThroughAsAsked s events k = (n : ℕ) (own : Address) (agent : Option Address) → slice_get s.hosts n ≡ Some (record { address = own; kind = Mobile agent })
    → ((o : ℕ) → n ≢ holder_outside o) → AreSpellable (mobile_past_at (run_at s events k) n)
    → agent_of_told (moment_in s.start (front_at s events k)) (front_at s events k) n ≡ agent_of (mobile_known_in s (run_at s events k) n own agent) (moment_in s.start (front_at s events k))
