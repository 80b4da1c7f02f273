-- What the steps of a call rest on: which of them take somebody's word, and what stood right before.
-- RFC 6275 sections 11.6.2 and 11.7.3
use Rattle.std.specs.Prelude.{◌≡◌, ◌≢◌, ℕ, ◌+◌, ◌*◌, List, [], ◌∷◌, true, Option, Some, None}
use Rattle.std.specs.Option.{option_map_or}
use Rattle.mip_words.specs.declared.moment.Moment.{Moment}
use Rattle.mip_bulist.specs.declared.any.Any.{Any}
use Rattle.mip_bulist.specs.declared.any.Any.TheVariants.{Idle, Probing, Proved, Pending, Bound}
use Rattle.mip_rules_mobile.specs.Calls.{Call}
use Rattle.mip_rules_mobile.specs.Coming.{is_take}
use Rattle.mip_rules_mobile.specs.Trials.{HomeTest, Acknowledge}
use Rattle.mip_rules_mobile.specs.Steps.{Step, Registers, Unregisters, IsRefused, Resequences, Tries, Binds}
use Rattle.mip_rules_mobile.specs.Known.{Known}
use Rattle.mip_rules_mobile.specs.RowQuestions.{trial_of}
use Rattle.mip_rules_mobile.specs.Questions.{after}
use Rattle.mip_rules_mobile.specs.Trusting.{IsRegistered, IsUnregistered, IsDeclined, IsBehind, IsAcknowledged, ComesByTunnel}

-- a relation holds of each step with what is known where it is taken
abbrev pub EachStep : (Known → Step → Type 0) → ℕ → Known → List Step → Type 0
EachStep R now k [] = Unit {0}
EachStep R now k (step ∷ steps) = R k step × EachStep R now (after k (record { at = now; step = step })) steps

-- what an agent answers is told and kept only of its acknowledgement; a registration ends by itself too
abbrev pub IsAgentsAnswer : Call → Known → Step → Type 0
IsAgentsAnswer c k (Registers agent end renew) = IsRegistered c k.latest agent end renew
IsAgentsAnswer c k (Unregisters agent) = is_take c ≡ true → IsUnregistered c k.latest agent
IsAgentsAnswer c k (IsRefused status) = IsDeclined c k.latest status
IsAgentsAnswer c k (Resequences agent last) = IsBehind c k.latest agent last
IsAgentsAnswer c k _ = Unit {0}

-- an update is acknowledged only by its peer's acknowledgement
abbrev pub IsPeersAnswer : Call → ℕ → Known → Step → Type 0
IsPeersAnswer c now k (Tries row (Acknowledge sequence granted)) = IsAcknowledged c k now row sequence granted
IsPeersAnswer c now k _ = Unit {0}

-- away, a Home Test is kept only out of the agent's tunnel
abbrev pub IsTestTunnelled : Call → ℕ → Known → Step → Type 0
IsTestTunnelled c now k (Tries row (HomeTest peer cookie test)) = ComesByTunnel c now k
IsTestTunnelled c now k _ = Unit {0}

-- when the last update of a trial was made
abbrev pub last_sent : Option Any → Option Moment
last_sent None = None
last_sent (Some (Idle t)) = t.recent.newest
last_sent (Some (Probing t)) = t.recent.newest
last_sent (Some (Proved t)) = t.recent.newest
last_sent (Some (Pending t)) = t.recent.newest
last_sent (Some (Bound t)) = t.recent.newest

-- a binding is told right behind the acknowledgement of its row's update: its end lies 4 s for each unit granted behind the
-- sending of the last update, and its renewal three quarters of that
pub record IsBoundBehind (k : Known) (now : ℕ) (before : Option Step) (row : ℕ) (end renew : Moment) : Type 0 where
  pub sequence : ℕ
  pub granted : ℕ
  pub behind : before ≡ Some (Tries row (Acknowledge sequence granted))
  pub some : granted ≢ 0
  pub ends : end.0 ≡ option_map_or (λ m. m.0) (last_sent (trial_of k row)) now + 4000 * granted
  pub renews : renew.0 ≡ option_map_or (λ m. m.0) (last_sent (trial_of k row)) now + 3000 * granted

abbrev pub IsLed : (now : ℕ) → Known → Option Step → Step → Type 0
IsLed now k before (Binds row peer end renew) = IsBoundBehind k now before row end renew
IsLed now k before _ = Unit {0}

abbrev pub AreLed : (now : ℕ) → Known → Option Step → List Step → Type 0
AreLed now k before [] = Unit {0}
AreLed now k before (step ∷ steps) = IsLed now k before step × AreLed now (after k (record { at = now; step = step })) (Some step) steps

-- the last step of all
abbrev pub last_step : Option Step → List Step → Option Step
last_step before [] = before
last_step before (step ∷ steps) = last_step (Some step) steps
