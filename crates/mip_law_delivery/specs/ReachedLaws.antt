-- Laws and invariants of Reached: only proofs stand on them.
use Rattle.std.specs.Prelude.{◌≡◌, ◌⊎◌, ℕ, List, ◌∷◌, ◌++◌, true, Some}
use Rattle.mip_words.specs.declared.address.Address.{Address}
use Rattle.mip_schedule.specs.declared.event.Event.{Event}
use Rattle.mip_history.specs.Setup.{Setup}
use Rattle.mip_history.specs.Runs.{Run}
use Rattle.mip_history.specs.Permitted.{run_of}
use Rattle.mip_history.specs.Knowing.{now_in}
use Rattle.mip_history.specs.Told.{present_in, is_bound_in}
use Rattle.mip_law_delivery.specs.Stretches.{split}
use Rattle.mip_law_delivery.specs.Reached.{sending, AreSettledEnds, IsPayload, Reaches}

-- x is present at home, or has a binding with the other end: so it sends without a tunnel
abbrev pub SendsStraight : Setup → Run → (x : ℕ) → (own to : Address) → Type 0
SendsStraight s run x own to = (present_in run.past x own ≡ Some own) ⊎ (is_bound_in (now_in s run) run.past x to ≡ true)

-- the same of data that its sender puts into no tunnel
abbrev pub EachReachesStraight : Setup → List Event → Type 0
EachReachesStraight s events =
    (before more rest : List Event) (x y : ℕ) (own to : Address) (proto : ℕ) (payload : List ℕ)
    → split events ≡ before ++ (sending x to proto payload ∷ (more ++ rest)) → IsPayload proto payload → SendsStraight s (run_of s before) x own to
    → AreSettledEnds s (run_of s before) x y own to → Reaches s (run_of s before) x y own to proto payload more
