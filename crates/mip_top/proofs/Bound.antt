-- What is known of the history of each text of a schedule.
use Rattle.std.proofs.Common.{◌≡◌, ℕ, List, refl}
use Rattle.std.specs.Prelude.{Result, Ok, Err, IfOk}
use Rattle.mip_schedule.specs.Contents.{Content}
use Rattle.mip_schedule.specs.Faults.{Wrong}
use Rattle.mip_schedule.specs.Reading.{reading}

-- what holds of each schedule that is read holds of what any text is read as
module _ (P : Content → Type 0) (law : (text : List ℕ) (c : Content) → reading text ≡ Ok c → P c) where
  if_read : (text : List ℕ) (r : Result Content Wrong) → reading text ≡ r → IfOk r P
  if_read text (Ok c) is = law text c is
  if_read text (Err wrong) is = tt

  pub if_told : (bytes : List ℕ) → IfOk (reading bytes) P
  if_told bytes = if_read bytes (reading bytes) refl
