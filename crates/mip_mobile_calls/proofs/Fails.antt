-- What want of memory leaves is not spoken of.
use Rattle.std.proofs.Common.{◌≡◌, OnOk}
use Rattle.std.specs.Prelude.{Result, Ok, Err}

pub says-nothing : {T E : Type 0} (P : Type 0) (r : Result T E) (y : E) → r ≡ Err y → OnOk r P
says-nothing P (Ok x) y is = absurd cc
says-nothing P (Err e) y is = tt
