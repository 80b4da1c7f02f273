-- What is known of steps that may fail.
use Rattle.std.proofs.Common.{◌≡◌, refl}
use Rattle.std.specs.Prelude.{Result, Ok, Err}
use Rattle.mip_words.specs.Steps.{◌>>=◌}

-- two steps succeeded only where the first gave something that the second took
pub bind_ok : {A B E : Type 0} (r : Result A E) (f : A → Result B E) (y : B) → (r >>= f) ≡ Ok y → (x : A) × (r ≡ Ok x) × (f x ≡ Ok y)
bind_ok (Ok x) f y e = (x, refl, e)
bind_ok (Err w) f y e = absurd cc

abbrev pub done : {A E : Type 0} → A → Result A E
done x = Ok x

-- an `Ok` has one value
pub ok_is : {A E : Type 0} (x y : A) → done {A = A} {E = E} x ≡ done y → x ≡ y
ok_is x y e = cc
