-- The past of a mobile by the calls that it was given.
use Rattle.std.proofs.Common.{◌≡◌, List, [], ◌∷◌, refl}
use Rattle.std.specs.Prelude.{fold}
use Rattle.mip_afresh_mobile.specs.declared.called.Called.{Called}
use Rattle.mip_afresh_mobile.specs.Nodes.{NodeSeen}
use Rattle.mip_afresh_mobile.specs.Pasts.{with_called}

-- calls leave how many bindings its correspondent part has
pub numbers-kept : (m : NodeSeen) (calls : List Called) → (fold with_called m calls).numbers ≡ m.numbers
numbers-kept m [] = refl
numbers-kept m (call ∷ calls) = numbers-kept (with_called m call) calls

pub home-kept : (m : NodeSeen) (calls : List Called) → (fold with_called m calls).home ≡ m.home
home-kept m [] = refl
home-kept m (call ∷ calls) = home-kept (with_called m call) calls
