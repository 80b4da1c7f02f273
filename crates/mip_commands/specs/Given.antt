-- The words that a program was started with.
use Rattle.std.specs.Prelude.{◌≡◌, List, [], drop, Result, Ok, Err, IsErrAnd}
use Rattle.std.specs.IoError.{error_kind}
use Rattle.std.specs.Vec.Iter.{into_iter_items}
use Rattle.std.specs.declared.io.Error.{Error}
use Rattle.std.specs.declared.io.ErrorKind.TheVariants.{OutOfMemory}
use Rattle.std.specs.declared.vec.IntoIter.{IntoIter}

-- those behind the program's name; none, where they could not be had
abbrev pub words_behind : {X Z E : Type 0} → Result (IntoIter X Z) E → List X
words_behind (Ok all) = drop 1 (into_iter_items all)
words_behind (Err error) = []

-- there was no memory for them
abbrev pub LacksMemory : {X : Type 0} → Result X Error → Type 0
LacksMemory all = IsErrAnd all (λ error. error_kind error ≡ OutOfMemory)
