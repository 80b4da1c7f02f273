-- A run that gives its history away piece by piece, for whoever takes the pieces.
use Rattle.std.proofs.Common.{◌≡◌, ◌-◌, ◌<◌, sym, ap, ◌∙◌, arith, List, [], ◌++◌, length, append-nil, length-append}
use Rattle.std.specs.Prelude.{Option, None, Some, unwrap_or}
use Rattle.mip_entries.specs.declared.entry.Entry.{Entry}
use Rattle.mip_schedule.specs.Contents.{Content}
use Rattle.mip_history.specs.Permitted.{permitted}
use Rattle.mip_replay.specs.Pieces.{RunSeen, IsRunOf}
use Rattle.mip_replay.proofs.RunLaws.{told_front}

-- what is told once a piece was given away
pub told_more : (next told items piece : List Entry) (given : Option (List Entry)) → next ≡ told ++ unwrap_or given [] → given ≡ Some piece → items ≡ piece → next ≡ told ++ items
told_more next told items piece given more some are =
    more ∙ ap (λ (o : Option (List Entry)). told ++ unwrap_or o []) some ∙ ap (λ (l : List Entry). told ++ l) (sym are)

-- where no piece was left to give away all of it is told
pub told_last : (next told whole : List Entry) (given : Option (List Entry)) → next ≡ told ++ unwrap_or given [] → given ≡ None → (given ≡ None → next ≡ whole) → told ≡ whole
told_last next told whole given more none end =
    sym (append-nil told) ∙ ap (λ (o : Option (List Entry)). told ++ unwrap_or o []) (sym none) ∙ sym more ∙ end none

-- with each piece less is left
pub less_left : (r : RunSeen) (c : Content) (told items : List Entry) → IsRunOf r c → r.told ≡ told ++ items → 0 < length items
    → length (permitted c) - length r.told < length (permitted c) - length told
less_left r c told items is more some =
    let front = told_front r c is in
    omega (arith, ap (λ (l : List Entry). length l) front.1, length-append r.told front.0, ap (λ (l : List Entry). length l) more, length-append told items, some)
