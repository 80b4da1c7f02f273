-- The trial that making an update leaves is the same, whether the update is made or not.
use Rattle.std.proofs.Common.{◌≡◌, refl}
use Rattle.std.specs.Prelude.{Result, Ok, Err}
use Rattle.mip_bulist.specs.declared.any.Any.{Any}
use Rattle.mip_bulist.specs.declared.any.Any.TheVariants.{Proved, Pending}
use Rattle.mip_bulist.specs.declared.made.Made.{Made}
use Rattle.mip_bulist.specs.declared.refused.Refused.{Refused}
use Rattle.mip_bulist.specs.declared.state.Proved as proved
use Rattle.mip_bulist.specs.declared.state.Pending as pending
use Rattle.mip_bulist.specs.declared.trial.Trial.{Trial}
use Rattle.mip_bulist.specs.Trials.{trial_left}
use Rattle.mip_rules_mobile.specs.Trials.{after_update, after_again}

abbrev pub after_first : Result (Trial pending.Pending) (Trial proved.Proved × Refused) → Any
after_first (Ok t) = Pending t
after_first (Err e) = Proved e.0

abbrev pub after_later : Result (Trial pending.Pending) (Trial pending.Pending × Refused) → Any
after_later (Ok t) = Pending t
after_later (Err e) = Pending e.0

pub first_left : (r : Result (Trial pending.Pending × Made) (Trial proved.Proved × Refused)) → after_first (trial_left r) ≡ after_update r
first_left (Ok r) = refl
first_left (Err e) = refl

pub later_left : (r : Result (Trial pending.Pending × Made) (Trial pending.Pending × Refused)) → after_later (trial_left r) ≡ after_again r
later_left (Ok r) = refl
later_left (Err e) = refl
