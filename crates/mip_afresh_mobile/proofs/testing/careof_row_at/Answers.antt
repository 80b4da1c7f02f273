use Rattle.std.proofs.Common.{Bool, ap, ◌∙◌, if◌then◌else◌}
use Rattle.std.specs.Prelude.{Option, Some, None, ℕ}
use Rattle.mip_afresh_mobile.proofs.Turned.{shows-seen}
use Rattle.mip_afresh_mobile.proofs.testing.careof_row_at.Goals as goal

pub returns : goal.returns
returns c = λ t test shows.
    let rule : Bool → Option ℕ = λ keeps. if keeps then Some c.args.row else None in
    c.row_if.ensures ∙ ap rule (c.keeps_careof_test.ensures t.known (shows-seen c.args.turn.now t shows) test)
