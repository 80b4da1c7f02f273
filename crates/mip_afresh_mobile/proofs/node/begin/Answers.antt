use Rattle.std.proofs.Common.{◌≡◌, subst}
use Rattle.std.specs.Prelude.{Option, IfSome}
use Rattle.mip_rules_mobile.specs.Transitions.{begun}
use Rattle.mip_afresh_mobile_state.specs.declared.turn.Turn.{Turn}
use Rattle.mip_afresh_mobile_state.specs.Mobiles.{MobileSeen, seen_of}
use Rattle.mip_afresh_mobile.proofs.Turned.{shows-begun}
use Rattle.mip_afresh_mobile.proofs.node.begin.Goals as goal

pub returns-clause-begins : goal.returns-clause-begins
returns-clause-begins c = λ k call known.
    let first : Turn = record { now = c.args.now; mobile = c.in-Some.mobile; answers = c.in_ok-answers.answers } in
    c.in_ok-call.ensures call (begun c.args.now.0 k)
    (shows-begun first k (subst (λ (o : Option MobileSeen). IfSome o (λ m. seen_of k ≡ m)) c.in-Some.is known) c.in_ok-answers.ensures)
