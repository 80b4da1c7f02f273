use Rattle.std.proofs.Common.{sym, subst}
use Rattle.std.specs.Prelude.{Option}
use Rattle.mip_words.specs.declared.address.Address.{Address}
use Rattle.mip_afresh_mobile_state.specs.Turns.{Goes}
use Rattle.mip_rules_mobile.specs.Trials.{makes}
use Rattle.mip_rules_mobile.specs.TimerQuestions.{moment}
use Rattle.mip_rules_mobile.specs.RowQuestions.{trial_of}
use Rattle.mip_rules_mobile.specs.TrialRules.{makes_with, makes_at}
use Rattle.mip_afresh_mobile_rules.proofs.Asking.{asked}
use Rattle.mip_afresh_mobile_rules.proofs.updates.make_at.Goals as goal

pub returns-in-Some : goal.returns-in-Some
returns-in-Some c =
    subst (λ (o : Option Address). Goes c.make_with.result (makes_at o c.args.row c.args.wait) c.args.turn.now c.make_with.new.turn) (sym c.in-Some.is)
    (asked c.make_with.result c.args.turn.now c.make_with.new.turn (λ k n. makes (moment n) (trial_of k c.args.row)) c.makes-made.result
    (λ made. makes_with made c.args.row c.in-Some.peer c.args.wait) c.makes-made.ensures c.make_with.ensures)
