use Rattle.std.proofs.Common.{sym, subst}
use Rattle.std.specs.Prelude.{Option}
use Rattle.mip_words.specs.declared.address.Address.{Address}
use Rattle.mip_rules_mobile.specs.TrialRules.{starts_with, starts_at}
use Rattle.mip_afresh_mobile_state.specs.Turns.{Goes}
use Rattle.mip_afresh_mobile_rules.proofs.Asking.{asked}
use Rattle.mip_afresh_mobile_rules.proofs.trials.start_at.Goals as goal

pub returns-in-Some : goal.returns-in-Some
returns-in-Some c =
    subst (λ (o : Option Address). Goes c.start_with.result (starts_at o c.args.row) c.args.turn.now c.start_with.new.turn) (sym c.in-Some.is)
    (asked c.start_with.result c.args.turn.now c.start_with.new.turn (λ k n. k.standing) c.standing-standing.result (λ s. starts_with s c.args.row c.in-Some.peer)
    c.standing-standing.ensures c.start_with.ensures)
