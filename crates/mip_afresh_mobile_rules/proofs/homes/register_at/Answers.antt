use Rattle.std.proofs.Common.{ap, sym, subst, ◌∙◌}
use Rattle.std.specs.Prelude.{Option}
use Rattle.mip_words.specs.declared.address.Address.{Address}
use Rattle.mip_afresh_mobile_state.specs.Turns.{Goes}
use Rattle.mip_rules_mobile.specs.declared.home_update.HomeUpdate.{HomeUpdate}
use Rattle.mip_rules_mobile.specs.HomeRules.{registers_with, registers_at, wait_behind}
use Rattle.mip_afresh_mobile_rules.proofs.Asking.{asked}
use Rattle.mip_afresh_mobile_rules.proofs.homes.register_at.Goals as goal

pub returns-in-Some : goal.returns-in-Some
returns-in-Some c =
    subst (λ (o : Option Address). Goes c.register_with.result (registers_at c.args.careof o) c.args.turn.now c.register_with.new.turn) (sym c.in-Some.is)
    (asked c.register_with.result c.args.turn.now c.register_with.new.turn (λ k n. wait_behind k.latest) c.wait_behind-wait.result (λ wait. registers_with c.args.careof c.in-Some.agent wait)
    (λ k same. c.wait_behind-wait.ensures ∙ ap (λ (o : Option HomeUpdate). wait_behind o) (c.latest.ensures k same)) c.register_with.ensures)
