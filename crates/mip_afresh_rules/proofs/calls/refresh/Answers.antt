use Rattle.std.proofs.Common.{refl, subst, ◌∙◌}
use Rattle.std.specs.Prelude.{Option}
use Rattle.mip_words.specs.declared.address.Address.{Address}
use Rattle.mip_rules_correspondent.specs.Calls.{Refresh}
use Rattle.mip_rules_correspondent.specs.Doing.{request_refresh, refreshes}
use Rattle.mip_afresh_rules.specs.Showing.{Shown}
use Rattle.mip_afresh_rules.proofs.ShowingLaws.{ended, held-here}
use Rattle.mip_afresh_rules.proofs.calls.refresh.Goals as goal

pub returns : goal.returns
unfolding refreshes
returns c = λ now k held.
    let home = c.args.home.address in
    let none = c.in_ok-answers.answers in
    ended c.args.me.now k now (Refresh home) none c.ask_refresh.new.answers refl c.in_ok-answers.ensures
    (λ t same begins.
    subst (λ (o : Option Address). Shown now c.ask_refresh.new.answers (request_refresh c.args.me.now home o t)) (held ∙ held-here k now home none t same begins)
    (c.in_ok-ask_refresh.ensures now t begins))
