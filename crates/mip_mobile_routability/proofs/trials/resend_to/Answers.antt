use Rattle.std.proofs.Common.{◌≡◌, ℕ, Bool, false, rules, sym, ap, ◌∙◌, subst, OnOk}
use Rattle.std.specs.Prelude.{◌==◌, if◌then◌else◌}
use Rattle.mip_rules_mobile.specs.Known.{Known}
use Rattle.mip_rules_mobile.specs.RowQuestions.{trial_of, wait_of_row}
use Rattle.mip_rules_mobile.specs.Steps.{Tries}
use Rattle.mip_rules_mobile.specs.Timing.{doubled}
use Rattle.mip_rules_mobile.specs.Trials.{Rest}
use Rattle.mip_rules_mobile.specs.TrialRules.{goes_on}
use Rattle.mip_rules_mobile.specs.Transitions.{Transition, noted}
use Rattle.mip_mobile_context.specs.Seen.{Shows}
use Rattle.mip_mobile_context.proofs.Noted.{shows-known}
use Rattle.mip_mobile_routability.proofs.trials.resend_to.Goals as goal

pub returns : goal.returns
returns c = λ t shows.
    let d = c.args.context.now in
    let row = c.args.at.row in
    let peer = c.args.at.peer in
    let wait : ℕ = wait_of_row d.known row in
    let other : (wait == 32000) ≡ false = search rules in
    let next : c.doubled.result ≡ doubled wait = c.doubled.ensures.value ∙ ap (λ (n : ℕ). doubled n) c.wait_of_row-wait.ensures in
    subst (λ (b : Bool). OnOk c.go_on.result (Shows c.go_on.new.context (let u : Transition = (if b then noted (Tries row Rest) t else goes_on (trial_of t.known row) row peer (doubled wait) t) in u))) (sym other)
    (subst (λ (k : Known). OnOk c.go_on.result (Shows c.go_on.new.context (goes_on (trial_of k row) row peer (doubled wait) t))) (sym (shows-known d t shows))
    (subst (λ (n : ℕ). OnOk c.go_on.result (Shows c.go_on.new.context (goes_on (trial_of d.known row) row peer n t))) next (c.go_on.ensures t shows)))
