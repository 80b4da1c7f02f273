use Rattle.std.proofs.Common.{subst, OnOk}
use Rattle.mip_words.specs.declared.address.Address.{Address}
use Rattle.mip_mobile_calls.proofs.Contexts.{transition_at, from-context}
use Rattle.mip_mobile_registration.specs.Seen.{Shows}
use Rattle.mip_rules_mobile.specs.Transitions.{noted}
use Rattle.mip_rules_mobile.specs.HomeQuestions.{home_of}
use Rattle.mip_rules_mobile.specs.Steps.{Releases}
use Rattle.mip_mobile_calls.proofs.moving.release_own.Goals as goal

pub returns : goal.returns
returns c =
    let d = c.args.context.now in
    from-context d (λ t. OnOk c.release.result (Shows c.release.new.self (noted (Releases (home_of t.known)) t)))
    (λ steps shows. subst (λ (h : Address). OnOk c.release.result (Shows c.release.new.self (noted (Releases h) (transition_at d steps)))) c.home-home.ensures.value (c.release.ensures (transition_at d steps) shows))
