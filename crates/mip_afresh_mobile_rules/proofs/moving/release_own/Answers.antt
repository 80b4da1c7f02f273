use Rattle.mip_rules_mobile.specs.Steps.{Releases}
use Rattle.mip_rules_mobile.specs.Transitions.{noted}
use Rattle.mip_rules_mobile.specs.HomeQuestions.{home_of}
use Rattle.mip_afresh_mobile_rules.proofs.Asking.{asked}
use Rattle.mip_afresh_mobile_rules.proofs.moving.release_own.Goals as goal

pub returns : goal.returns
returns c =
    asked c.release.result c.args.turn.now c.release.new.self (λ k n. home_of k) c.home-home.result (λ home. noted (Releases home)) c.home-home.ensures c.release.ensures
