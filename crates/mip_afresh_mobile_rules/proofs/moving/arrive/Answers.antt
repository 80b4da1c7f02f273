use Rattle.std.proofs.Common.{ap, ◌∙◌}
use Rattle.mip_words.specs.declared.address.Address.{Address}
use Rattle.mip_rules_mobile.specs.HomeQuestions.{home_of}
use Rattle.mip_rules_mobile.specs.MovingRules.{address_under, arrives_by, arrives}
use Rattle.mip_afresh_mobile_rules.proofs.Asking.{asked}
use Rattle.mip_afresh_mobile_rules.proofs.moving.arrive.Goals as goal

pub returns : goal.returns
unfolding arrives
returns c =
    asked c.arrive_by.result c.args.turn.now c.arrive_by.new.turn (λ k n. address_under (home_of k) c.args.prefix.0) c.address_under-address.result
    (λ address. arrives_by c.args.claim address)
    (λ k same. c.address_under-address.ensures ∙ ap (λ (home : Address). address_under home c.args.prefix.0) (c.home.ensures k same)) c.arrive_by.ensures
