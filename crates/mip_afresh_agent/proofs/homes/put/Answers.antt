use Rattle.std.proofs.Common.{◌≡◌, ◌∙◌, Some, None, sym, ap, rules}
use Rattle.std.specs.Prelude.{position, not, nat_lt}
use Rattle.mip_rules_agent.specs.declared.served.Served.{Served}
use Rattle.mip_rules_agent.specs.Questions.{key_of}
use Rattle.mip_afresh_agent.proofs.Put.{put_inserted, put_replaced, put_pushed}
use Rattle.mip_afresh_agent.proofs.homes.put.Goals as goal

pub returns-in_ok-push-in-None : goal.returns-in_ok-push-in-None
returns-in_ok-push-in-None c =
    let none : None ≡ position (λ s. not (nat_lt s.home.0 c.args.new.home.0)) c.args.homes.now.items = search rules in
    c.in_ok-push-in-None.ensures.items ∙ put_pushed key_of c.args.new c.args.homes.now.items none

pub returns-then-index-new : goal.returns-then-index-new
returns-then-index-new c =
    let at : Some c.in-Some.at ≡ position (λ s. not (nat_lt s.home.0 c.args.new.home.0)) c.args.homes.now.items = search rules in
    put_replaced key_of c.args.new c.args.homes.now.items c.index.result.now c.in-Some.at at
    (sym (ap (λ (s : Served). key_of s) c.index.ensures) ∙ c.if-index-new.true)

pub returns-in_ok-insert-in-Some : goal.returns-in_ok-insert-in-Some
returns-in_ok-insert-in-Some c =
    let at : Some c.in-Some.at ≡ position (λ s. not (nat_lt s.home.0 c.args.new.home.0)) c.args.homes.now.items = search rules in
    c.in_ok-insert-in-Some.ensures.items
    ∙ put_inserted key_of c.args.new c.args.homes.now.items c.index.result.now c.in-Some.at at
    (λ same. c.if-index-new.false (ap (λ (s : Served). key_of s) c.index.ensures ∙ same))
