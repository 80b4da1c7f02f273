use Rattle.std.proofs.Common.{◌≡◌, ◌∙◌, Some, None, ap, rules}
use Rattle.std.specs.Prelude.{List, position, nat_lt, ◌++◌, ◌∷◌, []}
use Rattle.std.specs.List.{insert}
use Rattle.mip_discovery.specs.declared.agent.Agent.{Agent}
use Rattle.mip_discovery.proofs.Places.{insert_placed, push_placed}
use Rattle.mip_afresh_agent.proofs.listing.place.Goals as goal

pub returns-in_ok-insert-in-Some : goal.returns-in_ok-insert-in-Some
returns-in_ok-insert-in-Some c =
    let at : Some c.in-Some.at ≡ position (λ (x : Agent). nat_lt x.preference c.args.heard.preference) c.args.agents.now = search rules in
    c.in_ok-insert-in-Some.ensures.items ∙ ap (λ (xs : List Agent). insert xs c.in-Some.at c.args.heard) c.in_ok-list.ensures.items
    ∙ insert_placed (λ (x : Agent). x.preference) c.args.heard c.args.agents.now c.in-Some.at at

pub returns-in_ok-push-in-None : goal.returns-in_ok-push-in-None
returns-in_ok-push-in-None c =
    let none : None ≡ position (λ (x : Agent). nat_lt x.preference c.args.heard.preference) c.args.agents.now = search rules in
    c.in_ok-push-in-None.ensures.items ∙ ap (λ (xs : List Agent). xs ++ c.args.heard ∷ []) c.in_ok-list.ensures.items
    ∙ push_placed (λ (x : Agent). x.preference) c.args.heard c.args.agents.now none
