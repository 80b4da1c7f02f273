use Rattle.std.proofs.Common.{◌≡◌, ℕ, List, sym, ap, ◌∙◌, subst}
use Rattle.std.specs.Prelude.{IfOk, OnOk, Some}
use Rattle.mip_words.specs.declared.address.Address.{Address}
use Rattle.mip_outside.specs.declared.claim.Claim.{Claim}
use Rattle.mip_outside.specs.Places.{claim_in}
use Rattle.mip_entries.specs.declared.answer.Answer.{Answer}
use Rattle.mip_rules_mobile.specs.Calls as mobiles
use Rattle.mip_rules_mobile.specs.MovingRules.{address_under}
use Rattle.mip_rules_mobile.specs.Steps.{answers_of}
use Rattle.mip_history.specs.Knowing.{now_in, around_in}
use Rattle.mip_afresh_mobile.specs.Nodes.{NodeSeen, transition_at, after_call}
use Rattle.mip_afresh_nodes.specs.MobileCalls.{call_of_mobile}
use Rattle.mip_afresh_nodes.proofs.mobiles.mobile_answers.Goals as goal

pub returns-in-Attach-clause-answers : goal.returns-in-Attach-clause-answers
returns-in-Attach-clause-answers c =
    let t = c.args.telling.now in
    let n = c.args.node.0 in
    let m = c.args.mobile.now in
    let around = around_in t.run n (Some m.home.0) in
    let p = c.in-Attach.prefix.0 in
    subst (λ (ys : List Answer). IfOk c.attach.result (λ xs. xs ≡ ys))
    (ap (λ (x : mobiles.Call). answers_of (transition_at m c.now-now.result.0 x).steps)
    (ap (λ (a : Claim). mobiles.Attach p a c.claim_by_mobile-of_address.result)
    (c.claim_by_mobile-of_home.ensures ∙ ap (λ (o : Address). claim_in (around_in t.run n (Some o.0)) o.0) c.home-home.ensures)
    ∙ ap (λ (b : Claim). mobiles.Attach p (claim_in around m.home.0) b)
    (c.claim_by_mobile-of_address.ensures ∙ ap (λ (x : Address). claim_in (around_in t.run n (Some c.home-home.result.0)) x.0) c.address_under.ensures
    ∙ ap (λ (o : Address). claim_in (around_in t.run n (Some o.0)) (address_under o p).0) c.home-home.ensures)
    ∙ ap (call_of_mobile around m.home) (sym c.in-Attach.is))
    ∙ ap (λ (k : ℕ). answers_of (transition_at m k (call_of_mobile around m.home c.args.call)).steps) c.now-now.ensures)
    c.attach.ensures.answers

pub returns-in-Attach-clause-goes_on : goal.returns-in-Attach-clause-goes_on
returns-in-Attach-clause-goes_on c =
    let t = c.args.telling.now in
    let n = c.args.node.0 in
    let m = c.args.mobile.now in
    let around = around_in t.run n (Some m.home.0) in
    let p = c.in-Attach.prefix.0 in
    subst (λ (x : NodeSeen). OnOk c.attach.result (c.attach.new.self ≡ x))
    (ap (λ (x : mobiles.Call). after_call m c.now-now.result.0 x)
    (ap (λ (a : Claim). mobiles.Attach p a c.claim_by_mobile-of_address.result)
    (c.claim_by_mobile-of_home.ensures ∙ ap (λ (o : Address). claim_in (around_in t.run n (Some o.0)) o.0) c.home-home.ensures)
    ∙ ap (λ (b : Claim). mobiles.Attach p (claim_in around m.home.0) b)
    (c.claim_by_mobile-of_address.ensures ∙ ap (λ (x : Address). claim_in (around_in t.run n (Some c.home-home.result.0)) x.0) c.address_under.ensures
    ∙ ap (λ (o : Address). claim_in (around_in t.run n (Some o.0)) (address_under o p).0) c.home-home.ensures)
    ∙ ap (call_of_mobile around m.home) (sym c.in-Attach.is))
    ∙ ap (λ (k : ℕ). after_call m k (call_of_mobile around m.home c.args.call)) c.now-now.ensures)
    c.attach.ensures.goes_on

pub returns-in-Leave-clause-answers : goal.returns-in-Leave-clause-answers
returns-in-Leave-clause-answers c =
    let t = c.args.telling.now in
    let n = c.args.node.0 in
    let m = c.args.mobile.now in
    let around = around_in t.run n (Some m.home.0) in
    subst (λ (ys : List Answer). IfOk c.leave.result (λ xs. xs ≡ ys))
    (ap (λ (x : mobiles.Call). answers_of (transition_at m c.now-now.result.0 x).steps)
    (ap (λ (a : Claim). mobiles.Leave a)
    (c.claim_by_mobile-of_home-in-Leave.ensures ∙ ap (λ (o : Address). claim_in (around_in t.run n (Some o.0)) o.0) c.home-home.ensures)
    ∙ ap (call_of_mobile around m.home) (sym c.in-Leave.is))
    ∙ ap (λ (k : ℕ). answers_of (transition_at m k (call_of_mobile around m.home c.args.call)).steps) c.now-now.ensures)
    c.leave.ensures.answers

pub returns-in-Leave-clause-goes_on : goal.returns-in-Leave-clause-goes_on
returns-in-Leave-clause-goes_on c =
    let t = c.args.telling.now in
    let n = c.args.node.0 in
    let m = c.args.mobile.now in
    let around = around_in t.run n (Some m.home.0) in
    subst (λ (x : NodeSeen). OnOk c.leave.result (c.leave.new.self ≡ x))
    (ap (λ (x : mobiles.Call). after_call m c.now-now.result.0 x)
    (ap (λ (a : Claim). mobiles.Leave a)
    (c.claim_by_mobile-of_home-in-Leave.ensures ∙ ap (λ (o : Address). claim_in (around_in t.run n (Some o.0)) o.0) c.home-home.ensures)
    ∙ ap (call_of_mobile around m.home) (sym c.in-Leave.is))
    ∙ ap (λ (k : ℕ). after_call m k (call_of_mobile around m.home c.args.call)) c.now-now.ensures)
    c.leave.ensures.goes_on
