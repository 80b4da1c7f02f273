use Rattle.std.proofs.Common.{◌≡◌, true, sym, subst, ◌∙◌}
use Rattle.std.specs.Prelude.{Option, Some, IfOk, OnOk}
use Rattle.mip_words.specs.declared.address.Address.{Address}
use Rattle.mip_history.specs.Calls.{for_mobile}
use Rattle.mip_rules_mobile.specs.Calls.{Call}
use Rattle.mip_rules_mobile.specs.Doing.{handles, transition_of}
use Rattle.mip_rules_mobile.specs.HomeQuestions.{home_of}
use Rattle.mip_rules_mobile.specs.Steps.{answers_of}
use Rattle.mip_mobile_calls.specs.Seen.{Shows}
use Rattle.mip_roles.specs.Calls.{asked}
use Rattle.mip_roles.specs.Places.{around_seen}
use Rattle.mip_roles.specs.Roles.{or_idle, or_same}
use Rattle.mip_roles.proofs.Ended.{done-shows, calm-after}
use Rattle.mip_roles.proofs.mobile.ask.Goals.{After-finish}
use Rattle.mip_roles.proofs.mobile.ask.Goals as goal

-- what it is asked, as a mobile is
abbrev is_asked : After-finish → Option Call
is_asked c = for_mobile (around_seen c.args.place.now) (home_of c.args.context.now.known) (asked c.args.at.call)

-- its context shows the transition of that call
done : (c : After-finish) → (x : Call) × (is_asked c ≡ Some x) × OnOk c.handle-done.result (Shows c.handle-done.new.context (transition_of c.args.context.now.known c.args.at.now.0 x))
done c =
    let around = around_seen c.args.place.now in
    done-shows c.call.new.self c.handle-done.new.context c.args.context.now.known c.args.at.now.0 c.handle-done.result (is_asked c)
    (c.is_for_mobile.ensures around (home_of c.args.context.now.known) ∙ c.if-is_for_mobile.true)
    (λ call. c.in_ok-call.ensures.shows call)
    (λ t shows. subst (λ (home : Address). OnOk c.handle-done.result (Shows c.handle-done.new.context (or_same t (λ x. handles x t) (for_mobile around home (asked c.args.at.call)))))
    c.in_ok-call.ensures.home (c.handle-done.ensures t shows))

pub returns-in_ok-call-clause-answers : goal.returns-in_ok-call-clause-answers
returns-in_ok-call-clause-answers c =
    let k = c.args.context.now.known in
    let now = c.args.at.now.0 in
    let x = (done c).0 in
    subst (λ (o : Option Call). IfOk c.finish.result (λ a. a ≡ or_idle (λ x. answers_of (transition_of k now x).steps) o)) (sym (done c).1)
    (c.finish.ensures.answers k now x (done c).2)

pub returns-in_ok-call-clause-after : goal.returns-in_ok-call-clause-after
returns-in_ok-call-clause-after c =
    let k = c.args.context.now.known in
    let now = c.args.at.now.0 in
    let x = (done c).0 in
    subst (λ (o : Option Call). OnOk c.finish.result (c.finish.new.context.known ≡ or_same k (λ x. (transition_of k now x).known) o)) (sym (done c).1)
    (c.finish.ensures.known k now x (done c).2)

pub returns-in_ok-call-clause-calm : goal.returns-in_ok-call-clause-calm
returns-in_ok-call-clause-calm c =
    let d = c.finish.new.context in
    calm-after c.finish.result d.moment d.known.last.0 c.args.at.now.0 (c.finish.ensures.calm c.args.context.now.known c.args.at.now.0 (done c).0 (done c).2)
