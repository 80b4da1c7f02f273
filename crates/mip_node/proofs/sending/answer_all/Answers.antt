use Rattle.std.proofs.Common.{◌∙◌, [], ◌∷◌, refl, sym, ap, arith, rules}
use Rattle.std.proofs.lemmas.Iterator.Consumers.{YieldsList-turn}
use Rattle.std.proofs.lemmas.Iterator.Adapters.{YieldsList-from_vec}
use Rattle.std.proofs.lemmas.List.Sums.{fold_push}
use Rattle.mip_outside.proofs.Calling.{granted_on}
use Rattle.mip_node.specs.Nodes.{Serving, serving, answered_one}
use Rattle.mip_node.specs.Settings.{said}
use Rattle.mip_node.proofs.Calling.{ends_on}
use Rattle.mip_node.proofs.Growing.{err_any, first_more, stopped_at}
use Rattle.mip_node.proofs.sending.answer_all.Goals as goal

pub returns-in_err-answer_one-clause-cut : goal.returns-in_err-answer_one-clause-cut
returns-in_err-answer_one-clause-cut g c =
    let sent = g.L.Link.sent in
    let inv = c.loop-answer.invariant in
    let yielded = YieldsList-turn (YieldsList-from_vec {s = c.into_iter-answer-iterator.result} c.args.answers (search rules) (search rules))
    c.loop-answer.yielded c.loop-answer.answer-iterator c.loop-answer.yielded_by c.next.result c.next.new.self c.in-Some.answer c.in-Some.is c.next.ensures.steps in
    err_any c.from_residual.result
    (stopped_at (said c.args.setting.now) c.args.answers c.loop-answer.yielded c.in-Some.answer (serving c.args.node.now (sent c.args.link.now))
    (serving c.loop-answer.node (sent c.loop-answer.link)) (sent c.answer_one.new.link) inv.first yielded inv.done c.in_err-answer_one.ensures.cut)

pub returns-in_err-answer_one-clause-calls : goal.returns-in_err-answer_one-clause-calls
returns-in_err-answer_one-clause-calls g c = ends_on _ _ _ c.loop-answer.invariant.calls (search rules)

pub loop-answer-preserved : goal.loop-answer-preserved
loop-answer-preserved g c =
    let sent = g.L.Link.sent in
    let inv = c.loop-answer.invariant in
    let yielded = YieldsList-turn (YieldsList-from_vec {s = c.into_iter-answer-iterator.result} c.args.answers (search rules) (search rules))
    c.loop-answer.yielded c.loop-answer.answer-iterator c.loop-answer.yielded_by c.next.result c.next.new.self c.in-Some.answer c.in-Some.is c.next.ensures.steps in
    record {
      first = first_more c.args.answers c.loop-answer.yielded c.in-Some.answer inv.first yielded;
      done = c.in_ok-answer_one.ensures.ok ∙ ap (λ (s : Serving). answered_one (said c.args.setting.now) s c.in-Some.answer) inv.done
          ∙ sym (fold_push (answered_one (said c.args.setting.now)) (serving c.args.node.now (sent c.args.link.now)) c.loop-answer.yielded c.in-Some.answer);
      role = c.answer_one.ensures.role ∙ inv.role;
      coming = c.answer_one.ensures.kept.0 ∙ inv.coming;
      port = c.answer_one.ensures.kept.1 ∙ inv.port;
      calls = granted_on _ _ _ inv.calls (c.in_ok-answer_one.ensures.calls.whole refl);
      faults = omega (arith, inv.faults, c.answer_one.ensures.faults.no_fewer);
    }
