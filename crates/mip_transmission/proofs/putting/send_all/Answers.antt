use Rattle.std.proofs.Common.{◌≡◌, ◌++◌, ◌∷◌, [], ◌≤◌, ◌∙◌, List, sym, subst, arith, rules}
use Rattle.std.specs.Prelude.{option_map}
use Rattle.std.proofs.lemmas.Iterator.Consumers.{YieldsList-turn}
use Rattle.std.proofs.lemmas.Iterator.Adapters.{YieldsList-from_vec}
use Rattle.mip_entries.specs.declared.answer.Answer.{Answer}
use Rattle.mip_transmission.specs.Putting.{PutsAll, puts_of, sends_of, put_fault}
use Rattle.mip_transmission.proofs.PutLaws.{puts-more, out-more, answered-more, on-err, first-more, front-none, front-puts, front-failed}
use Rattle.mip_transmission.proofs.putting.send_all.Goals as goal

pub loop-answer-preserved : goal.loop-answer-preserved
loop-answer-preserved g c =
    let gives = g.W.Wire.gives in
    let asked : List Answer = c.loop-answer.yielded in
    let before : List Answer = c.loop-answer.answers in
    let a : Answer = c.in-Some.answer in
    let b : Answer = c.in_ok-send_one.field-0 in
    let inv = c.loop-answer.invariant in
    let yielded = YieldsList-turn (YieldsList-from_vec {s = c.into_iter-answer-iterator.result} c.args.asked (search rules) (search rules))
    asked c.loop-answer.answer-iterator c.loop-answer.yielded_by c.next.result c.next.new.self a c.in-Some.is c.next.ensures.steps in
    let pushed : c.push.new.self ≡ before ++ b ∷ [] = c.in_ok-push.ensures.ok in (
      first-more c.args.asked asked a inv.0 yielded,
      subst (λ (bs : List Answer). PutsAll gives (asked ++ a ∷ []) bs) (sym pushed) (puts-more gives asked before a b inv.1 c.in_ok-send_one.ensures.puts),
      subst (λ (bs : List Answer). g.W.Wire.out c.send_one.new.wire ≡ option_map (λ items. items ++ sends_of bs) (g.W.Wire.out c.args.wire.now)) (sym pushed)
          (out-more (g.W.Wire.out c.args.wire.now) (g.W.Wire.out c.loop-answer.wire) (g.W.Wire.out c.send_one.new.wire) before b inv.2 c.in_ok-send_one.ensures.out),
      (let low : g.W.Wire.faults c.args.wire.now ≤ g.W.Wire.faults c.loop-answer.wire = inv.3 in
          let high : g.W.Wire.faults c.loop-answer.wire ≤ g.W.Wire.faults c.send_one.new.wire = c.send_one.ensures.no_fewer in
          omega arith),
      g.met.W.Wire.same_since c.args.wire.now c.loop-answer.wire c.send_one.new.wire inv.4 c.send_one.ensures.same,
      subst (λ (bs : List Answer). g.W.Wire.answered c.send_one.new.wire ≡ g.W.Wire.answered c.args.wire.now ++ puts_of (asked ++ a ∷ []) bs) (sym pushed)
          (answered-more gives (g.W.Wire.answered c.args.wire.now) (g.W.Wire.answered c.loop-answer.wire) (g.W.Wire.answered c.send_one.new.wire) asked before a b inv.1 inv.5 c.in_ok-send_one.ensures.answered),
    )

pub returns-in_err-send_one-clause-front : goal.returns-in_err-send_one-clause-front
returns-in_err-send_one-clause-front g c =
    let out = g.W.Wire.out in
    let puts = g.W.Wire.answered in
    let inv = c.loop-answer.invariant in
    on-err c.from_residual-in_err-send_one.result
    (front-failed g.W.Wire.gives c.args.asked c.loop-answer.yielded c.loop-answer.answers (out c.args.wire.now) (out c.send_one.new.wire) (puts c.args.wire.now) (puts c.send_one.new.wire)
    (puts c.loop-answer.wire) (put_fault c.in_err-send_one.field-0.0) inv.0 inv.1 (c.in_err-send_one.ensures.err ∙ inv.2) inv.5 c.in_err-send_one.ensures.once)

pub returns-in_err-push-clause-front : goal.returns-in_err-push-clause-front
returns-in_err-push-clause-front g c =
    let gives = g.W.Wire.gives in
    let out = g.W.Wire.out in
    let puts = g.W.Wire.answered in
    let asked : List Answer = c.loop-answer.yielded in
    let before : List Answer = c.loop-answer.answers in
    let a : Answer = c.in-Some.answer in
    let b : Answer = c.in_ok-send_one.field-0 in
    let inv = c.loop-answer.invariant in
    let yielded = YieldsList-turn (YieldsList-from_vec {s = c.into_iter-answer-iterator.result} c.args.asked (search rules) (search rules))
    asked c.loop-answer.answer-iterator c.loop-answer.yielded_by c.next.result c.next.new.self a c.in-Some.is c.next.ensures.steps in
    on-err c.from_residual-in_err-push.result
    (front-puts gives c.args.asked (asked ++ a ∷ []) (before ++ b ∷ []) (out c.args.wire.now) (out c.send_one.new.wire) (puts c.args.wire.now) (puts c.send_one.new.wire)
    (first-more c.args.asked asked a inv.0 yielded) (puts-more gives asked before a b inv.1 c.in_ok-send_one.ensures.puts)
    (out-more (out c.args.wire.now) (out c.loop-answer.wire) (out c.send_one.new.wire) before b inv.2 c.in_ok-send_one.ensures.out)
    (answered-more gives (puts c.args.wire.now) (puts c.loop-answer.wire) (puts c.send_one.new.wire) asked before a b inv.1 inv.5 c.in_ok-send_one.ensures.answered))

pub returns-in_err-answers-clause-front : goal.returns-in_err-answers-clause-front
returns-in_err-answers-clause-front g c = on-err c.from_residual.result (front-none g.W.Wire.gives c.args.asked (g.W.Wire.out c.args.wire.now) (g.W.Wire.answered c.args.wire.now))
